-- An append and a rotation, by the taken disk and the one beside it.
use Rattle.std.proofs.Common.{◌≡◌, ◌⊎◌, List, [], ◌∷◌, ◌++◌, ℕ, refl, sym, ◌∙◌, subst}
use Rattle.liq_types.specs.declared.requests.Command.{Command}
use Rattle.liq_types.specs.State.{State}
use Rattle.liq_rule_step.specs.Step.{Allowed, after, ruling}
use Rattle.liq_journal.specs.Crash.{BeforeOrAfter, CreateLeaves, Stands}
use Rattle.liq_journal.specs.Written.{Open, Written, and_then, found_on}
use Rattle.liq_disk_pair.specs.declared.side.Side.{Side}
use Rattle.liq_disk_pair.specs.declared.side.Side.TheVariants.{Left, Right}
use Rattle.liq_disk_pair.specs.Kept.{IsKeptWith, IsRotationOf, IsSettledFor}
use Rattle.liq_disk_pair.specs.Pair.{commands_on}
use Rattle.liq_disk_pair.specs.Sides.{has_odd, on, other}
use Rattle.liq_disk_pair.proofs.Keeping.{append_kept, append_settled}
use Rattle.liq_disk_pair.proofs.Turning.{rotation_kept}

one_found : (side : Side) (held : List ℕ) (v w : Written) → found_on (has_odd side) held ≡ Open v
    → found_on (has_odd side) held ≡ Open w → w ≡ v
one_found side held v w first second = let both : Open w ≡ Open v = sym second ∙ first in cc (both)

pub kept_around : (side : Side) (held other image : List ℕ) (s : State) (w : Written) (c : Command)
    → IsSettledFor side (on side held other) (on side other held) s → found_on (has_odd side) held ≡ Open w
    → ruling s c ≡ Allowed → BeforeOrAfter (has_odd side) w c image
    → IsKeptWith (on side image other) (on side other image) s (commands_on (on side held other) (on side other held))
    ⊎ IsKeptWith (on side image other) (on side other image) (after s c)
    (commands_on (on side held other) (on side other held) ++ c ∷ [])
kept_around Left held other image s w c settled found allowed left =
    append_kept Left held other image other s c settled allowed refl
    (subst (λ (v : Written). BeforeOrAfter (has_odd Left) v c image)
    (one_found Left held settled.written w settled.open_on.found found) left)
kept_around Right held other image s w c settled found allowed left =
    append_kept Right other held other image s c settled allowed refl
    (subst (λ (v : Written). BeforeOrAfter (has_odd Right) v c image) (one_found Right held settled.written w
    settled.open_on.found found) left)

pub settled_after : (side : Side) (held other image : List ℕ) (s : State) (w : Written) (c : Command)
    → IsSettledFor side (on side held other) (on side other held) s → found_on (has_odd side) held ≡ Open w
    → ruling s c ≡ Allowed → Stands (has_odd side) image (and_then w c)
    → IsSettledFor side (on side image other) (on side other image) (after s c)
settled_after Left held other image s w c settled found allowed stands =
    append_settled Left held other image other s c settled allowed refl
    (subst (λ (v : Written). Stands (has_odd Left) image (and_then v c))
    (one_found Left held settled.written w settled.open_on.found found) stands)
settled_after Right held other image s w c settled found allowed stands =
    append_settled Right other held other image s c settled allowed refl
    (subst (λ (v : Written). Stands (has_odd Right) image (and_then v c)) (one_found Right held settled.written w
    settled.open_on.found found) stands)

pub turn_kept : (side : Side) (held aside image : List ℕ) (s : State) (w : Written) (c : Command)
    → IsSettledFor side (on side held aside) (on side aside held) s → IsRotationOf s w c → w.commands ≡ []
    → CreateLeaves (has_odd (other side)) aside w image
    → IsKeptWith (on side held image) (on side image held) s (commands_on (on side held aside) (on side aside held))
    ⊎ IsKeptWith (on side held image) (on side image held) (after s c) []
turn_kept Left held aside image s w c settled rotation none left =
    rotation_kept Left held aside held image s c w settled rotation refl none left
turn_kept Right held aside image s w c settled rotation none left =
    rotation_kept Right aside held image held s c w settled rotation refl none left
