-- What an opening leaves that made no step is kept for what it was kept for.
use Rattle.std.proofs.Common.{◌≡◌, List, [], ℕ, Option, Ok, inl, inr, true, false, sym, ap, ◌∙◌, arith}
use Rattle.std.specs.Prelude.{unwrap_or}
use Rattle.liq_types.specs.declared.figures.Client.{Client}
use Rattle.liq_types.specs.declared.requests.Command.{Command}
use Rattle.liq_types.specs.declared.image.Image.{Image}
use Rattle.liq_types.specs.State.{State, client_of, no_client}
use Rattle.liq_types.specs.Tables.{at}
use Rattle.liq_types.proofs.Lookups.{at-put_same}
use Rattle.liq_rule_step.specs.Image.{image}
use Rattle.liq_rule_step.specs.Step.{Allowed, after, done_of, effect, ruling}
use Rattle.liq_rule_step.proofs.Allowed.{allowed_number}
use Rattle.liq_disk_pair.specs.Kept.{IsKeptWith}
use Rattle.liq_disk_pair.specs.Pair.{commands_on, state_on}
use Rattle.liq_disk_pair.specs.Unfinished.{HoldsUnfinished, IsRecovered}
use Rattle.liq_disk_pair.proofs.Commands.{commands_alike}
use Rattle.liq_disk_pair.proofs.KeptWith.{commands_none, first_commands}
use Rattle.liq_journal.specs.Written.{Absent, found_on}
use Rattle.liq_store.specs.Opening.{OnlyOpens}
use Rattle.liq_store.proofs.Shutting.{shuts_alike}

-- what was unfinished is accepted
pub unfinished_is_allowed : (l r : List ℕ) (s : State) (c : Command) → HoldsUnfinished l r s c → ruling s c ≡ Allowed
unfinished_is_allowed l r s c (side, inl unfinished) = unfinished.record_is.allowed
unfinished_is_allowed l r s c (side, inr rotated) = rotated.rotation.rotation.allowed

-- a command that is accepted changes the image, since its client's last number goes up
pub accepted_changes : (s : State) (c : Command) → ruling s c ≡ Allowed → image s ≡ image (after s c) → ⊥
accepted_changes s c allowed same =
    let kept : Client = record { last = c.number; kept = done_of s c.call } in
    let stays : (client_of s c.client).last ≡ (client_of (after s c) c.client).last =
    ap (λ (i : Image). (unwrap_or (at i.clients c.client) no_client).last) same in
    let goes : (client_of (after s c) c.client).last ≡ c.number =
    ap (λ (o : Option Client). (unwrap_or o no_client).last) (at-put_same (effect s c.call).clients c.client kept) in
    omega (arith, stays, goes, allowed_number s c allowed)

-- where they still stand for the state, the command that was unfinished was not made
pub still_kept : (l r a b : List ℕ) (s : State) → state_on a b ≡ Ok s → IsRecovered l r s a b
    → IsKeptWith a b s (commands_on l r)
still_kept l r a b s is (inl kept) = kept
still_kept l r a b s is (inr more) =
    let stands = more.2.kept.stands in
    let here : stands.state ≡ s = cc (stands.is, is) in
    absurd (accepted_changes s more.0 (unfinished_is_allowed l r s more.0 more.1) (sym (ap image here)
    ∙ stands.same.image))

-- ---- what an opening leaves that met no fault

-- the same commands lead there
pub opens_commands : (l r a b : List ℕ) → OnlyOpens l r a b → commands_on a b ≡ commands_on l r
opens_commands l r a b (right, inl left) = commands_alike l r a b (shuts_alike true l a left) (shuts_alike false r b right)
opens_commands l r a b (right, inr (left_none, right_none, created)) =
    first_commands a b created right_still ∙ none
  where
    right_still : found_on false b ≡ Absent
    right_still = shuts_alike false r b right ∙ right_none

    none : [] ≡ commands_on l r
    none = sym (commands_none l r left_none right_none)
