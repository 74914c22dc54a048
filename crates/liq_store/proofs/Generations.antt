-- What a rotation leaves of the counters: the next generation, without any record, on the other disk.
use Rattle.std.proofs.Common.{◌≡◌, ◌+◌, ℕ, not, sym, ◌∙◌, ap}
use Rattle.liq_types.specs.declared.requests.Call.{Call}
use Rattle.liq_types.specs.declared.requests.Call.TheVariants.{Rotate}
use Rattle.liq_types.specs.declared.requests.Command.{Command}
use Rattle.liq_types.specs.declared.image.Image.{Image}
use Rattle.liq_types.specs.State.{State}
use Rattle.liq_core.specs.Core.{Core, StandsFor}
use Rattle.liq_rule_step.specs.Step.{after, effect, records_after}
use Rattle.liq_journal.specs.Written.{is_odd}
use Rattle.liq_journal.proofs.Parity.{next_parity}
use Rattle.liq_disk_pair.specs.declared.side.Side.{Side}
use Rattle.liq_disk_pair.specs.declared.side.Side.TheVariants.{Left, Right}
use Rattle.liq_disk_pair.specs.Sides.{has_odd, other}

pub next_generation : (old new : Core) (s : State) (c : Command) → c.call ≡ Rotate → StandsFor old s
    → StandsFor new (after s c) → new.image.generation ≡ old.image.generation + 1
next_generation old new s c is before stands =
    ap (λ (i : Image). i.generation) stands.image
    ∙ ap (λ (call : Call). (effect s call).generation) is
    ∙ ap (λ (i : Image). i.generation + 1) (sym before.image)

pub no_records : (new : Core) (s : State) (c : Command) → c.call ≡ Rotate → StandsFor new (after s c) → new.records ≡ 0
no_records new s c is stands = stands.records ∙ ap (λ (call : Call). records_after (effect s c.call) call) is

-- the next generation is the other disk's
pub next_side : (generation : ℕ) (side : Side) → is_odd generation ≡ has_odd side
    → is_odd (generation + 1) ≡ has_odd (other side)
next_side generation Left is = next_parity generation ∙ ap not is
next_side generation Right is = next_parity generation ∙ ap not is
