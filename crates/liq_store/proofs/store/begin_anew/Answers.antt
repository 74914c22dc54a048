use Rattle.std.proofs.Common.{◌≡◌, ◌∙◌, ℕ, sym, subst}
use Rattle.liq_types.specs.declared.amounts.TheConstants.{LIM}
use Rattle.liq_types.specs.State.{opening, opening_with}
use Rattle.liq_core.specs.Core.{Core, StandsFor}
use Rattle.liq_store.specs.Beginning.{Creates}
use Rattle.liq_store.specs.Stored.{Stored}
use Rattle.liq_store.proofs.Beginning.{anew_opened, begins_anew}
use Rattle.liq_store.proofs.store.begin_anew.Goals as goal

-- what is created has the opening's limit
opens : (core : Core) (limit : ℕ) → limit ≡ LIM → StandsFor core (opening_with limit) → StandsFor core opening
opens core limit same stands = subst (λ (n : ℕ). StandsFor core (opening_with n)) same stands

pub begin_on-requires : goal.begin_on-requires
begin_on-requires g c = begins_anew g.D.Disk.at c.args.left c.args.right c.in-Ok.taken c.with_limit-protocol.result
    c.in-Ok.ensures.known.0 c.in-Ok.ensures.known.3 (opens c.with_limit-protocol.result _ (c.limit.ensures.known
    ∙ c.in-Ok.ensures.known.1) c.with_limit-protocol.ensures) c.in-Ok.ensures.lasts.telling c.in-Ok.ensures.created
    c.in-Ok.ensures.settled c.in-Ok.ensures.durable c.requires.rests c.requires.right

pub returns-in-Ok-clause-opened : goal.returns-in-Ok-clause-opened
returns-in-Ok-clause-opened g c =
    rw c.begin_on.ensures (anew_opened g.D.Disk.at c.args.left c.args.right c.in-Ok.taken c.with_limit-protocol.result
    (opens c.with_limit-protocol.result _ (c.limit.ensures.known
    ∙ c.in-Ok.ensures.known.1) c.with_limit-protocol.ensures) c.in-Ok.ensures.cause c.in-Ok.ensures.known.2
    c.in-Ok.ensures.created c.requires.left c.requires.right)

pub returns-in-Ok-clause-left : goal.returns-in-Ok-clause-left
returns-in-Ok-clause-left g c =
    subst (λ (store : Stored g.row.D.Denot). Creates g.D.Disk.at c.args.left store.left) (sym c.begin_on.ensures)
    (record { crash = c.in-Ok.ensures.crash; reads = c.in-Ok.ensures.reads; lasts = c.in-Ok.ensures.lasts })
