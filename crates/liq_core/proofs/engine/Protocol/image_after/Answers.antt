use Rattle.std.proofs.Common.{◌≡◌, ◌+◌, ap, sym, ◌∙◌, subst, arith}
use Rattle.liq_types.specs.declared.amounts.TheConstants.{LIM}
use Rattle.liq_types.specs.declared.figures.Client.{Client}
use Rattle.liq_types.specs.declared.image.Image.{Image}
use Rattle.liq_types.specs.Soundness.{HasTables, IsSoundImage, first_unsound}
use Rattle.liq_types.specs.Tables.{Table, put}
use Rattle.liq_core_limits.specs.declared.generation.Generation.{Generation}
use Rattle.liq_core_limits.specs.Generations.{next_generation}
use Rattle.liq_core.specs.Core.{Core, current}
use Rattle.liq_core.specs.Plan.{Plan, plan_of}
use Rattle.liq_core.specs.declared.turns.Planned.TheInside.{Inside}
use Rattle.liq_core.proofs.Rotating.{planned_image, planned_number, planned_sound, turned}
use Rattle.liq_core.proofs.engine.Protocol.image_after.Goals as goal

pub clients_after-requires : goal.clients_after-requires
clients_after-requires c =
    let sound = subst (λ (core : Core). IsSoundImage core.image core.records) c.self.view_is c.self.invariant.image in
    let number = planned_number c.args.self.now sound c.args.planned.now c.requires.planned c.requires.rotates in
    let same = ap (λ (p : Plan). p.command.number) c.planned.view_is in
    omega (arith, number, same)

-- what is made is the core's image with the next generation, the greater limit and the client's row
made : (core : Core) (image : Image) (rows : Table Client) (next : Generation) (inside : Inside) (plan : Plan)
    → next ≡ next_generation (current core) → image ≡ record core.image { clients = rows }
    → rows ≡ put core.image.clients inside.command.client (record {
      last = inside.command.number;
      kept = inside.forecast.done;
    }) → plan_of inside.command inside.forecast ≡ plan
    → record image { generation = next.number; limit = next.limit } ≡ turned core.image plan.command.client
    (record { last = plan.command.number; kept = plan.done })
made core image rows next inside plan follows same put_is view =
    let old = core.image in
    ap (λ (g : Generation). record image { generation = g.number; limit = g.limit }) follows
    ∙ ap (λ (i : Image). record i { generation = old.generation + 1; limit = LIM }) same
    ∙ ap (λ (t : Table Client). record old { generation = old.generation + 1; limit = LIM; clients = t }) put_is
    ∙ ap (λ (p : Plan). turned old p.command.client (record { last = p.command.number; kept = p.done })) view

pub returns-clause-image : goal.returns-clause-image
returns-clause-image c s h =
    let sound = subst (λ (core : Core). IsSoundImage core.image core.records) c.self.view_is c.self.invariant.image in
    let follows = c.next-next.ensures ∙ ap next_generation c.current.ensures.counts in
    made c.args.self.now _ _ _ c.planned.inside c.args.planned.now follows c.in_ok-image.ensures c.in_ok-clients.ensures
    c.planned.view_is
    ∙ planned_image c.args.self.now sound c.args.planned.now c.requires.planned c.requires.rotates s h

pub returns-clause-tables : goal.returns-clause-tables
returns-clause-tables c =
    let sound = subst (λ (core : Core). IsSoundImage core.image core.records) c.self.view_is c.self.invariant.image in
    let follows = c.next-next.ensures ∙ ap next_generation c.current.ensures.counts in
    let is = made c.args.self.now _ _ _ c.planned.inside c.args.planned.now follows c.in_ok-image.ensures
    c.in_ok-clients.ensures c.planned.view_is in
    subst HasTables (sym is) (planned_sound c.args.self.now sound c.args.planned.now c.requires.planned
    c.requires.rotates).tables

pub returns-clause-sound : goal.returns-clause-sound
returns-clause-sound c =
    let sound = subst (λ (core : Core). IsSoundImage core.image core.records) c.self.view_is c.self.invariant.image in
    let follows = c.next-next.ensures ∙ ap next_generation c.current.ensures.counts in
    let is = made c.args.self.now _ _ _ c.planned.inside c.args.planned.now follows c.in_ok-image.ensures
    c.in_ok-clients.ensures c.planned.view_is in
    ap (λ (i : Image). first_unsound i 0) is
    ∙ (planned_sound c.args.self.now sound c.args.planned.now c.requires.planned c.requires.rotates).rules

pub returns-clause-limit : goal.returns-clause-limit
returns-clause-limit c = ap (λ (g : Generation). g.limit) c.next-next.ensures
