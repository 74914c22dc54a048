use Rattle.std.proofs.Common.{◌+◌, ◌∷◌, List, Option, ap, sym, subst, ◌∙◌, arith}
use Rattle.std.specs.List.{AllByRecursion}
use Rattle.std.proofs.Math.Logic.{∥∥₁_map}
use Rattle.liq_rewards.specs.declared.earner.Earner.{Earner}
use Rattle.liq_rewards.specs.declared.sharing.Sharing.{Sharing}
use Rattle.liq_rewards.specs.Earner.{CanGoOn, IsSmallDue}
use Rattle.liq_rewards.specs.Kept.{Kept, has_row, HasRoomFor, IsKeptOf, MayHappen}
use Rattle.liq_rewards.proofs.Following.{due_small, unshared_small, product_small, all_can, can_from, can_happen, event_done}
use Rattle.liq_rewards.proofs.Keeping.{rows-after}
use Rattle.liq_rewards.specs.Rows.{all_now}
use Rattle.liq_rewards.proofs.rewards.Rewards.event.Goals as goal

pub shared_first-sharing-requires-clause-units : goal.shared_first-sharing-requires-clause-units
shared_first-sharing-requires-clause-units c = due_small _ c.self.invariant

pub shared_first-sharing-requires-clause-product : goal.shared_first-sharing-requires-clause-product
shared_first-sharing-requires-clause-product c = product_small _ c.self.invariant

pub event-requires-clause-room : goal.event-requires-clause-room
event-requires-clause-room c = subst (λ (v : Kept). HasRoomFor v.earners c.args.event.now) (sym c.self.view_is)
    c.requires.room

pub event-requires-clause-can : goal.event-requires-clause-can
event-requires-clause-can c =
    subst (λ (o : Option Sharing). AllByRecursion (CanGoOn c.self.inside.words o)
    (all_now c.self.inside.words c.self.inside.rows)) (sym c.shared_first-sharing.ensures.sharing)
    (all_can _ c.self.invariant (subst (λ (o : Option Sharing). IsSmallDue c.self.inside.words o)
    c.shared_first-sharing.ensures.sharing c.shared_first-sharing.ensures.small))

pub overflow_add-self : goal.overflow_add-self
overflow_add-self c = let small = unshared_small _ c.self.invariant
    in omega (arith, small, c.unshared_by.ensures.within)

pub shared_first-sharing-requires-clause-happens : goal.shared_first-sharing-requires-clause-happens
shared_first-sharing-requires-clause-happens c =
    can_from c.self.inside.words c.args.event.now (∥∥₁_map c.requires.lawful (λ k. can_happen _ k.0 c.args.event.now
    (subst (λ (v : Kept). IsKeptOf v k.0) (sym c.self.view_is) k.1)
    (subst (λ (v : Kept). MayHappen (record { minute = v.minute; event = c.args.event.now }) k.0)
    (sym c.self.view_is) k.2)))

pub invariant_of-self : goal.invariant_of-self
invariant_of-self c = ∥∥₁_map c.requires.lawful (λ k. (
  record { minute = c.self.inside.minute; event = c.args.event.now } ∷ k.0,
  event_done _ k.0 c.args.event.now c.unshared_by.result c.shared_first-sharing.result.1
      (all_now c.shared_first-sharing.result.1 c.event.new.self) c.shared_first-sharing.result.0
      (subst (λ (v : Kept). IsKeptOf v k.0) (sym c.self.view_is) k.1)
      (subst (λ (v : Kept). MayHappen (record { minute = v.minute; event = c.args.event.now }) k.0) (sym c.self.view_is)
      k.2) (subst (λ (v : Kept). HasRoomFor v.earners c.args.event.now) (sym c.self.view_is) c.requires.room)
      c.shared_first-sharing.ensures.sharing c.unshared_by.ensures.units c.shared_first-sharing.ensures.words
      c.event.ensures,
))

pub returns-clause-kept : goal.returns-clause-kept
returns-clause-kept c past h may =
    subst (λ (v : Kept). IsKeptOf (record {
      minute = c.self.inside.minute;
      due = 0;
      unshared = c.self.inside.unshared
          + c.unshared_by.result;
      words = c.shared_first-sharing.result.1;
      earners =
          all_now c.shared_first-sharing.result.1 c.event.new.self;
    }) (record {
      minute = v.minute;
      event =
          c.args.event.now;
    } ∷ past)) c.self.view_is
    (event_done _ past c.args.event.now c.unshared_by.result c.shared_first-sharing.result.1
    (all_now c.shared_first-sharing.result.1 c.event.new.self) c.shared_first-sharing.result.0
    (subst (λ (v : Kept). IsKeptOf v past) (sym c.self.view_is) h)
    (subst (λ (v : Kept). MayHappen (record { minute = v.minute; event = c.args.event.now }) past) (sym c.self.view_is)
    may) (subst (λ (v : Kept). HasRoomFor v.earners c.args.event.now) (sym c.self.view_is) c.requires.room)
    c.shared_first-sharing.ensures.sharing c.unshared_by.ensures.units c.shared_first-sharing.ensures.words
    c.event.ensures)

pub returns-clause-room : goal.returns-clause-room
returns-clause-room c a had =
    ap (λ (es : List Earner). has_row es a) c.event.ensures
    ∙ rows-after c.self.inside.words c.shared_first-sharing.result.0 c.args.event.now
    (all_now c.self.inside.words c.self.inside.rows) a
    ∙ ap (λ (v : Kept). has_row v.earners a) c.self.view_is ∙ had
