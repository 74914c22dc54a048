use Rattle.std.proofs.Common.{ℕ, ◌≡◌, ◌∙◌, List, [], ◌∷◌, sym, ap, subst, arith}
use Rattle.std.specs.Prelude.{Option}
use Rattle.atomic_table.specs.Table.{Me}
use Rattle.liq_lock.specs.declared.view.View.{View}
use Rattle.liq_lock.specs.History.{Behind}
use Rattle.liq_lock.specs.Views.{view_in, joined}
use Rattle.liq_lock.proofs.Parts.{joins, settles}
use Rattle.liq_lock.proofs.Rests.{rest_of}
use Rattle.liq_lock.proofs.lock.Lock.join_seat.Goals as goal

pub join_seat-requires : goal.join_seat-requires
join_seat-requires g c =
    let seat = c.into_seat-seat.result in
    let other = c.into_seat-other.result in (
      c.into_seat-seat.ensures.0 ∙ c.requires.own_left,
      c.into_seat-other.ensures.0 ∙ c.requires.own_right,
      c.into_seat-other.ensures.3,
      omega arith,
      joins g.T.Chronicle.history g.T.Chronicle.maker c.args.self.now.table.shared.key seat.id seat.me.0 other.id
          other.me.0
          (rest_of c.args.left.badge.views seat.me.0 c.args.left.at_rest c.into_seat-seat.ensures.2)
          (rest_of c.args.right.badge.views other.me.0 c.args.right.at_rest c.into_seat-other.ensures.2),
    )

pub load-requires : goal.load-requires
load-requires g c = (
  c.join_seat.ensures.0 ∙ c.into_seat-seat.ensures.0 ∙ c.requires.own_left,
  omega arith,
  settles g.T.Chronicle.history g.T.Chronicle.maker c.args.self.now.table.shared.key
      c.args.self.now.table.shared.table_id.slots c.join_seat.new.seat.id c.join_seat.new.seat.me,
)

-- what the seat knows after the join goes on from both pasts
module _ {T I : Type 0} (maker : I → ℕ) (views was : List (View I)) (new old : Me (Option T) (View I)) (v w u : View I)
    (is : views ≡ new.0 ∷ []) (same : new ≡ old) (both : old.0 ≡ joined v w) (mine : was ≡ u ∷ []) where
  from_past : Behind maker old.0.seen u.stands u.seen
      → Behind maker (view_in views).seen (view_in was).stands (view_in was).seen
  from_past k =
      let now : view_in views ≡ old.0 = ap view_in is ∙ ap (λ (m : Me (Option T) (View I)). m.0) same in
      subst (λ (z : View I). Behind maker z.seen (view_in was).stands (view_in was).seen) (sym now)
      (subst (λ (z : View I). Behind maker old.0.seen z.stands z.seen) (sym (ap view_in mine)) k)

pub returns-clause-behind_left : goal.returns-clause-behind_left
returns-clause-behind_left g c =
    let v : View g.row.T-Item.Denot = c.into_seat-seat.result.me.0 in
    let w : View g.row.T-Item.Denot = c.into_seat-other.result.me.0 in
    let old : Me (Option g.row.T.Denot) (View g.row.T-Item.Denot) = c.join_seat.new.seat.me in
    let both = ap (λ (m : Me (Option g.row.T.Denot) (View g.row.T-Item.Denot)). m.0) c.join_seat.ensures.2 in
    from_past g.T.Chronicle.maker c.into_badge.result.views c.args.left.badge.views c.load.new.seat.me old v w v
    c.into_badge.ensures.2 c.load.ensures.2.0 both c.into_seat-seat.ensures.2
    (subst (λ (z : View g.row.T-Item.Denot). Behind g.T.Chronicle.maker old.0.seen z.left.stands z.left.seen) both
    c.load.ensures.2.2)

pub returns-clause-behind_right : goal.returns-clause-behind_right
returns-clause-behind_right g c =
    let v : View g.row.T-Item.Denot = c.into_seat-seat.result.me.0 in
    let w : View g.row.T-Item.Denot = c.into_seat-other.result.me.0 in
    let old : Me (Option g.row.T.Denot) (View g.row.T-Item.Denot) = c.join_seat.new.seat.me in
    let both = ap (λ (m : Me (Option g.row.T.Denot) (View g.row.T-Item.Denot)). m.0) c.join_seat.ensures.2 in
    from_past g.T.Chronicle.maker c.into_badge.result.views c.args.right.badge.views c.load.new.seat.me old v w w
    c.into_badge.ensures.2 c.load.ensures.2.0 both c.into_seat-other.ensures.2
    (subst (λ (z : View g.row.T-Item.Denot). Behind g.T.Chronicle.maker old.0.seen z.right.stands z.right.seen) both
    c.load.ensures.2.3)
