use Rattle.std.proofs.Common.{◌≡◌, ◌≤◌, ◌+◌, Bool, true, false, cond, refl, ap, sym, ◌∙◌, arith, length}
use Rattle.std.specs.Option.{is_some}
use Rattle.liq_types.specs.Tables.{at}
use Rattle.liq_tables.specs.Pages.{listed}
use Rattle.liq_tables.specs.WithRoom.{WithRoom}
use Rattle.liq_tables.proofs.Listed.{listed_few, counted_more}
use Rattle.liq_tables.proofs.Room.{some-copied, all_seen}
use Rattle.liq_tables.proofs.reserved.Reserved.count.Goals as goal
use mir.Val.{bool_byte}

as_number : (b : Bool) → bool_byte b ≡ cond b 1 0
as_number true = refl
as_number false = refl

few : (b : Bool) → bool_byte b ≤ 1
few true = omega arith
few false = omega arith

pub loop-key-init : goal.loop-key-init
unfolding listed
loop-key-init g c = refl

pub overflow_add-count : goal.overflow_add-count
overflow_add-count g c =
    let short = listed_few (at c.args.self.now.rows) 0 c.loop-key.key in
    let one = few c.is_some.result in
    omega (
      arith,
      short,
      one,
      c.from-count.ensures,
      c.loop-key.invariant,
      c.loop-key-test.true,
      c.end-key-end.ensures.few,
    )

pub loop-key-preserved : goal.loop-key-preserved
loop-key-preserved g c =
    ap (λ n. c.loop-key.count + n) (c.from-count.ensures ∙ as_number c.is_some.result)
    ∙ counted_more (at c.args.self.now.rows) c.loop-key.key c.loop-key.count c.is_some.result c.loop-key.invariant
    (c.is_some.ensures ∙ sym (some-copied c.get.result) ∙ ap is_some c.get.ensures.row)

pub returns : goal.returns
returns g c =
    let past : c.loop-key.key ≡ c.end-key-end.result = omega (arith, c.loop-key-test.false, c.loop-key.auto.key-end) in
    c.loop-key.invariant
    ∙ ap (λ n. length (listed (at c.args.self.now.rows) 0 n)) past
    ∙ ap length (all_seen g.X.Row.used c.self.inside.index c.args.self.now.rows c.end-key-end.result
    (ap (λ (t : WithRoom g.row.X.Denot). t.rows) c.self.view_is) c.end-key-end.ensures.ascend
    c.end-key-end.ensures.above)
