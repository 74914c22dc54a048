use Rattle.std.proofs.Common.{sym, subst, List, get_or, ◌∙◌, arith}
use Rattle.liq_rewards.specs.declared.rows.Row.{Row}
use Rattle.liq_rewards.specs.Earner.{CanGoOn}
use Rattle.liq_rewards.specs.Rows.{now_of, changed_by, no_row}
use Rattle.liq_rewards.proofs.Changing.{next_same, one_changed, all_changed, holds_now}
use Rattle.liq_rewards.proofs.rows.change_all.Goals as goal

pub change-requires : goal.change-requires
change-requires c =
    let f = changed_by c.args.words.now c.args.sharing c.args.event.now c.args.offsets 0 in
    let n = c.loop-row.row-index in
    subst (λ (now : List Row). CanGoOn c.args.words.now c.args.sharing (now_of c.args.words.now c.args.offsets
    (get_or now n (no_row 0)))) (sym c.loop-row.invariant)
    (subst (λ (row : Row). CanGoOn c.args.words.now c.args.sharing (now_of c.args.words.now c.args.offsets row))
    (sym (next_same n f c.args.rows.now _ (omega arith)))
    (holds_now (CanGoOn c.args.words.now c.args.sharing) (now_of c.args.words.now c.args.offsets) c.args.rows.now n _
    c.requires (omega arith)))

pub loop-row-preserved : goal.loop-row-preserved
loop-row-preserved c =
    one_changed c.loop-row.row-index (changed_by c.args.words.now c.args.sharing c.args.event.now c.args.offsets 0)
    c.args.rows.now c.loop-row.rows c.change.new.self _ (omega arith) c.loop-row.invariant c.change.ensures

pub returns : goal.returns
returns c =
    c.loop-row.invariant ∙ all_changed c.loop-row.row-index (changed_by c.args.words.now c.args.sharing c.args.event.now
    c.args.offsets 0) c.args.rows.now (omega arith)
