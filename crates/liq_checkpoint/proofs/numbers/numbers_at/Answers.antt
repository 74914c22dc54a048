use Rattle.std.proofs.Common.{◌≡◌, ◌∷◌, [], ◌++◌, ◌+◌, ◌∙◌, set, take, arith}
use Rattle.std.proofs.lemmas.List.{length-set, take_more_set, take_all}
use Rattle.std.proofs.lemmas.Result.{err_from_is_err_and}
use Rattle.liq_checkpoint.specs.Reading.{numbers_at}
use Rattle.liq_checkpoint.proofs.Loop.{numbers_go_on, numbers_end, numbers_done}
use Rattle.liq_checkpoint.proofs.numbers.numbers_at.Goals as goal

pub returns-in_err-number : goal.returns-in_err-number
returns-in_err-number g c =
    let p = err_from_is_err_and c.from_residual.result c.from_residual.ensures.1 in
    rw (p.1, p.2) (numbers_end c.args.end c.in_err-number.field-0.0 (take c.loop-i.i c.loop-i.numbers) g.row.N
    c.loop-i.i c.loop-i.rest.now (numbers_at c.args.end g.row.N c.args.at.now) c.loop-i-test.true
    c.in_err-number.ensures c.loop-i.invariant.read)

pub loop-i-preserved : goal.loop-i-preserved
loop-i-preserved g c =
    let n = c.in_ok-number.number in
    let i = c.loop-i.i in
    let front : take (i + 1) (set c.loop-i.numbers i n) ≡ take i c.loop-i.numbers ++ n ∷ [] =
    take_more_set c.loop-i.numbers i n (omega (arith, c.loop-i.invariant.size)) in
    record {
      size = length-set c.loop-i.numbers i n ∙ c.loop-i.invariant.size;
      read = rw front (numbers_go_on c.args.end (take i c.loop-i.numbers) g.row.N i c.loop-i.rest.now n
          c.in_ok-number.after.now (numbers_at c.args.end g.row.N c.args.at.now) c.loop-i-test.true
          c.in_ok-number.ensures c.loop-i.invariant.read);
    }

pub returns : goal.returns
returns g c =
    let whole : take c.loop-i.i c.loop-i.numbers ≡ c.loop-i.numbers =
    take_all c.loop-i.i c.loop-i.numbers (omega (arith, c.loop-i.invariant.size)) in
    rw whole at (numbers_done c.args.end (take c.loop-i.i c.loop-i.numbers) g.row.N c.loop-i.i c.loop-i.rest.now
    (numbers_at c.args.end g.row.N c.args.at.now) c.loop-i-test.false c.loop-i.invariant.read)
