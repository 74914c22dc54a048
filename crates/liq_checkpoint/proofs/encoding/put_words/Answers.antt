use Rattle.liq_checkpoint.proofs.Putting.{Puts-then}
use Rattle.liq_checkpoint.proofs.encoding.put_words.Goals as goal

pub returns : goal.returns
returns c =
    Puts-then c.in_ok-put_numbers.ensures (Puts-then c.in_ok-put_numbers-2.ensures
    (Puts-then c.in_ok-put_numbers-3.ensures
    (Puts-then c.in_ok-put_u128.ensures (Puts-then c.in_ok-put_u128-2.ensures (Puts-then c.in_ok-put_numbers-4.ensures
    (Puts-then c.in_ok-put_u128-3.ensures (Puts-then c.in_ok-put_numbers-5.ensures
    (Puts-then c.in_ok-put_u128-4.ensures c.in_ok-put_numbers-6.ensures))))))))
