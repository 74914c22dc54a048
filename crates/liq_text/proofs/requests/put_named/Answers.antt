use Rattle.std.proofs.Common.{take}
use Rattle.liq_text.proofs.WritingLaws.{written_words}
use Rattle.liq_text.proofs.requests.put_named.Goals as goal

pub returns-clause-items : goal.returns-clause-items
returns-clause-items c =
    let named = c.args.named.now in
    written_words c.args.out.now.items _ _ _ _ named.name.now (take named.count named.numbers) named.hint
    c.put.ensures.items c.put-2.ensures.items c.put_numbers.ensures.items c.put_hints.ensures.items
