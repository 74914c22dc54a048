use Rattle.std.specs.Prelude.{decimal, map}
use Rattle.liq_text.proofs.WritingLaws.{on_same, line_put}
use Rattle.liq_text.proofs.appending.append_line.Goals as goal

pub returns : goal.returns
returns c =
    on_same c.extend_from_slice-2.result _ _ _ c.extend_from_slice-2.ensures.items
    (λ third. line_put c.args.text.now.items c.extend_from_slice.new.self.items c.append_numbers.new.text.items
    c.extend_from_slice-2.new.self.items c.args.word.now (map decimal c.args.numbers.now)
    c.in_ok-extend_from_slice.ensures.items c.in_ok-append_numbers.ensures third)
