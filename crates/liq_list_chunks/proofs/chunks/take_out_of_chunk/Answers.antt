use Rattle.std.proofs.Common.{◌≡◌, true, false, sym, ◌∙◌}
use Rattle.std.specs.Ordering.{is_eq}
use Rattle.liq_types.specs.Ranked.{rank_order}
use Rattle.liq_list_chunks.proofs.Lists.{left_first}
use Rattle.liq_list_chunks.proofs.Standing.{first_back}
use Rattle.liq_list_chunks.proofs.chunks.take_out_of_chunk.Goals as goal

pub returns-then-is_same-clause-left : goal.returns-then-is_same-clause-left
returns-then-is_same-clause-left c =
    let same : is_eq (rank_order c.args.entry c.args.first.now) ≡ true = sym c.is_same.ensures ∙ c.if-is_same.true in
    first_back c.args.rest.now.items c.remove.new.self.items c.remove.result (λ none. apart (sym same
    ∙ c.requires.more none)) c.remove.ensures.value c.remove.ensures.items
    ∙ sym (left_first c.args.first.now c.args.rest.now.items c.args.entry c.requires.ascending same) where
      apart : true ≡ false → ⊥
      apart clash = cc
