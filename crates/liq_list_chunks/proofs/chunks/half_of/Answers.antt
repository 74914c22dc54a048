use Rattle.std.proofs.Common.{◌≡◌, ◌+◌, get_or, arith, sym, ap, ◌∙◌}
use Rattle.std.proofs.lemmas.List.{get_or_default}
use Rattle.std.specs.Ordering.{is_lt}
use Rattle.liq_types.specs.Ranked.{Ranked, rank_order}
use Rattle.liq_list_chunks.proofs.chunks.half_of.Goals as goal

pub returns-else-is_before-clause-belongs : goal.returns-else-is_before-clause-belongs
returns-else-is_before-clause-belongs c =
    let fs = c.args.firsts.now in
    let next : c.args.chunk + 1 + 1 ≡ c.args.chunk + 2 = omega arith in
    record {
      within = c.requires.within;
      low = λ d k. ap (λ (f : Ranked). is_lt (rank_order c.args.entry f)) (get_or_default fs (c.args.chunk + 1) d _
          c.requires.within) ∙ sym c.is_before.ensures ∙ c.if-is_before.false;
      high = λ d k. ap (λ n. is_lt (rank_order c.args.entry (get_or fs n d))) next
          ∙ c.requires.high d (omega (arith, k));
    }
