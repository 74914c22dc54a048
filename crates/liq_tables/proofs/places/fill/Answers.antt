use Rattle.std.proofs.Common.{ℕ, List, ◌-◌, ◌++◌, ap, ◌∙◌, arith, replicate, get_or}
use Rattle.std.proofs.lemmas.List.{take_all}
use Rattle.liq_tables.specs.declared.places.TheConstants.{KEYS, NONE}
use Rattle.liq_tables.proofs.Numbers.{padded}
use Rattle.liq_tables.proofs.places.fill.Goals as goal

pub returns-in_ok-resize-clause-kept : goal.returns-in_ok-resize-clause-kept
returns-in_ok-resize-clause-kept c k =
    let page = c.args.page.now in
    ap (λ (l : List ℕ). get_or l k NONE)
    (c.in_ok-resize.ensures.items
    ∙ ap (λ (l : List ℕ). l ++ replicate (KEYS - page.len) NONE) (take_all KEYS page.items (omega (
      arith,
      c.if-len.true,
      c.len.ensures,
      page.ok.0,
    ))))
    ∙ padded page.items (KEYS - page.len) k
