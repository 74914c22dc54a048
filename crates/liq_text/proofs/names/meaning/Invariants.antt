use Rattle.std.proofs.Common.{◌≡◌, drop}
use Rattle.liq_text.specs.Names.{named}
use Rattle.liq_text.proofs.names.meaning.Given as goal

abbrev pub invariant-loop-row : goal.invariant-loop-row
invariant-loop-row g l = named (λ row. row.0.now) (λ row. row.1) (drop l.row-index l.rows) l.word
    ≡ named (λ row. row.0.now) (λ row. row.1) l.rows l.word
