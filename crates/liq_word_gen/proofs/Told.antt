-- How a load is told, by its end.
use Rattle.std.proofs.Common.{◌≡◌, ℕ, List, [], ◌∷◌, Option, Ok, Err, Result, refl, sym, ap, subst, ◌∙◌, lit<}
use Rattle.std.specs.Prelude.{Contains, IfErr, OnOk}
use Rattle.liq_types.specs.declared.requests.Request.{Request}
use Rattle.liq_types.specs.State.{opening}
use Rattle.liq_types.specs.Totals.{total_debt}
use Rattle.liq_stability.specs.Words.{pool_words}
use Rattle.liq_rule_step.specs.Step.{run}
use Rattle.liq_text_lines.specs.Writing.{Writes, WritesPart}
use Rattle.liq_word_exit.specs.declared.halts.Halt.{Halt}
use Rattle.liq_word_exit.specs.declared.halts.Halt.TheVariants.{BadLine, ReadFault, WriteFault, DiskFault, Damaged, DamagedInput, NoMemory, Limit, Rotated}
use Rattle.liq_word_exit.specs.Statuses.{status_of}
use Rattle.liq_word_exit.specs.Unsaid.{WritesAll}
use Rattle.liq_word_gen.specs.declared.load.Counts.{Counts}
use Rattle.liq_word_gen.specs.Carrying.{WritesLine, counts, told}
use Rattle.liq_word_gen.specs.Load.{summary}

pub line_told : (line : List ℕ) (end : Result (Unit {0}) Halt) (before now : Option (List ℕ))
    → WritesLine line end before now → Contains (0 ∷ 4 ∷ 7 ∷ []) (status_of end) × WritesAll line end before now
line_told line (Ok done) before now h = ((0, lit< tt, refl), h)
line_told line (Err (BadLine n)) before now h = absurd h
line_told line (Err ReadFault) before now h = absurd h
line_told line (Err WriteFault) before now h = ((1, lit< tt, refl), h)
line_told line (Err DiskFault) before now h = absurd h
line_told line (Err (Damaged side number)) before now h = absurd h
line_told line (Err NoMemory) before now h = ((2, lit< tt, refl), h)
line_told line (Err (Limit number)) before now h = absurd h
line_told line (Err (Rotated generation)) before now h = absurd h
line_told line (Err (DamagedInput number)) before now h = absurd h

-- it is the line of requests that were carried out, and is written as a text
pub line_written : (requests : List Request) (n : Counts) (text : List ℕ) (end : Result (Unit {0}) Halt)
    (before now : Option (List ℕ)) → n ≡ counts opening requests
    → text ≡ told n (pool_words (run opening requests).0) (total_debt (run opening requests).0)
    → OnOk end (Writes before text now) → IfErr end (λ halt. (halt ≡ WriteFault) × WritesPart before text now)
    → WritesLine (summary requests) end before now
unfolding summary
line_written requests n text end before now counted is ok err = by end ok err where
  line : text ≡ told (counts opening requests) (pool_words (run opening requests).0)
      (total_debt (run opening requests).0)
  line = is ∙ ap (λ (m : Counts). told m (pool_words (run opening requests).0)
      (total_debt (run opening requests).0)) counted

  by : (end : Result (Unit {0}) Halt) → OnOk end (Writes before text now) → IfErr end (λ halt. (halt ≡ WriteFault)
      × WritesPart before text now) → WritesLine (summary requests) end before now
  by (Ok done) ok err = subst (λ (t : List ℕ). Writes before t now) line ok
  by (Err halt) ok err = subst (λ (h : Halt). WritesLine (summary requests) (Err h) before now) (sym err.0)
      (subst (λ (t : List ℕ). WritesPart before t now) line err.1)
