-- Pieces of which a sink may hold a part.
use Rattle.std.proofs.Common.{ℕ, ◌+◌, List, ◌++◌, length, take, Option, sym, subst, length-append, arith}
use Rattle.std.proofs.Math.Seq.{take-append-add}
use Rattle.std.proofs.lemmas.List.{take-append-le}
use Rattle.liq_text_lines.specs.Writing.{Writes, WritesPart}
use Rattle.liq_text_lines.proofs.Bytes.{writes_more}

-- a part of the first of two pieces, and a part of the second behind the first
pub part_first : (before after : Option (List ℕ)) (xs ys : List ℕ) → WritesPart before xs after
    → WritesPart before (xs ++ ys) after
part_first before after xs ys h = (
  h.0,
  omega (arith, h.1, length-append xs ys),
  subst (λ (t : List ℕ). Writes before t after)
      (sym (take-append-le h.0 xs ys (omega (arith, h.1)))) h.2,
)

pub part_second : (before mid after : Option (List ℕ)) (xs ys : List ℕ) → Writes before xs mid → WritesPart mid ys after
    → WritesPart before (xs ++ ys) after
part_second before mid after xs ys h k = (
  length xs + k.0,
  omega (arith, k.1, length-append xs ys),
  subst (λ (t : List ℕ). Writes before t after) (sym (take-append-add xs ys k.0)) (writes_more before mid after xs
      (take k.0 ys) h k.2),
)
