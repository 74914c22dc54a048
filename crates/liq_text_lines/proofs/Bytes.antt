-- Bytes that are read and written piece by piece.
use Rattle.std.proofs.Common.{◌≡◌, ℕ, List, [], ◌++◌, Option, Some, None, refl, ap, sym, ◌∙◌, append_assoc, append-nil}
use Rattle.std.specs.Prelude.{option_map, unwrap_or}
use Rattle.liq_text_lines.specs.Reading.{Reads}
use Rattle.liq_text_lines.specs.Writing.{Writes}

pub writes_nothing : (before : Option (List ℕ)) → Writes before [] before
writes_nothing None = refl
writes_nothing (Some held) = ap Some (sym (append-nil held))

pub writes_more : (before mid after : Option (List ℕ)) (xs ys : List ℕ) → Writes before xs mid → Writes mid ys after
    → Writes before (xs ++ ys) after
writes_more None mid after xs ys h k = k ∙ ap (λ m. option_map (λ held. held ++ ys) m) h
writes_more (Some held) mid after xs ys h k = k ∙ ap (λ m. option_map (λ held. held ++ ys) m) h
    ∙ ap Some (append_assoc held xs ys)

pub reads_nothing : (before : Option (List ℕ)) → Reads before [] before
reads_nothing None = refl
reads_nothing (Some bytes) = refl

pub reads_more : (before mid after : Option (List ℕ)) (xs ys : List ℕ) → Reads before xs mid → Reads mid ys after
    → Reads before (xs ++ ys) after
reads_more before mid None xs ys h k = h ∙ ap (λ m. option_map (λ rest. xs ++ rest) m) k
reads_more before mid (Some rest) xs ys h k = h ∙ ap (λ m. option_map (λ rest. xs ++ rest) m) k
    ∙ ap Some (sym (append_assoc xs ys rest))

pub told_reads : (bytes xs rest : List ℕ) → Reads (Some bytes) xs (Some rest) → bytes ≡ xs ++ rest
told_reads bytes xs rest h = ap (λ o. unwrap_or o bytes) h
