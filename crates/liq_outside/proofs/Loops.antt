-- A read or a write that goes on where the last call ended.
use Rattle.std.proofs.Common.{◌≡◌, ℕ, ◌+◌, ◌-◌, ◌≤◌, List, ◌++◌, Option, Some, None, IfSome, length, take, drop, sym, ap, ap₂, ◌∙◌, arith, append_assoc, length-append, length-take, length-drop}
use Rattle.std.proofs.Math.Seq.{take-add}
use Rattle.std.proofs.lemmas.List.{take_at, drop_at, drop-drop, length-take-le, take-append-le, take_rest}
use Rattle.liq_outside.specs.Disk.{overwritten}

-- one part more is read; behind it stands what stood there
pub read_more : (told : Option (List ℕ)) (at count n : ℕ) (buf piece rest : List ℕ) → count ≤ length buf
    → n ≤ length piece
    → IfSome told (λ old. (count ≤ length old - at) × (take count buf ≡ take count (drop at old)))
    → IfSome told (λ old. (n ≤ length old - (at + count)) × (take n piece ≡ take n (drop (at + count) old)))
    → IfSome told (λ old. (count + n ≤ length old - at) × (take (count + n) (take count buf ++ (piece ++ rest))
    ≡ take (count + n) (drop at old)))
read_more None at count n buf piece rest within fits before more = tt
read_more (Some old) at count n buf piece rest within fits before more =
    let front = length-take-le count buf within in
    let one : take (count + n) (take count buf ++ (piece ++ rest)) ≡ take count buf ++ take n piece =
    take-add count n (take count buf ++ (piece ++ rest))
    ∙ ap₂ (λ (a b : List ℕ). a ++ take n b) (take_at (take count buf) (piece ++ rest) count front)
    (drop_at (take count buf) (piece ++ rest) count front)
    ∙ ap (λ (l : List ℕ). take count buf ++ l) (take-append-le n piece rest fits) in
    let two : take (count + n) (drop at old) ≡ take count (drop at old) ++ take n (drop (at + count) old) =
    take-add count n (drop at old) ∙ ap (λ (l : List ℕ). take count (drop at old) ++ take n l) (drop-drop count at old)
    in
    (omega arith, one ∙ ap₂ (λ (a b : List ℕ). a ++ b) before.1 more.1 ∙ sym two)

module _ (old front piece : List ℕ) (at : ℕ) (inside : at ≤ length old) where
  abbrev head : List ℕ
  head = take at old ++ front

  head_length : length head ≡ at + length front
  head_length = length-append (take at old) front ∙ ap (λ (n : ℕ). n + length front) (length-take-le at old inside)

  -- bytes behind those that were written
  pub overwritten-behind : overwritten (overwritten old at front) (at + length front) piece
      ≡ overwritten old at (front ++ piece)
  overwritten-behind =
      let tail : List ℕ = drop (at + length front) old in
      let before : take (at + length front) (overwritten old at front) ≡ head =
      take_at head tail (at + length front) head_length in
      let rest : drop (at + length front) (overwritten old at front) ≡ tail =
      drop_at head tail (at + length front) head_length in
      let behind : drop (at + length front + length piece) (overwritten old at front)
      ≡ drop (at + length (front ++ piece)) old =
      sym (drop-drop (length piece) (at + length front) (overwritten old at front))
      ∙ ap (drop (length piece)) rest
      ∙ drop-drop (length piece) (at + length front) old
      ∙ ap (λ (n : ℕ). drop n old) (omega (arith, length-append front piece)) in
      ap₂ (λ (a b : List ℕ). a ++ piece ++ b) before behind
      ∙ ap (λ (l : List ℕ). l ++ drop (at + length (front ++ piece)) old) (append_assoc (take at old) front piece)

  pub length-overwritten : at + length front ≤ length (overwritten old at front)
  length-overwritten = omega (arith, length-append head (drop (at + length front) old), head_length)

-- one part more is written
pub write_more : (old bytes : List ℕ) (at count n : ℕ) → at ≤ length old → count ≤ length bytes
    → overwritten (overwritten old at (take count bytes)) (at + count)
    (take n (take (length bytes - count) (drop count bytes))) ≡ overwritten old at (take (count + n) bytes)
write_more old bytes at count n inside within =
    let front = take count bytes in
    let piece = take n (take (length bytes - count) (drop count bytes)) in
    ap (λ (m : ℕ). overwritten (overwritten old at front) (at + m) piece) (sym (length-take-le count bytes within))
    ∙ overwritten-behind old front piece at inside
    ∙ ap (overwritten old at) (ap (λ (p : List ℕ). front ++ take n p) (take_rest bytes count)
    ∙ sym (take-add count n bytes))

-- a buffer that was filled further is as long as before
pub length-filled : (buf piece : List ℕ) (count : ℕ) → count ≤ length buf → length piece ≡ length buf - count
    → length (take count buf ++ (piece ++ drop (length buf - count) (drop count buf))) ≡ length buf
length-filled buf piece count within is = simp (length-append, length-take, length-drop) (omega arith)
