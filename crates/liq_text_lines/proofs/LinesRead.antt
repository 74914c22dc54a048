-- The lines of a text, as they are read from its front.
use Rattle.std.proofs.Common.{◌≡◌, ◌≢◌, ℕ, Bool, true, false, cond, List, [], ◌∷◌, ◌++◌, refl, ap, sym, ◌∙◌, append_assoc, arith}
use Rattle.std.specs.Prelude.{◌==◌}
use Rattle.std.specs.List.{onto_first, AllByRecursion}
use Rattle.std.proofs.lemmas.Bool.Decides.{nat_tests}
use Rattle.liq_text_lines.specs.Lines.{lines_in, ended, IsWithinLine}

not_end : (byte : ℕ) → byte ≢ 10 → (byte == 10) ≡ false
not_end byte h = grind (arith, nat_tests, h)

-- a byte of a line goes onto the first line of what follows
lines_in-within : (byte : ℕ) (bytes : List ℕ) → byte ≢ 10 → lines_in (byte ∷ bytes) ≡ onto_first byte (lines_in bytes)
lines_in-within byte bytes h = ap (λ b. cond b ([] ∷ lines_in bytes) (onto_first byte (lines_in bytes)))
    (not_end byte h)

pub lines_in-ended : (line rest : List ℕ) → IsWithinLine line → lines_in (line ++ 10 ∷ rest) ≡ line ∷ lines_in rest
lines_in-ended [] rest h = refl
lines_in-ended (byte ∷ line) rest h = lines_in-within byte (line ++ 10 ∷ rest) h.0
    ∙ ap (onto_first byte) (lines_in-ended line rest h.1)

pub lines_in-unended : (line : List ℕ) → IsWithinLine line → line ≢ [] → lines_in line ≡ line ∷ []
lines_in-unended [] h some = absurd (some refl)
lines_in-unended (byte ∷ []) h some = lines_in-within byte [] h.0
lines_in-unended (byte ∷ next ∷ line) h some =
    lines_in-within byte (next ∷ line) h.0 ∙ ap (onto_first byte) (lines_in-unended (next ∷ line) h.1 (λ e. cc))

-- where more of the line follows, its line begins so
pub lines_in-longer : (line : List ℕ) (byte : ℕ) (rest : List ℕ) → IsWithinLine line → byte ≢ 10 → (tail : List ℕ)
    × (more : List (List ℕ)) × (lines_in (line ++ byte ∷ rest) ≡ (line ++ byte ∷ tail) ∷ more)
lines_in-longer [] byte rest h apart = by (lines_in rest) refl where
  by : (ls : List (List ℕ)) → lines_in rest ≡ ls → (tail : List ℕ) × (more : List (List ℕ))
      × (lines_in (byte ∷ rest) ≡ (byte ∷ tail) ∷ more)
  by [] e = ([], [], lines_in-within byte rest apart ∙ ap (onto_first byte) e)
  by (l ∷ ls) e = (l, ls, lines_in-within byte rest apart ∙ ap (onto_first byte) e)
lines_in-longer (first ∷ line) byte rest h apart =
    let later = lines_in-longer line byte rest h.1 apart in
    (later.0, later.1, lines_in-within first (line ++ byte ∷ rest) h.0 ∙ ap (onto_first first) later.2)

-- a text that is not at its end has a line
pub lines_in-some : (byte : ℕ) (rest : List ℕ) → (line : List ℕ) × (more : List (List ℕ))
    × (lines_in (byte ∷ rest) ≡ line ∷ more)
lines_in-some byte rest = by (byte == 10) refl (lines_in rest) where
  by : (b : Bool) → (byte == 10) ≡ b → (ls : List (List ℕ)) → (line : List ℕ) × (more : List (List ℕ))
      × (cond b ([] ∷ ls) (onto_first byte ls) ≡ line ∷ more)
  by true e ls = ([], ls, refl)
  by false e [] = (byte ∷ [], [], refl)
  by false e (l ∷ ls) = (byte ∷ l, ls, refl)

-- whole lines first
pub lines_in-ended_all : (front : List (List ℕ)) (rest : List ℕ) → AllByRecursion IsWithinLine front
    → lines_in (ended front ++ rest) ≡ front ++ lines_in rest
lines_in-ended_all [] rest h = refl
lines_in-ended_all (line ∷ front) rest h =
    ap lines_in (append_assoc (line ++ 10 ∷ []) (ended front) rest ∙ append_assoc line (10 ∷ []) (ended front ++ rest))
    ∙ lines_in-ended line (ended front ++ rest) h.0
    ∙ ap (λ (ls : List (List ℕ)). line ∷ ls) (lines_in-ended_all front rest h.1)

pub ended-append : (front more : List (List ℕ)) → ended (front ++ more) ≡ ended front ++ ended more
ended-append [] more = refl
ended-append (line ∷ front) more =
    ap (λ (t : List ℕ). (line ++ 10 ∷ []) ++ t) (ended-append front more)
    ∙ sym (append_assoc (line ++ 10 ∷ []) (ended front) (ended more))

pub within-append : (front more : List (List ℕ)) → AllByRecursion IsWithinLine front → AllByRecursion IsWithinLine more
    → AllByRecursion IsWithinLine (front ++ more)
within-append [] more h k = k
within-append (line ∷ front) more h k = (h.0, within-append front more h.1 k)

pub within-more : (line : List ℕ) (byte : ℕ) → IsWithinLine line → byte ≢ 10 → IsWithinLine (line ++ byte ∷ [])
within-more [] byte h apart = (apart, tt)
within-more (first ∷ line) byte h apart = (h.0, within-more line byte h.1 apart)
