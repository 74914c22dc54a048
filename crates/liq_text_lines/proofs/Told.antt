-- What was read of a source that tells its bytes.
use Rattle.std.proofs.Common.{◌≡◌, ◌≢◌, ℕ, List, [], ◌∷◌, ◌++◌, Option, Some, None, refl, ap, sym, subst, ◌∙◌, append_assoc, append-nil}
use Rattle.liq_text_lines.specs.Lines.{lines_in, ended, IsWithinLine}
use Rattle.liq_text_lines.specs.Reading.{unread, Reads, IsOver}
use Rattle.liq_text_lines.proofs.Bytes.{told_reads}
use Rattle.liq_text_lines.proofs.LinesRead.{lines_in-ended, lines_in-unended, lines_in-longer, lines_in-some, ended-append}

pub told : (xs : List ℕ) (before after : Option (List ℕ)) (bytes : List ℕ) → before ≡ Some bytes → Reads before xs after
    → Reads (Some bytes) xs after
told xs before after bytes is reads = subst (λ (v : Option (List ℕ)). Reads v xs after) is reads

-- ---- what is unread then

pub told_rest : (bytes xs : List ℕ) (after : Option (List ℕ)) → Reads (Some bytes) xs after → (rest : List ℕ)
    × (after ≡ Some rest) × (bytes ≡ xs ++ rest)
told_rest bytes xs None h = absurd (cc h)
told_rest bytes xs (Some rest) h = (rest, refl, told_reads bytes xs rest h)

-- what the source has left
pub told_left : (bytes xs taken : List ℕ) (left : Option (List ℕ)) → Reads (Some bytes) xs (unread taken left)
    → (more : List ℕ) × (left ≡ Some more) × (bytes ≡ xs ++ (taken ++ more))
told_left bytes xs taken None h = absurd (cc h)
told_left bytes xs taken (Some more) h = (more, refl, told_reads bytes xs (taken ++ more) h)

pub empty_end : (xs ys : List ℕ) → xs ++ ys ≡ [] → ys ≡ []
empty_end [] ys h = h
empty_end (x ∷ xs) ys h = absurd (cc h)

-- the source is at its end
pub over_left : (bytes xs taken : List ℕ) (left : Option (List ℕ)) → Reads (Some bytes) xs (unread taken left)
    → IsOver (unread taken left) → (left ≡ Some []) × (bytes ≡ xs)
over_left bytes xs taken None h over = absurd (cc h)
over_left bytes xs taken (Some more) h over = (
  ap Some (empty_end taken more over),
  told_reads bytes xs (taken ++ more) h ∙ ap (λ (t : List ℕ). xs ++ t) over
      ∙ append-nil xs,
)

-- ---- the first line of what was unread

pub first-ended : (bytes line : List ℕ) (after : Option (List ℕ)) → IsWithinLine line
    → Reads (Some bytes) (line ++ 10 ∷ []) after → (more : List (List ℕ)) × (lines_in bytes ≡ line ∷ more)
first-ended bytes line after within reads =
    let t = told_rest bytes (line ++ 10 ∷ []) after reads in
    (lines_in t.0, ap lines_in (t.2 ∙ append_assoc line (10 ∷ []) t.0) ∙ lines_in-ended line t.0 within)

pub only-unended : (bytes line taken : List ℕ) (left : Option (List ℕ)) → IsWithinLine line → line ≢ []
    → Reads (Some bytes) line (unread taken left) → IsOver (unread taken left) → lines_in bytes ≡ line ∷ []
only-unended bytes line taken left within some reads over = ap lines_in (over_left bytes line taken left reads over).1
    ∙ lines_in-unended line within some

-- a line that goes on past what was read
pub first-longer : (bytes line : List ℕ) (byte : ℕ) (after : Option (List ℕ)) → IsWithinLine line → byte ≢ 10
    → Reads (Some bytes) (line ++ byte ∷ []) after → (tail : List ℕ) × (more : List (List ℕ))
    × (lines_in bytes ≡ (line ++ byte ∷ tail) ∷ more)
first-longer bytes line byte after within apart reads =
    let t = told_rest bytes (line ++ byte ∷ []) after reads in
    let longer = lines_in-longer line byte t.0 within apart in
    (longer.0, longer.1, ap lines_in (t.2 ∙ append_assoc line (byte ∷ []) t.0) ∙ longer.2)

pub first-begun : (bytes : List ℕ) (byte : ℕ) (after : Option (List ℕ)) → Reads (Some bytes) (byte ∷ []) after
    → (line : List ℕ) × (more : List (List ℕ)) × (lines_in bytes ≡ line ∷ more)
first-begun bytes byte after reads =
    let t = told_rest bytes (byte ∷ []) after reads in
    let some = lines_in-some byte t.0 in
    (some.0, some.1, ap lines_in t.2 ∙ some.2)

-- ---- one more whole line

pub ended-more : (front : List (List ℕ)) (line rest : List ℕ) → ended front ++ ((line ++ 10 ∷ []) ++ rest)
    ≡ ended (front ++ line ∷ []) ++ rest
ended-more front line rest =
    sym (append_assoc (ended front) (line ++ 10 ∷ []) rest)
    ∙ ap (λ (t : List ℕ). (ended front ++ t) ++ rest) (sym (append-nil (line ++ 10 ∷ [])))
    ∙ ap (λ (t : List ℕ). t ++ rest) (sym (ended-append front (line ∷ [])))
