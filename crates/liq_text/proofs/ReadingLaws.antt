-- What the readers of one word give.
use Rattle.std.proofs.Common.{◌≡◌, ℕ, zero, suc, ◌+◌, ◌*◌, ◌^◌, ◌<◌, ◌≤◌, Bool, true, false, cond, ltb, List, [], ◌∷◌, length, take, get_or, Option, Some, None, refl, sym, ap, subst, ◌∙◌, arith}
use Rattle.std.specs.Prelude.{decimal, ◌&&◌}
use Rattle.std.specs.Char.{digit_value}
use Rattle.std.specs.Str.{bytes_eq}
use Rattle.std.specs.Str.Parse.{AllDigits, digits_value}
use Rattle.std.proofs.lemmas.Bool.{ltb-true, lt-ltb, and_parts, and_from}
use Rattle.std.proofs.lemmas.Option.{cond_some}
use Rattle.std.proofs.lemmas.Fmt.{decimal_is_IsNumeral, decimal_nonempty, decimal_digit, first_decimal, decimal-digits_value}
use Rattle.std.proofs.lemmas.Int.Digits.{digits_value_more}
use Rattle.std.proofs.lemmas.Str.Parse.{numerals_by_value, tells_digits, digits_value-take-le}
use Rattle.std.proofs.lemmas.Slice.Eq.{bytes_eq-Decides}
use Rattle.liq_text.specs.Reading.{number_of}

pub yes : {A : Type 0} (b : Bool) (x y : A) → b ≡ true → cond b x y ≡ x
yes true x y e = refl
yes false x y e = absurd cc

-- what gives no number gives nothing
pub none_from : {A : Type 0} (o : Option A) → ((x : A) → o ≡ Some x → ⊥) → None ≡ o
none_from None h = refl
none_from (Some x) h = absurd (h x refl)

pub number_of-decimal : (piece : List ℕ) (n : ℕ) → n < 2 ^ 64 → piece ≡ decimal n → number_of piece ≡ Some n
unfolding number_of
number_of-decimal piece n lt e =
    let v : digits_value 10 piece ≡ n = ap (digits_value 10) e ∙ (decimal_is_IsNumeral n lt).1 in
    let small : digits_value 10 piece < 2 ^ 64 = rw v lt in
    let same : piece ≡ decimal (digits_value 10 piece) = e ∙ ap decimal (sym v) in
    yes (ltb (digits_value 10 piece) (2 ^ 64) && bytes_eq piece (decimal (digits_value 10 piece))) _ _
    (and_from _ _ (lt-ltb _ _ small) ((bytes_eq-Decides piece (decimal (digits_value 10 piece))).1 same)) ∙ ap Some v

pub number_of-some : (piece : List ℕ) (n : ℕ) → number_of piece ≡ Some n → (n < 2 ^ 64) × (piece ≡ decimal n)
unfolding number_of
number_of-some piece n e =
    let g = cond_some (ltb (digits_value 10 piece) (2 ^ 64) && bytes_eq piece (decimal (digits_value 10 piece)))
    (digits_value 10 piece) n e in
    let both = and_parts _ _ g.0 in
    let small : digits_value 10 piece < 2 ^ 64 = ltb-true _ _ both.0 in
    (rw (← g.1) small, (bytes_eq-Decides piece (decimal (digits_value 10 piece))).0 both.1 ∙ ap decimal g.1)

no_number : (word : List ℕ) → ((n : ℕ) → n < 2 ^ 64 → word ≡ decimal n → ⊥) → None ≡ number_of word
no_number word never = none_from (number_of word) (λ n e. let s = number_of-some word n e in never n s.0 s.1)

pub number_of-empty : (word : List ℕ) → length word ≡ 0 → None ≡ number_of word
number_of-empty word none = no_number word (λ n small is. omega (arith, decimal_nonempty n small, ap length is, none))

pub number_of-leading_zero : (word : List ℕ) → 1 < length word → get_or word 0 0 ≡ 48 → None ≡ number_of word
number_of-leading_zero word long lead = no_number word by where
  by : (n : ℕ) → n < 2 ^ 64 → word ≡ decimal n → ⊥
  by zero small is = omega (arith, long, ap length (is ∙ decimal_digit 0 (omega arith)))
  by (suc n) small is = omega (
    arith,
    lead,
    first_decimal (suc n) (omega arith) small,
    ap (λ (w : List ℕ). get_or w 0 0) is,
  )

digit_in : (ds : List ℕ) (i : ℕ) → AllDigits 10 ds → i < length ds → digit_value (get_or ds i 0) < 10
digit_in [] i all within = absurd (omega (arith, within))
digit_in (d ∷ ds) zero all within = all.0
digit_in (d ∷ ds) (suc i) all within = digit_in ds i all.1 (omega (arith, within))

-- a byte that is no digit, or one with which the number is too great
pub number_of-broken : (word : List ℕ) (i : ℕ) → i < length word → (digit_value (get_or word i 0) < 10
    → 2 ^ 64 ≤ digits_value 10 (take i word) * 10 + digit_value (get_or word i 0)) → None ≡ number_of word
number_of-broken word i within breaks = no_number word (λ n small is.
    let numeral = decimal_is_IsNumeral n small in
    let digit : digit_value (get_or word i 0) < 10 = digit_in word i (subst (AllDigits 10) (sym is) numeral.0.1) within
    in
    let value : digits_value 10 word ≡ n = ap (digits_value 10) is ∙ numeral.1 in
    let front : digits_value 10 (take (i + 1) word) ≤ digits_value 10 word =
    digits_value-take-le 10 word (i + 1) (omega arith) in
    omega (arith, small, value, front, breaks digit, digits_value_more 10 word i within))

pub number_of-digits : (word : List ℕ) → 0 < length word → (get_or word 0 0 ≡ 48 → length word ≡ 1) → AllDigits 10 word
    → digits_value 10 word < 2 ^ 64 → Some (digits_value 10 word) ≡ number_of word
number_of-digits word some lead all small =
    sym (number_of-decimal word (digits_value 10 word) small
    (sym (decimal-digits_value (numerals_by_value _ tells_digits) word all some lead small)))
