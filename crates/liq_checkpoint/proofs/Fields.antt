-- A field that is read is the field that was written, and what was written is read again.
use Rattle.std.proofs.Common.{◌≡◌, ℕ, zero, suc, ◌+◌, ◌*◌, ◌/◌, ◌%◌, ◌^◌, ◌<◌, ◌≤◌, Bool, true, false, cond, ltb, List, [], ◌∷◌, ◌++◌, length, get_or, take, drop, Result, Ok, Err, refl, sym, ap, subst, ◌∙◌, append_assoc, arith, inl, inr}
use Rattle.std.specs.Int.{byte_at, bytes_high_first}
use Rattle.std.proofs.Math.Nat.{mul-add-mod_self_right, mul-add-div_right, mul_assoc, one-le-pow, pow-succ', mod-eq_of_lt}
use Rattle.std.proofs.lemmas.Bool.{cases_lt, ltb-false, le-ltb}
use Rattle.std.proofs.lemmas.List.{drop_at, take-append-drop, length-append, length-take, get_or-drop, get_or-take, get_or_past, append-nil}
use Rattle.std.proofs.lemmas.Nat.{div-mul-add}
use Rattle.byteorder.specs.Endian.{big_from, big_number}
use Rattle.byteorder.specs.Numbers.{big_from-cons, big_from-lt, big_from-append, big_number-reads_back, length-bytes_high_first}
use Rattle.liq_checkpoint.specs.Spelling.{Field, bytes_of, spelled, Fit, eights}
use Rattle.liq_checkpoint.specs.Reading.{◌>>=◌, number_at, tested, numbers_at}

-- ---- bytes

abbrev pub IsBytes : List ℕ → Type 0
IsBytes bytes = (i : ℕ) → get_or bytes i 0 < 256

pub IsBytes-drop : (n : ℕ) (bytes : List ℕ) → IsBytes bytes → IsBytes (drop n bytes)
IsBytes-drop n bytes h i = rw get_or-drop (h (n + i))

IsBytes-take : (n : ℕ) (bytes : List ℕ) → IsBytes bytes → IsBytes (take n bytes)
IsBytes-take n bytes h i =
    elim (cases_lt i n) [
      | inl lt ↦ rw (get_or-take n bytes i 0 lt) (h i)
      | inr le ↦ rw (get_or_past (take n bytes) i 0 (omega (arith, length-take n bytes))) (omega arith)
    ]

IsBytes-rest : (x : ℕ) (xs : List ℕ) → IsBytes (x ∷ xs) → IsBytes xs
IsBytes-rest x xs h i = h (suc i)

-- ---- a number's bytes, and the number in bytes

-- what is added above a byte isn't in it
byte_below : (k a r : ℕ) → byte_at k (a * 256 * 256 ^ k + r) ≡ byte_at k r
byte_below zero a r = let e : a * 256 * 1 + r ≡ a * 256 + r = omega arith in ap (λ (m : ℕ). m % 256) e
    ∙ mul-add-mod_self_right a 256 r
byte_below (suc k) a r =
    ap (λ (q : ℕ). q % 256) (mul-add-div_right {m = 256 ^ suc k} (one-le-pow (suc k) 256 (omega arith)) (a * 256) r)
    ∙ mul-add-mod_self_right a 256 (r / 256 ^ suc k)

-- nor in all of them
above : (k a r : ℕ) → bytes_high_first k (a * 256 ^ k + r) ≡ bytes_high_first k r
above zero a r = refl
above (suc k) a r =
    let moved : a * 256 ^ suc k ≡ a * 256 * 256 ^ k = ap (λ (p : ℕ). a * p) (pow-succ' 256 k)
    ∙ sym (mul_assoc a 256 (256 ^ k)) in
    let lower : bytes_high_first k (a * 256 ^ suc k + r) ≡ bytes_high_first k r =
    ap (λ (m : ℕ). bytes_high_first k (m + r)) moved ∙ above k (a * 256) r in
    let byte : byte_at k (a * 256 ^ suc k + r) ≡ byte_at k r = ap (λ (m : ℕ). byte_at k (m + r)) moved
    ∙ byte_below k a r in
    rw (byte, lower) refl

top : (k x rest : ℕ) → x < 256 → rest < 256 ^ k → byte_at k (x * 256 ^ k + rest) ≡ x
top zero x rest small below = let e : x * 1 + rest ≡ x = omega arith in ap (λ (m : ℕ). m % 256) e ∙ mod-eq_of_lt small
top (suc k) x rest small below = ap (λ (q : ℕ). q % 256) (div-mul-add x (256 ^ suc k) rest below) ∙ mod-eq_of_lt small

-- the bytes of the number in so many bytes are these bytes
back : (n : ℕ) (xs : List ℕ) → length xs ≡ n → IsBytes xs → bytes_high_first n (big_from 0 n xs) ≡ xs
back zero [] len fits = refl
back zero (x ∷ xs) len fits = absurd (omega arith)
back (suc n) [] len fits = absurd (omega arith)
back (suc n) (x ∷ xs) len fits =
    let below : big_from 0 n xs < 256 ^ n = big_from-lt 0 n xs (IsBytes-rest x xs fits) in
    let lower : bytes_high_first n (big_from 0 n xs) ≡ xs = back n xs (omega arith) (IsBytes-rest x xs fits) in
    rw (big_from-cons 0 n x xs, top n x (big_from 0 n xs) (fits 0) below, above n x (big_from 0 n xs), lower) refl

-- ---- steps of a reading

-- the value of a step that didn't fail
pub bind_ok : {A B : Type 0} (r : Result A ℕ) (f : A → Result B ℕ) (y : B) → (r >>= f) ≡ Ok y → (x : A) × (r ≡ Ok x)
    × (f x ≡ Ok y)
bind_ok (Ok x) f y e = (x, refl, e)
bind_ok (Err place) f y e = absurd cc

abbrev done : {A : Type 0} → A → Result A ℕ
done x = Ok x

pub ok_is : {A : Type 0} (x y : A) → done x ≡ done y → x ≡ y
ok_is x y e = cc

-- a test that was passed
pub passed : {X : Type 0} (fits : Bool) (end : ℕ) (at : List ℕ) (x y : X) → tested fits end at x ≡ Ok y → (fits ≡ true)
    × (x ≡ y)
passed true end at x y e = (refl, cc)
passed false end at x y e = absurd cc

passed_on : {X Y : Type 0} (fits : Bool) (end : ℕ) (at : List ℕ) (x : X) (f : X → Result Y ℕ) (y : Y)
    → (tested fits end at x >>= f) ≡ Ok y → (fits ≡ true) × (f x ≡ Ok y)
passed_on true end at x f y e = (refl, e)
passed_on false end at x f y e = absurd cc

pub passed_then : {X Y P : Type 0} (fits : Bool) (end : ℕ) (at : List ℕ) (x : X) (f : X → Result Y ℕ) (y : Y)
    → (tested fits end at x >>= f) ≡ Ok y → (fits ≡ true → f x ≡ Ok y → P) → P
passed_then fits end at x f y e on = let p = passed_on fits end at x f y e in on p.0 p.1

-- ---- what a reading took from the front

pub spelled-append : (fields more : List Field) → spelled (fields ++ more) ≡ spelled fields ++ spelled more
spelled-append [] more = refl
spelled-append (f ∷ fs) more = ap (λ (bytes : List ℕ). bytes_of f ++ bytes) (spelled-append fs more)
    ∙ sym (append_assoc (bytes_of f) (spelled fs) (spelled more))

pub Fit-append : (fields more : List Field) → Fit fields → Fit more → Fit (fields ++ more)
Fit-append [] more h g = g
Fit-append (f ∷ fs) more h g = (h.0, Fit-append fs more h.1 g)

pub Fit-front : (fields more : List Field) → Fit (fields ++ more) → Fit fields
Fit-front [] more h = tt
Fit-front (f ∷ fs) more h = (h.0, Fit-front fs more h.1)

pub Fit-back : (fields more : List Field) → Fit (fields ++ more) → Fit more
Fit-back [] more h = h
Fit-back (f ∷ fs) more h = Fit-back fs more h.1

pub record Takes (at : List ℕ) (fields : List Field) (rest : List ℕ) : Type 0 where
  pub parts : at ≡ spelled fields ++ rest
  pub fit : Fit fields
  pub rest_fits : IsBytes rest

pub Takes-none : (at : List ℕ) → IsBytes at → Takes at [] at
Takes-none at fits = record { parts = refl; fit = tt; rest_fits = fits }

pub Takes-then : {a : List ℕ} {fields : List Field} {b : List ℕ} {more : List Field} {c : List ℕ} → Takes a fields b
    → Takes b more c → Takes a (fields ++ more) c
Takes-then {a} {fields} {b} {more} {c} p q = record {
  parts = p.parts ∙ ap (λ (bytes : List ℕ). spelled fields ++ bytes) q.parts
      ∙ sym (append_assoc (spelled fields) (spelled more) c)
      ∙ ap (λ (bytes : List ℕ). bytes ++ c) (sym (spelled-append fields more));
  fit = Fit-append fields more p.fit q.fit;
  rest_fits = q.rest_fits;
}

-- ---- numbers

pub number_takes : (end count : ℕ) (at : List ℕ) (x : ℕ × List ℕ) → IsBytes at → number_at end count at ≡ Ok x
    → Takes at ((count, x.0) ∷ []) x.1
unfolding number_at bytes_of
number_takes end count at x fits e =
    by (ltb (length at) count) refl e where
      by : (short : Bool) → ltb (length at) count ≡ short
          → cond short (Err end) (Ok (big_number count at, drop count at)) ≡ Ok x → Takes at ((count, x.0) ∷ []) x.1
      by true is e = absurd cc
      by false is e =
          let long : count ≤ length at = ltb-false (length at) count is in
          let len : length (take count at) ≡ count = omega (arith, length-take count at) in
          let front : big_from 0 count (take count at) ≡ big_number count at =
          sym (big_from-append count (take count at) (drop count at) (omega arith))
          ∙ ap (big_from 0 count) (take-append-drop count at) in
          let text : bytes_of (count, big_number count at) ≡ take count at = ap (bytes_high_first count) (sym front)
          ∙ back count (take count at) len (IsBytes-take count at fits) in
          subst (λ (y : ℕ × List ℕ). Takes at ((count, y.0) ∷ []) y.1) (ok_is (big_number count at, drop count at) x e)
          (record {
            parts = sym (take-append-drop count at) ∙ ap (λ (bytes : List ℕ). bytes ++ drop count at) (sym text
                ∙ sym (append-nil (bytes_of (count, big_number count at))));
            fit = (big_from-lt 0 count at fits, tt);
            rest_fits = IsBytes-drop count at fits;
          })

-- from here on by what was read
pub number_then : {Y P : Type 0} (end count : ℕ) (at : List ℕ) (f : ℕ × List ℕ → Result Y ℕ) (y : Y) → IsBytes at
    → (number_at end count at >>= f) ≡ Ok y → ((n : ℕ) (rest : List ℕ) → Takes at ((count, n) ∷ []) rest
    → f (n, rest) ≡ Ok y → P) → P
number_then end count at f y fits e on = let a = bind_ok (number_at end count at) f y e
    in on a.0.0 a.0.1 (number_takes end count at a.0 fits a.1) a.2

pub number_again : (end count n : ℕ) (more : List Field) (rest : List ℕ) → n < 256 ^ count
    → number_at end count (spelled ((count, n) ∷ more) ++ rest) ≡ Ok (n, spelled more ++ rest)
unfolding number_at bytes_of
number_again end count n more rest small =
    let text = bytes_high_first count n in
    let behind = spelled more ++ rest in
    let len : length text ≡ count = length-bytes_high_first count n in
    let long : ltb (length (text ++ behind)) count ≡ false = le-ltb (length (text ++ behind)) count (omega (
      arith,
      length-append text behind,
    )) in
    let whole : number_at end count (text ++ behind) ≡ Ok (n, behind) =
    rw (long, big_number-reads_back count n behind small, drop_at text behind count len) refl in
    ap (number_at end count) (append_assoc text (spelled more) rest) ∙ whole

-- ---- numbers of eight bytes

pub numbers_take : (end n : ℕ) (at : List ℕ) (x : List ℕ × List ℕ) → IsBytes at → numbers_at end n at ≡ Ok x
    → Takes at (eights x.0) x.1 × (length x.0 ≡ n)
unfolding numbers_at
numbers_take end zero at x fits e = subst (λ (y : List ℕ × List ℕ). Takes at (eights y.0) y.1
    × (length y.0 ≡ 0)) (ok_is ([], at) x e) (Takes-none at fits, refl)
numbers_take end (suc n) at x fits e =
    let a = bind_ok (number_at end 8 at) _ x e in
    let b = bind_ok (numbers_at end n a.0.1) _ x a.2 in
    let first = number_takes end 8 at a.0 fits a.1 in
    let others = numbers_take end n a.0.1 b.0 first.rest_fits b.1 in
    subst (λ (y : List ℕ × List ℕ). Takes at (eights y.0) y.1 × (length y.0 ≡ suc n)) (ok_is (
      a.0.0 ∷ b.0.0,
      b.0.1,
    ) x b.2)
    (Takes-then first others.0, ap suc others.1)

pub numbers_then : {Y P : Type 0} (end n : ℕ) (at : List ℕ) (f : List ℕ × List ℕ → Result Y ℕ) (y : Y) → IsBytes at
    → (numbers_at end n at >>= f) ≡ Ok y → ((numbers : List ℕ) (rest : List ℕ) → Takes at (eights numbers) rest
    → length numbers ≡ n → f (numbers, rest) ≡ Ok y → P) → P
numbers_then end n at f y fits e on = let a = bind_ok (numbers_at end n at) f y e
    in let t = numbers_take end n at a.0 fits a.1 in on a.0.0 a.0.1 t.0 t.1 a.2

pub numbers_again : (end : ℕ) (numbers : List ℕ) (more : List Field) (rest : List ℕ) → Fit (eights numbers)
    → numbers_at end (length numbers) (spelled (eights numbers ++ more) ++ rest) ≡ Ok (numbers, spelled more ++ rest)
unfolding numbers_at
numbers_again end [] more rest fit = refl
numbers_again end (n ∷ ns) more rest fit =
    rw (number_again end 8 n (eights ns ++ more) rest fit.0, numbers_again end ns more rest fit.1) refl
