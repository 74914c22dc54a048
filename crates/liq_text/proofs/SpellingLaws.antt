-- What is read is spelled, and what is spelled is read.
use Rattle.std.proofs.Common.{◌≡◌, ℕ, ◌^◌, ◌<◌, Bool, true, false, cond, ltb, eqb, List, [], ◌∷◌, Option, Some, None, refl, sym, ap, subst, ◌∙◌, arith, inl, inr, ◌⊎◌, lit<}
use Rattle.std.specs.Prelude.{decimal, codes, not, ◌&&◌}
use Rattle.std.specs.List.{AllByRecursion}
use Rattle.std.specs.Char.{digit_value}
use Rattle.std.specs.Str.{bytes_eq}
use Rattle.std.specs.Str.Parse.{IsNumeral, AllDigits}
use Rattle.std.proofs.lemmas.Str.Parse.{digit_from_value}
use Rattle.std.proofs.lemmas.Fmt.{decimal_is_IsNumeral}
use Rattle.std.proofs.lemmas.Bool.{ltb-true, lt-ltb, eqb-true, eqb-false, ne_eqb, and_from, false_from_ne_true}
use Rattle.std.proofs.lemmas.Option.{cond_some, same_Some}
use Rattle.std.proofs.lemmas.Slice.Eq.{bytes_eq-Decides}
use Rattle.liq_text.specs.Spelling.{Word, text, account, number, hint, Spell, SpellEach}
use Rattle.liq_text.specs.Reading.{◌>>=◌, number_of, account_of, hint_of, Kind, an_account, a_number, a_hint, Value, value_of, Makes, first, others, is_empty, fields}
use Rattle.liq_text.proofs.ReadingLaws.{number_of-decimal, number_of-some, yes}

-- the value of a step that did not fail
pub bind_some : {A B : Type 0} (o : Option A) (f : A → Option B) (y : B) → (o >>= f) ≡ Some y → (x : A) × (o ≡ Some x)
    × (f x ≡ Some y)
bind_some None f y e = absurd cc
bind_some (Some x) f y e = (x, refl, e)

-- a test that chose the other way
pub either_some : {A : Type 0} (b : Bool) (x y : Option A) (z : A) → cond b x y ≡ Some z → ((b ≡ true) × (x ≡ Some z))
    ⊎ ((b ≡ false) × (y ≡ Some z))
either_some true x y z e = inl (refl, e)
either_some false x y z e = inr (refl, e)

-- ---- one word

pub account_takes : (piece : List ℕ) (a : ℕ) → account_of piece ≡ Some a → (a < 2 ^ 32) × (piece ≡ decimal a)
unfolding account_of
account_takes piece a e =
    let b = bind_some (number_of piece) (λ n. cond (ltb n (2 ^ 32)) (Some n) None) a e in
    let g = cond_some (ltb b.0 (2 ^ 32)) b.0 a b.2 in
    let small : b.0 < 2 ^ 32 = ltb-true _ _ g.0 in
    let s = number_of-some piece b.0 b.1 in
    (rw (← g.1) small, s.1 ∙ ap decimal g.1)

pub account_again : (piece : List ℕ) (a : ℕ) → a < 2 ^ 32 → piece ≡ decimal a → account_of piece ≡ Some a
unfolding account_of
account_again piece a small e =
    let lt : a < 2 ^ 64 = omega arith in
    let n = number_of-decimal piece a lt e in
    ap (λ (o : Option ℕ). o >>= λ n. cond (ltb n (2 ^ 32)) (Some n) None) n
    ∙ yes (ltb a (2 ^ 32)) _ _ (lt-ltb _ _ small)

-- an account word as a hint
abbrev as_hint : ℕ → Option ℕ
as_hint a = cond (eqb a 4294967295) None (Some a)

account_hint : (piece : List ℕ) (h : Option ℕ)
    → (account_of piece >>= λ a. cond (eqb a 4294967295) (Some None) (Some (Some a))) ≡ Some h → Spell piece (hint h)
account_hint piece h e =
    let b = bind_some (account_of piece) (λ a. cond (eqb a 4294967295) (Some None) (Some (Some a))) h e in
    let t = account_takes piece b.0 b.1 in
    elim (either_some (eqb b.0 4294967295) (Some None) (Some (Some b.0)) h b.2) [
      | inl g ↦ subst (λ (x : Option ℕ). Spell piece (hint x)) (same_Some None h g.1) (inr (t.1
          ∙ ap decimal (eqb-true _ _ g.0)))
      | inr g ↦
          let other : b.0 ≡ 4294967295 → ⊥ = eqb-false _ _ g.0 in
          let below : b.0 < 2 ^ 32 = t.0 in
          subst (λ (x : Option ℕ). Spell piece (hint x)) (same_Some (Some b.0) h g.1) (omega arith, t.1)
    ]

hint_takes : (piece : List ℕ) (h : Option ℕ) → hint_of piece ≡ Some h → Spell piece (hint h)
unfolding hint_of
hint_takes piece h e =
    elim (either_some (bytes_eq piece (codes "-")) (Some None) (account_of piece >>= λ a. cond (eqb a 4294967295)
    (Some None) (Some (Some a))) h e) [
      | inl g ↦ subst (λ (x : Option ℕ). Spell piece (hint x)) (same_Some None h g.1)
          (inl ((bytes_eq-Decides piece (codes "-")).0 g.0))
      | inr g ↦ account_hint piece h g.1
    ]

no_dash : (a : ℕ) → a < 2 ^ 64 → codes "-" ≡ decimal a → ⊥
no_dash a lt e = let d : IsNumeral 10 (codes "-") = subst (λ (ds : List ℕ). IsNumeral 10 ds) (sym e)
    (decimal_is_IsNumeral a lt).0 in let far : digit_value 45 < 10 = d.1.0 in omega (arith, far)

pub dashless : (piece : List ℕ) (a : ℕ) → a < 2 ^ 32 → piece ≡ decimal a → bytes_eq piece (codes "-") ≡ false
dashless piece a small e = false_from_ne_true (bytes_eq piece (codes "-")) (λ t. no_dash a (omega arith)
    (sym ((bytes_eq-Decides piece (codes "-")).0 t) ∙ e))

hint_again : (piece : List ℕ) (h : Option ℕ) → Spell piece (hint h) → hint_of piece ≡ Some h
unfolding hint_of
hint_again piece None (inl e) = yes (bytes_eq piece (codes "-")) _ _ ((bytes_eq-Decides piece (codes "-")).1 e)
hint_again piece None (inr e) =
    let a = account_again piece 4294967295 (lit< tt) e in
    rw (dashless piece 4294967295 (lit< tt) e, a) refl
hint_again piece (Some a) s =
    let below : a < 2 ^ 32 = omega (arith, s.0) in
    let other : eqb a 4294967295 ≡ false = ne_eqb a 4294967295 (λ e. omega (arith, s.0, e)) in
    rw (dashless piece a below s.1, account_again piece a below s.1, other) refl

-- what a value of a kind is as a word
abbrev pub word_of : (kind : Kind) → Value kind → Word
word_of an_account a = account a
word_of a_number n = number n
word_of a_hint h = hint h

value_takes : (kind : Kind) (piece : List ℕ) (v : Value kind) → value_of kind piece ≡ Some v
    → Spell piece (word_of kind v)
value_takes an_account piece v e = account_takes piece v e
value_takes a_number piece v e = number_of-some piece v e
value_takes a_hint piece v e = hint_takes piece v e

value_again : (kind : Kind) (piece : List ℕ) (v : Value kind) → Spell piece (word_of kind v)
    → value_of kind piece ≡ Some v
value_again an_account piece v s = account_again piece v s.0 s.1
value_again a_number piece v s = number_of-decimal piece v s.0 s.1
value_again a_hint piece v s = hint_again piece v s

-- ---- the words of a form

abbrev pub Values : List Kind → Type 0
Values [] = Unit {0}
Values (kind ∷ kinds) = Value kind × Values kinds

abbrev pub words_of : (kinds : List Kind) → Values kinds → List Word
words_of [] vs = []
words_of (kind ∷ kinds) vs = word_of kind vs.0 ∷ words_of kinds vs.1

abbrev pub made : {A : Type 0} (kinds : List Kind) → Makes kinds A → Values kinds → A
made [] make vs = make
made (kind ∷ kinds) make vs = made kinds (make vs.0) vs.1

empty_takes : (pieces : List (List ℕ)) → is_empty pieces ≡ true → pieces ≡ []
unfolding is_empty
empty_takes [] e = refl
empty_takes (piece ∷ pieces) e = absurd cc

pub fields_take : {A : Type 0} (kinds : List Kind) (make : Makes kinds A) (pieces : List (List ℕ)) (x : A)
    → fields kinds make pieces ≡ Some x → (vs : Values kinds) × (x ≡ made kinds make vs)
    × SpellEach pieces (words_of kinds vs)
unfolding first others
fields_take [] make pieces x e =
    let g = cond_some (is_empty pieces) make x e in
    (tt, sym g.1, rw (empty_takes pieces g.0) tt)
fields_take (kind ∷ kinds) make [] x e = absurd cc
fields_take (kind ∷ kinds) make (piece ∷ pieces) x e =
    let b = bind_some (value_of kind piece) (λ v. fields kinds (make v) pieces) x e in
    let rest = fields_take kinds (make b.0) pieces x b.2 in
    ((b.0, rest.0), rest.1, (value_takes kind piece b.0 b.1, rest.2))

pub fields_again : {A : Type 0} (kinds : List Kind) (make : Makes kinds A) (pieces : List (List ℕ)) (vs : Values kinds)
    → SpellEach pieces (words_of kinds vs) → fields kinds make pieces ≡ Some (made kinds make vs)
unfolding first others is_empty
fields_again [] make [] vs s = refl
fields_again [] make (piece ∷ pieces) vs s = absurd s
fields_again (kind ∷ kinds) make [] vs s = absurd s
fields_again (kind ∷ kinds) make (piece ∷ pieces) vs s =
    ap (λ (o : Option (Value kind)). o >>= λ v. fields kinds (make v) pieces) (value_again kind piece vs.0 s.0)
    ∙ fields_again kinds (make vs.0) pieces vs.1 s.1

-- ---- no word holds a space

abbrev pub plain : List ℕ → Bool
plain [] = true
plain (b ∷ bs) = not (eqb b 32) && plain bs

abbrev pub IsPlain : List ℕ → Type 0
IsPlain piece = plain piece ≡ true

abbrev pub IsPlainWord : Word → Type 0
IsPlainWord (text t) = plain t ≡ true
IsPlainWord _ = Unit {0}

digit_not_space : (c : ℕ) → digit_value c < 10 → not (eqb c 32) ≡ true
digit_not_space c small =
    let digit = digit_from_value c small in
    ap not (ne_eqb c 32 (λ e. omega (arith, digit.0, digit.1, e)))

digits_plain : (ds : List ℕ) → AllDigits 10 ds → plain ds ≡ true
digits_plain [] h = refl
digits_plain (c ∷ cs) h = and_from _ _ (digit_not_space c h.0) (digits_plain cs h.1)

pub decimal_plain : (piece : List ℕ) (n : ℕ) → n < 2 ^ 64 → piece ≡ decimal n → plain piece ≡ true
decimal_plain piece n small e = ap plain e ∙ digits_plain (decimal n) (decimal_is_IsNumeral n small).0.1

pub plain_spelled : (piece : List ℕ) (word : Word) → IsPlainWord word → Spell piece word → plain piece ≡ true
plain_spelled piece (text t) p s = ap plain s ∙ p
plain_spelled piece (account a) p s = decimal_plain piece a (omega (arith, s.0)) s.1
plain_spelled piece (number n) p s = decimal_plain piece n s.0 s.1
plain_spelled piece (hint None) p (inl e) = ap plain e
plain_spelled piece (hint None) p (inr e) = decimal_plain piece 4294967295 (lit< tt) e
plain_spelled piece (hint (Some a)) p s = decimal_plain piece a (omega (arith, s.0)) s.1

pub plain_words_of : (kinds : List Kind) (values : Values kinds) → AllByRecursion IsPlainWord (words_of kinds values)
plain_words_of [] values = tt
plain_words_of (an_account ∷ kinds) values = (tt, plain_words_of kinds values.1)
plain_words_of (a_number ∷ kinds) values = (tt, plain_words_of kinds values.1)
plain_words_of (a_hint ∷ kinds) values = (tt, plain_words_of kinds values.1)

pub plain_each : (pieces : List (List ℕ)) (words : List Word) → AllByRecursion IsPlainWord words
    → SpellEach pieces words → AllByRecursion IsPlain pieces
plain_each [] words p s = tt
plain_each (piece ∷ pieces) [] p s = absurd s
plain_each (piece ∷ pieces) (word ∷ words) p s = (plain_spelled piece word p.0 s.0, plain_each pieces words p.1 s.1)
