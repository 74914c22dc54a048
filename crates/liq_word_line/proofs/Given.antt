-- The words that are given.
use Rattle.std.proofs.Common.{◌≡◌, ℕ, Bool, true, List, [], ◌∷◌, Some, None, Option, length, get_or, sym, ap, ◌∙◌, arith}
use Rattle.std.specs.Prelude.{IsTrue, IfSome, is_some}
use Rattle.std.specs.Str.{bytes_eq}
use Rattle.std.proofs.lemmas.Slice.Eq.{bytes_eq-Decides}
use Rattle.liq_word_line.specs.declared.words.Word.{Word}

pub one_word : {X : Type 0} (words : List X) (w : X) → length words ≡ 1 → w ≡ get_or words 0 w → words ≡ w ∷ []
one_word [] w one first = absurd (omega (arith, one))
one_word (v ∷ []) w one first = ap (λ u. u ∷ []) (sym first)
one_word (v ∷ u ∷ words) w one first = absurd (omega (arith, one))

pub three_words : {X : Type 0} (words : List X) (u v w : X) → length words ≡ 3 → u ≡ get_or words 0 u
    → v ≡ get_or words 1 v → w ≡ get_or words 2 w → words ≡ u ∷ v ∷ w ∷ []
three_words [] u v w three first second third = absurd (omega (arith, three))
three_words (x ∷ []) u v w three first second third = absurd (omega (arith, three))
three_words (x ∷ y ∷ []) u v w three first second third = absurd (omega (arith, three))
three_words (x ∷ y ∷ z ∷ []) u v w three first second third = cc
three_words (x ∷ y ∷ z ∷ t ∷ words) u v w three first second third = absurd (omega (arith, three))

-- a word that was compared
pub same_text : (bytes shown wanted : List ℕ) (b : Bool) → shown ≡ bytes → b ≡ bytes_eq shown wanted → IsTrue b
    → bytes ≡ wanted
same_text bytes shown wanted b is eq holds = sym is ∙ (bytes_eq-Decides shown wanted).0 (sym eq ∙ holds)

-- what holds of the value in a `Some`
pub some_such : (o : Option Word) (P : Word → Type 0) → IfSome o P → is_some o ≡ true → (word : Word) × P word
some_such None P h some = absurd cc
some_such (Some word) P h some = (word, h)
