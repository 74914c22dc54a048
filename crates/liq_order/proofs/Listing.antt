-- The keys of the accounts after one left the list, or came to it.
use Rattle.std.proofs.Common.{◌≡◌, ℕ, ℤ, Bool, true, false, cond, List, [], ◌∷◌, refl, sym, ap, ◌∙◌, Some, None, Option, arith}
use Rattle.std.specs.Prelude.{◌==◌, not, find, option_map}
use Rattle.std.specs.Ordering.{match_ordering}
use Rattle.std.specs.declared.cmp.Ordering.{Ordering}
use Rattle.std.specs.declared.cmp.Ordering.TheVariants.{Less, Equal, Greater}
use Rattle.std.proofs.lemmas.Bool.Decides.{nat_tests}
use Rattle.liq_types.specs.Ranked.{Ranked, key_in, with_ranked, without_ranked, rank_order}

-- the key of the first entry, or one of the others
abbrev key_or : Ranked → ℕ → Bool → List Ranked → Option ℤ
key_or e account b es = option_map (λ (f : Ranked). f.0) (cond b (Some e) (find (λ (f : Ranked). f.1 == account) es))

pub key_without : (list : List Ranked) (account : ℕ) → key_in (without_ranked list account) account ≡ None
key_without [] account = refl
key_without (e ∷ es) account = by (e.1 == account) refl (key_without es account) where
  by : (b : Bool) → (e.1 == account) ≡ b → key_in (without_ranked es account) account ≡ None
      → key_in (cond (not b) (e ∷ without_ranked es account) (without_ranked es account)) account ≡ None
  by true is more = more
  by false is more = ap (λ t. key_or e account t (without_ranked es account)) is ∙ more

apart : (a b c : ℕ) → (a == b) ≡ false → (c == a) ≡ true → (c == b) ≡ false
apart a b c other same = grind (arith, nat_tests, other, same)

pub key_without_other : (list : List Ranked) (a b : ℕ) → (a == b) ≡ false → key_in (without_ranked list a) b
    ≡ key_in list b
key_without_other [] a b other = refl
key_without_other (e ∷ es) a b other = by (e.1 == a) refl (key_without_other es a b other) where
  by : (t : Bool) → (e.1 == a) ≡ t → key_in (without_ranked es a) b ≡ key_in es b
      → key_in (cond (not t) (e ∷ without_ranked es a) (without_ranked es a)) b ≡ key_in (e ∷ es) b
  by true is more = more ∙ sym (ap (λ t. key_or e b t es) (apart a b e.1 other is))
  by false is more = further (e.1 == b) where
    further : (t : Bool) → key_or e b t (without_ranked es a) ≡ key_or e b t es
    further true = refl
    further false = more

pub key_with_other : (list : List Ranked) (e : Ranked) (b : ℕ) → (e.1 == b) ≡ false → key_in (with_ranked list e) b
    ≡ key_in list b
key_with_other [] e b other = ap (λ t. key_or e b t []) other
key_with_other (f ∷ fs) e b other = by (rank_order e f) (key_with_other fs e b other) where
  by : (o : Ordering) → key_in (with_ranked fs e) b ≡ key_in fs b
      → key_in (match_ordering o (e ∷ f ∷ fs) (e ∷ f ∷ fs) (f ∷ with_ranked fs e)) b ≡ key_in (f ∷ fs) b
  by Less more = ap (λ t. key_or e b t (f ∷ fs)) other
  by Equal more = ap (λ t. key_or e b t (f ∷ fs)) other
  by Greater more = further (f.1 == b) where
    further : (t : Bool) → key_or f b t (with_ranked fs e) ≡ key_or f b t fs
    further true = refl
    further false = more
