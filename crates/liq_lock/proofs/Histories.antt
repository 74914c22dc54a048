-- Beginnings of one history, and what the items beyond them carry.
use Rattle.std.proofs.Common.{◌≡◌, ℕ, ◌≤◌, ◌<◌, Bool, true, false, cond, ltb, List, [], ◌∷◌, ◌++◌, length, refl, sym, ap, ◌∙◌, subst, ⊎_elim, append_assoc, zero, suc, arith}
use mathlib.Core.Logic.{dite}
use native.Mathlib.Decide.{dec_lt}
use Rattle.std.specs.Prelude.{Contains}
use Rattle.std.proofs.lemmas.List.{append-nil}
use Rattle.std.proofs.lemmas.List.Elements.{Contains-append_left, Contains-append_right, Contains-append_cases}
use Rattle.std.proofs.lemmas.Bool.Decides.{nat_tests}
use Rattle.liq_lock.specs.History.{NoneOf, Behind}
use Rattle.liq_lock.specs.Views.{longer}

pub lt-ltb : (a b : ℕ) → a < b → ltb a b ≡ true
lt-ltb a b h = grind (arith, nat_tests)

not_lt-ltb : (a b : ℕ) → (a < b → ⊥) → ltb a b ≡ false
not_lt-ltb a b h = let le : b ≤ a = omega arith in grind (arith, nat_tests)

-- the only element of a list of one
pub in_one : {A : Type 0} (a x : A) → Contains (a ∷ []) x → a ≡ x
in_one a x (zero, lt, e) = e
in_one a x (suc k, lt, e) = absurd (omega arith)

pub one_in : {A : Type 0} (a : A) (l : List A) → Contains (a ∷ l) a
one_in a l = (0, omega arith, refl)

-- a list without elements
pub no_items : {A : Type 0} (l : List A) → ((x : A) → Contains l x → ⊥) → l ≡ []
no_items [] h = refl
no_items (x ∷ l) h = absurd (h x (one_in x l))

pub nothing_in_nil : {A : Type 0} (x : A) → ¬ Contains [] x
nothing_in_nil x c = let below : c.0 < 0 = c.1 in absurd (omega arith)

-- of two beginnings of one list the shorter begins the longer
pub beginnings : {A : Type 0} (a b x y : List A) → a ++ x ≡ b ++ y → length a ≤ length b → (d : List A) × (b ≡ a ++ d)
    × (x ≡ d ++ y)
beginnings [] b x y e h = (b, refl, e)
beginnings (p ∷ a) [] x y e h = absurd (omega arith)
beginnings (p ∷ a) (q ∷ b) x y e h =
    let heads : p ≡ q = cc in
    let tails : a ++ x ≡ b ++ y = cc in
    let r = beginnings a b x y tails (omega arith) in
    (r.0, (λ k. sym heads k ∷ r.1 k), r.2)

module _ {I : Type 0} (maker : I → ℕ) where
  pub behind_whole : (log : List I) (numbers : List ℕ) → Behind maker log numbers log
  behind_whole log numbers = ([], sym (append-nil log), λ i c _. nothing_in_nil i c)

  pub behind_none : (log : List I) → Behind maker log [] []
  behind_none log = (log, refl, λ i _ c. nothing_in_nil (maker i) c)

  pub behind_on : (log seen new : List I) (numbers : List ℕ) → Behind maker log numbers seen → NoneOf maker numbers new
      → Behind maker (log ++ new) numbers seen
  behind_on log seen new numbers b none = (
    b.0 ++ new,
    ap (λ l. l ++ new) b.1 ∙ append_assoc seen b.0 new,
    λ i c. ⊎_elim (b.2 i) (none i)
        (Contains-append_cases b.0 new i c),
  )

  -- what is beyond the longer of two beginnings carries none of the numbers of the shorter
  shorter_behind : (log a b : List I) (p q : List ℕ) (l : Behind maker log p a) (r : Behind maker log q b)
      → length a ≤ length b → Behind maker b p a × NoneOf maker p r.0
  shorter_behind log a b p q l r h =
      let d = beginnings a b l.0 r.0 (sym l.1 ∙ r.1) h in (
        (d.0, d.1, λ i c. l.2 i (subst (λ xs. Contains xs i) (sym d.2) (Contains-append_left d.0 r.0 i c))),
        λ i c. l.2 i (subst (λ xs. Contains xs i) (sym d.2) (Contains-append_right d.0 r.0 i c)),
      )

  -- the longer of two beginnings goes on from both, and the history from it
  pub longer_behind : (log a b : List I) (p q : List ℕ) → Behind maker log p a → Behind maker log q b
      → Behind maker log (p ++ q) (longer a b) × Behind maker (longer a b) p a × Behind maker (longer a b) q b
  longer_behind log a b p q l r =
      let Goal : List I → Type 0 = λ c. Behind maker log (p ++ q) c × Behind maker c p a × Behind maker c q b in
      dite (dec_lt (length a) (length b))
      (λ yes. let o = shorter_behind log a b p q l r (omega arith) in
      subst (λ (t : Bool). Goal (cond t b a)) (sym (lt-ltb (length a) (length b) yes))
      ((r.0, r.1, λ i c k. ⊎_elim (o.1 i c) (r.2 i c) (Contains-append_cases p q (maker i) k)), o.0, behind_whole b q))
      (λ no. let o = shorter_behind log b a q p r l (omega arith) in
      subst (λ (t : Bool). Goal (cond t b a)) (sym (not_lt-ltb (length a) (length b) no))
      ((l.0, l.1, λ i c k. ⊎_elim (l.2 i c) (o.1 i c) (Contains-append_cases p q (maker i) k)), behind_whole a p, o.0))
