-- What the tests on a seat's view mean.
use Rattle.std.proofs.Common.{◌≡◌, ℕ, zero, suc, ◌≤◌, Bool, true, false, List, [], ◌∷◌, refl, sym, ap, ◌∙◌, arith}
use Rattle.std.specs.Prelude.{Option, Some, None}
use Rattle.liq_lock.specs.declared.view.View.{View}
use Rattle.liq_lock.specs.Views.{resting, turning, is_at_rest, is_turn, is_empty_hand, view_in}

resting_is : (o : Option ℕ) (a b : Bool) (k : ℕ) → resting o a b k ≡ true → (o ≡ None) × (a ≡ false) × (b ≡ false)
    × (1 ≤ k)
resting_is None false false (suc k) e = (refl, refl, refl, omega arith)
resting_is None false false zero e = absurd (cc)
resting_is None false true k e = absurd (cc)
resting_is None true b k e = absurd (cc)
resting_is (Some t) a b k e = absurd (cc)

turning_is : (o : Option ℕ) (a b : Bool) (k : ℕ) → turning o a b k ≡ true → ((t : ℕ) × (o ≡ Some t)) × (a ≡ true)
    × (b ≡ false) × (1 ≤ k)
turning_is (Some t) true false (suc k) e = ((t, refl), refl, refl, omega arith)
turning_is (Some t) true false zero e = absurd (cc)
turning_is (Some t) true true k e = absurd (cc)
turning_is (Some t) false b k e = absurd (cc)
turning_is None a b k e = absurd (cc)

module _ {I : Type 0} where
  pub record AtRest (v : View I) : Type 0 where
    pub ticket : v.ticket ≡ None
    pub calm : v.inside ≡ false
    pub whole : v.splitting ≡ false
    pub alive : 1 ≤ v.shares

  pub record AtTurn (v : View I) : Type 0 where
    pub ticket : (t : ℕ) × (v.ticket ≡ Some t)
    pub inside : v.inside ≡ true
    pub whole : v.splitting ≡ false
    pub alive : 1 ≤ v.shares

  pub at_rest : (v : View I) → is_at_rest v ≡ true → AtRest v
  at_rest v e = let f = resting_is v.ticket v.inside v.splitting v.shares e
      in record { ticket = f.0; calm = f.1; whole = f.2; alive = f.3 }

  pub at_turn : (v : View I) → is_turn v ≡ true → AtTurn v
  at_turn v e = let f = turning_is v.ticket v.inside v.splitting v.shares e
      in record { ticket = f.0; inside = f.1; whole = f.2; alive = f.3 }

pub one_hand : {T : Type 0} (l : List (ℕ × Option T)) → is_empty_hand l ≡ true → l ≡ (0, None) ∷ []
one_hand [] e = absurd (cc)
one_hand ((zero, None) ∷ []) e = refl
one_hand ((zero, Some x) ∷ l) e = absurd (cc)
one_hand ((zero, None) ∷ p ∷ l) e = absurd (cc)
one_hand ((suc k, o) ∷ l) e = absurd (cc)

-- the view of a seat that is at rest
pub rest_of : {I : Type 0} (views : List (View I)) (v : View I) → is_at_rest (view_in views) ≡ true → views ≡ v ∷ []
    → AtRest v
rest_of {I} views v rest is = at_rest v (sym (ap (λ (l : List (View I)). is_at_rest (view_in l)) is) ∙ rest)
