-- The rule at the start, and what it says of a seat with all shares.
use Rattle.std.proofs.Common.{◌≡◌, ℕ, zero, suc, ◌+◌, ◌^◌, ◌<◌, ◌≤◌, false, ltb, List, [], ◌∷◌, ◌++◌, refl, sym, ap, ◌∙◌, subst, inl, inr, ⊎_elim, arith}
use mathlib.Core.Logic.{dite}
use mathlib.Core.Option.{some, some-injective, some-ne-none}
use native.Mathlib.Decide.{ℕ_discrete}
use lib.ListN.{get_elem?}
use Rattle.std.specs.Prelude.{Option, Some, Contains}
use Rattle.std.proofs.lemmas.List.{append-nil}
use Rattle.std.proofs.lemmas.List.Elements.{Contains-append_right}
use Rattle.std.proofs.lemmas.List.Sums.{sum_by-cons}
use mathlib.Core.Option as maybe
use Rattle.atomic_table.specs.Table.{State, opening, Seen, Final}
use Rattle.liq_lock.specs.declared.view.View.{View}
use Rattle.liq_lock.specs.History.{Within}
use Rattle.liq_lock.specs.Views.{waits, shares, opener}
use Rattle.liq_lock.specs.Rule.{Ledger, Fits, Ruled}
use Rattle.liq_lock.proofs.Histories.{in_one, one_in, no_items, nothing_in_nil, behind_none}
use Rattle.liq_lock.proofs.Moved.{same_at, None_not_Some, false_not_true}
use Rattle.liq_lock.proofs.Parts.{ltb_lt, ltb_le}
use Rattle.liq_lock.proofs.Rests.{AtRest}
use Rattle.liq_lock.proofs.Sums.{sum_at, sum_two}
use Rattle.liq_lock.proofs.Waits.{not_inside}
use Rattle.std.proofs.lemmas.Bool.{cases_Bool, false_from_ne_true}

only_first : {A : Type 0} (a b : A) (j : ℕ) → get_elem? (a ∷ []) j ≡ some b → (j ≡ 0) × (a ≡ b)
only_first a b zero e = (refl, some-injective a b e)
only_first a b (suc j) e = absurd (some-ne-none b (sym e))

module _ {T I : Type 0} (history : T → List I) (maker : I → ℕ) where
  abbrev start : Ledger I
  start = record { drawn = 0; served = 0; holder = λ t. 0; log = []; made = 1; keeper = λ x. 0; busy = false }

  first_fits : (n : ℕ) → 0 < n → Fits maker n start 0 (opener n)
  first_fits n some_seat = record {
    ticket = λ t e. absurd (None_not_Some t e);
    inside = λ e. absurd (false_not_true e);
    share = omega arith;
    alive = inr (omega arith);
    own = λ x c. let is : 1 ≡ x = in_one 1 x c in (refl, omega arith, omega arith);
    number = λ _. one_in 1 [];
    behind = ([], refl, λ i c _. nothing_in_nil i c);
    pasts = (behind_none maker [], behind_none maker []);
    cutting = λ e. let more : 1 < n = ltb_lt 1 n e in (more, omega arith, refl, refl);
  }

  -- the rule holds at the start
  pub opens : (n : ℕ) (x : T) → 0 < n → n < 2 ^ 32 → history x ≡ []
      → Ruled history maker n (opening (0 ∷ 0 ∷ 0 ∷ []) (Some x ∷ []) (opener n))
  opens n x some_seat few empty = record {
    ledger = start;
    few = few;
    begun = omega arith;
    words = refl;
    shared = omega (arith, sum_by-cons (shares {I = I}) (opener n) []);
    waiting = omega (arith, sum_by-cons (waits {I = I}) (opener n) []);
    held = λ t low high. absurd (omega arith);
    kept = λ y low high. let is : 1 ≡ y = omega arith
        in (opener n, refl, some_seat, subst (Contains (1 ∷ [])) is (one_in 1 []));
    makers = λ i c. absurd (nothing_in_nil i c);
    cut = ⊎_elim (λ e. inr (0, opener n, refl, e)) (λ e. let one : n ≤ 1 = ltb_le 1 n e
        in inl (omega arith)) (cases_Bool (ltb 1 n));
    home = λ _. (x, refl, empty);
    away = λ e. absurd (false_not_true e);
    each = λ j u there. let p = only_first (opener n) u j there
        in subst (λ (z : ℕ × View I). Fits maker n start z.0 z.1) (λ i. (sym p.0 i, p.1 i)) (first_fits n some_seat);
  }

  -- no more numbers were given out than there are seats
  pub made_most : (n : ℕ) (s : State (Option T) (View I)) (r : Ruled history maker n s) → r.ledger.made ≤ n
  made_most n s r = ⊎_elim
      (λ (e : r.ledger.made ≡ n). omega arith)
      (λ c. let f = (r.each c.0 c.1 c.2).cutting c.3 in let more : 1 < c.1.shares = f.0
      in let all : r.ledger.made + c.1.shares ≡ n + 1 = f.1 in omega arith) r.cut

  -- a seat at rest that has all shares has seen all of the history of the value, which is in its slot
  pub closes : (n id : ℕ) (v : View I) (s : State (Option T) (View I)) → Seen (Ruled history maker n) id v s → AtRest v
      → n ≤ v.shares
      → (v.shares ≡ n) × ((x : T) × (s.homes ≡ some (Some x) ∷ []) × (history x ≡ v.seen) × Within maker n (history x))
  closes n id v s seen rest enough =
      let r = seen.0 in let here = seen.1 in let g : Ledger I = r.ledger in
      let most = sum_at shares s.views id v here in let whole = r.shared in
      let alone : (j : ℕ) (u : View I) → get_elem? s.views j ≡ some u → 1 ≤ u.shares
      → j ≡ id = λ j u there alive. dite (ℕ_discrete j id) (λ yes. yes)
      (λ no. let both = sum_two shares s.views id j v u here there no in absurd (omega arith)) in
      let idle : g.busy ≡ false = false_from_ne_true g.busy (λ busy.
      let a = r.away busy in let u : View I = a.1.0 in let f = r.each (g.holder g.served) u a.1.1 in
      let one : waits u ≡ 1 = ap (λ (o : Option ℕ). waits (record u { ticket = o })) (f.inside a.1.2).0
      in let least = f.share in
      not_inside history maker n s r id v here rest.calm busy (alone (g.holder g.served) u a.1.1 (omega arith))) in
      let home = r.home idle in let f = r.each id v here in
      let nothing : f.behind.0 ≡ [] = no_items f.behind.0 (λ i c.
      let p = r.makers i (subst (λ (l : List I). Contains l i) (sym f.behind.1) (Contains-append_right v.seen f.behind.0
      i c)) in
      let k = r.kept (maker i) p.0 p.1 in
      let is : k.0 ≡ v = same_at s.views (g.keeper (maker i)) id k.0 v k.1 here (alone (g.keeper (maker i)) k.0 k.1 k.2)
      in
      f.behind.2 i c (subst (λ (z : View I). Contains z.stands (maker i)) is k.3)) in
      let all : g.log ≡ v.seen = f.behind.1 ∙ ap (λ l. v.seen ++ l) nothing ∙ append-nil v.seen in
      let few = made_most n s r in (
        omega arith,
        (
          home.0,
          home.1,
          home.2 ∙ all,
          λ i c. let p = r.makers i (subst (λ (l : List I). Contains l i) home.2 c) in let high : maker i ≤ g.made = p.1
              in let low : g.made ≤ n = few in (p.0, omega arith),
        ),
      )

  -- what is taken out of the slot of a table that was closed with a seat that has all shares
  pub closed : (n id : ℕ) (v : View I) (words : List ℕ) (slots : List (Option T))
      → Final (Seen (Ruled history maker n) id v) words slots → AtRest v → n ≤ v.shares
      → (out : Option T) → get_elem? slots 0 ≡ some out → (v.shares ≡ n) × ((x : T) × (out ≡ Some x)
      × (history x ≡ v.seen) × Within maker n (history x))
  closed n id v words slots f rest enough out there =
      let c = closes n id v f.0 f.1 rest enough in
      let first = f.4 0 (Some c.1.0) (ap (λ (l : List (maybe.Option (Option T))). get_elem? l 0) c.1.1) in
      (c.0, (c.1.0, some-injective out (Some c.1.0) (sym there ∙ first), c.1.2, c.1.3))
