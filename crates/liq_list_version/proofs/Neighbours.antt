-- An answer with no account on either side: nobody but the asker is in the list.
use Rattle.std.proofs.Common.{◌≡◌, Bool, true, false, cond, List, [], ◌∷◌, refl, sym, ap, ◌∙◌, None}
use Rattle.std.specs.Prelude.{◌==◌, ◌↔◌, not, reverse}
use Rattle.std.specs.Ordering.{int_cmp, nat_cmp, is_lt, ordering_reverse}
use Rattle.std.specs.declared.cmp.Ordering.{Ordering}
use Rattle.std.specs.declared.cmp.Ordering.TheVariants.{Less, Equal, Greater}
use Rattle.std.proofs.lemmas.Bool.{eq-eqb}
use Rattle.std.proofs.lemmas.List.{reverse-reverse}
use Rattle.std.proofs.lemmas.Map.Lookups.{exact_pairs, exact_signed, exact_unsigned}
use Rattle.liq_types.proofs.RankedLists.{rank_total}
use Rattle.liq_types.specs.Ranked.{Ranked, rank_order, first_of, account_of, without_ranked, before_entry, after_entry, neighbours}

nobody : (list : List Ranked) → account_of (first_of list) ≡ None → list ≡ []
nobody [] h = refl
nobody (e ∷ es) h = cc

nothing_left : (list : List Ranked) → reverse list ≡ [] → list ≡ []
nothing_left list h = sym (reverse-reverse list) ∙ ap (λ (l : List Ranked). reverse l) h

-- an entry of another account comes before or after
sided : (e f : Ranked) → (f.1 == e.1) ≡ false → is_lt (rank_order f e) ≡ false → is_lt (rank_order e f) ≡ false → ⊥
sided e f other = by (rank_order f e) refl where
  tied : rank_order f e ≡ Equal → ⊥
  tied is =
      let same : f ≡ e = exact_pairs int_cmp nat_cmp exact_signed exact_unsigned f e is in
      let clash : false ≡ true = sym other ∙ eq-eqb f.1 e.1 (ap (λ (g : Ranked). g.1) same) in cc

  by : (o : Ordering) → rank_order f e ≡ o → is_lt o ≡ false → is_lt (rank_order e f) ≡ false → ⊥
  by Less is before after = cc
  by Equal is before after = tied is
  by Greater is before after =
      let clash : false ≡ true = sym after ∙ ap is_lt (rank_total.antisymm e f ∙ ap ordering_reverse is) in cc

-- where none comes before an entry, and none after, none is left but those of its account
none_left : (list : List Ranked) (e : Ranked) → before_entry (without_ranked list e.1) e ≡ []
    → after_entry (without_ranked list e.1) e ≡ [] → without_ranked list e.1 ≡ []
none_left [] e before after = refl
none_left (f ∷ fs) e before after = by (f.1 == e.1) refl before after (none_left fs e) where
  rest : List Ranked
  rest = without_ranked fs e.1

  here : (b : Bool) → is_lt (rank_order f e) ≡ b → (c : Bool) → is_lt (rank_order e f) ≡ c → (f.1 == e.1) ≡ false
      → cond b (f ∷ before_entry rest e) (before_entry rest e) ≡ []
      → cond c (f ∷ after_entry rest e) (after_entry rest e) ≡ [] → f ∷ rest ≡ []
  here true x c y other before after = cc
  here false x true y other before after = cc
  here false x false y other before after = absurd (sided e f other x y)

  by : (b : Bool) → (f.1 == e.1) ≡ b → before_entry (cond (not b) (f ∷ rest) rest) e ≡ []
      → after_entry (cond (not b) (f ∷ rest) rest) e ≡ [] → (before_entry rest e ≡ [] → after_entry rest e ≡ []
      → rest ≡ []) → cond (not b) (f ∷ rest) rest ≡ []
  by true is before after more = more before after
  by false is before after more = here (is_lt (rank_order f e)) refl (is_lt (rank_order e f)) refl is before after

pub both_absent : (list : List Ranked) (e : Ranked) → ((neighbours list e).0 ≡ None) × ((neighbours list e).1 ≡ None)
    ↔ (without_ranked list e.1 ≡ [])
both_absent list e = (
  (λ absent. none_left list e (nothing_left (before_entry (without_ranked list e.1) e)
      (nobody (reverse (before_entry (without_ranked list e.1) e)) absent.0))
      (nobody (after_entry (without_ranked list e.1) e) absent.1)),
  (λ empty. (
    ap (λ (l : List Ranked). account_of (first_of (reverse (before_entry l e)))) empty,
    ap (λ (l : List Ranked). account_of (first_of (after_entry l e))) empty,
  )),
)
