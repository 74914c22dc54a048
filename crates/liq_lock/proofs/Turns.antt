-- Counting new items and leaving keep the rule.
use Rattle.std.proofs.Common.{◌≡◌, ℕ, ◌+◌, ◌%◌, ◌^◌, ◌<◌, ◌≤◌, ◌≢◌, true, false, List, [], ◌∷◌, ◌++◌, length, get_or, set, refl, sym, ap, ◌∙◌, subst, inr, ⊎_elim, arith}
use mathlib.Core.Option.{some, none}
use mathlib.Core.Option as maybe
use lib.ListN.{get_elem?}
use Rattle.std.specs.Prelude.{Option, Some, None, Contains}
use Rattle.std.proofs.lemmas.List.Elements.{Contains-append_cases}
use Rattle.atomic_table.specs.Table.{Me, step, keeps, gives, Allows}
use Rattle.liq_lock.specs.declared.view.View.{View}
use Rattle.liq_lock.specs.History.{NoneOf, Behind, GoesOn}
use Rattle.liq_lock.specs.Views.{waits, saw, outside}
use Rattle.liq_lock.specs.Rule.{Ledger, Fits, Ruled}
use Rattle.liq_lock.specs.Steps.{Counts, Leaves}
use Rattle.liq_lock.proofs.Histories.{behind_whole, behind_none, behind_on}
use Rattle.liq_lock.proofs.Moved.{same_at, set_at, Some_is, None_not_Some, false_not_true, turn_fits, moved}
use Rattle.liq_lock.proofs.Waits.{holds_on}

-- what is held first
abbrev pub held_first : {T : Type 0} → List (ℕ × Option T) → Option T
held_first [] = None
held_first (p ∷ ps) = p.1

module _ {T I : Type 0} (history : T → List I) (maker : I → ℕ) where
  abbrev M : Type 0
  M = Me (Option T) (View I)

  abbrev hand : T → List (ℕ × Option T)
  hand x = (0, Some x) ∷ []

  -- what is counted behind the view that is inside
  pub counts : (n slots id : ℕ) (v : View I) (x : T) (k : ℕ) → v.inside ≡ true → 1 ≤ v.shares
      → GoesOn maker v.number v.seen (history x) → length v.seen + k ≡ length (history x) → length (history x) < 2 ^ 64
      → Allows (Ruled history maker n) slots id (v, hand x) 2 (λ y. (y + k) % 2 ^ 64)
      (Counts history (step slots 2 k 0 none) (v, hand x))
  counts n slots id v x k in_turn alive grows more fits s r wide here small =
      let g : Ledger I = r.ledger in let log : List I = g.log in let all : List I = history x in let w : View I =
      saw v all in
      let f = r.each id v here in let now = f.inside in_turn in let whole : v.seen ≡ log = now.1 in
      let ours = f.own v.number (f.number alive) in
      let goes : all ≡ log ++ grows.0 = grows.1 ∙ ap (λ l. l ++ grows.0) whole in
      let holds : g.holder g.served ≡ id = (f.ticket g.served now.0).2 in
      let long : length log ≡ length v.seen = ap length (sym whole) in
      let others : (j : ℕ) (u : View I) → j ≢ id → Fits maker n g j u → NoneOf maker u.stands grows.0
      = λ j u other o i c k. other (sym (o.own v.number (subst (Contains u.stands) (grows.2 i c) k)).0 ∙ ours.0) in (
        w,
        keeps,
        tt,
        moved history maker n s r id v w here record {
          stands = refl;
          shares_are = refl;
          splitting = refl;
        } alive g.drawn g.served g.holder all g.busy
            (set s.words 2 ((get_or s.words 2 0 + k) % 2 ^ 64)) s.homes
            (ap (λ (l : List ℕ). set l 2 ((get_or l 2 0 + k) % 2 ^ 64)) r.words
            ∙ ap (λ (z : ℕ). g.drawn % 2 ^ 64 ∷ g.served % 2 ^ 64 ∷ z ∷ []) (omega arith))
            (omega arith)
            (holds_on history maker n s r id v w here refl all g.busy)
            (λ i c. ⊎_elim (r.makers i) (λ new. let is : maker i ≡ v.number = grows.2 i new
            in let low : 1 ≤ v.number = ours.1 in let high : v.number ≤ g.made = ours.2 in (omega arith, omega arith))
            (Contains-append_cases log grows.0 i (subst (λ (l : List I). Contains l i) goes c)))
            (λ e. absurd (false_not_true (sym e ∙ now.2)))
            (λ busy. (
              (r.away busy).0,
              (
                w,
                ap (get_elem? (set s.views id w)) holds ∙ set_at s.views id v w here,
                in_turn,
              ),
            ))
            record {
              ticket = f.ticket;
              inside = λ _. (now.0, refl, now.2);
              share = f.share;
              alive = inr alive;
              own = f.own;
              number = f.number;
              behind = behind_whole maker all v.stands;
              pasts = (behind_none maker all, behind_none maker all);
              cutting = f.cutting;
            }
            (λ j u other there. let o = r.each j u there in record {
              ticket = o.ticket;
              inside = λ e. absurd (other (sym (o.ticket g.served (o.inside e).0).2 ∙ holds));
              behind = subst (λ (l : List I). Behind maker l u.stands u.seen) (sym goes)
                  (behind_on maker log u.seen grows.0 u.stands o.behind (others j u other o));
            }),
        λ x' q. let is : x ≡ x' = Some_is x x' (ap held_first q) in ap (λ (y : T). (saw v (history y), hand x)) is,
      )

  -- the view that is inside leaves, with a value that has the history it saw
  pub leaves : (n slots id : ℕ) (v : View I) (x : T) → v.inside ≡ true → 1 ≤ v.shares → history x ≡ v.seen
      → Allows (Ruled history maker n) slots id (v, hand x) 1 (λ y. (y + 1) % 2 ^ 64) (Leaves (step slots 1 1 0 none)
      (v, hand x))
  leaves n slots id v x in_turn alive same s r wide here small =
      let g : Ledger I = r.ledger in let e : ℕ = g.served in let w : View I = outside v in
      let f = r.each id v here in let now = f.inside in_turn in
      let mine = f.ticket e now.0 in
      let one : waits v ≡ 1 = ap (λ (o : Option ℕ). waits (record v { ticket = o })) now.0 in
      let away = r.away now.2 in (
        w,
        gives,
        tt,
        moved history maker n s r id v w here record {
          stands = refl;
          shares_are = refl;
          splitting = refl;
        } alive g.drawn (e + 1) g.holder g.log false
            (set s.words 1 ((get_or s.words 1 0 + 1) % 2 ^ 64)) (set s.homes 0 (some (Some x)))
            (ap (λ (l : List ℕ). set l 1 ((get_or l 1 0 + 1) % 2 ^ 64)) r.words
            ∙ ap (λ (z : ℕ). g.drawn % 2 ^ 64 ∷ z ∷ length g.log ∷ []) (omega arith))
            (omega arith)
            (λ t low high.
            let k = r.held t (omega arith) high in let place : ℕ = g.holder t in
            let apart : place ≢ id = λ q. let is : e ≡ t = Some_is e t (sym now.0
            ∙ ap (λ (z : View I). z.ticket) (sym (same_at s.views place id k.0 v k.1 here q)) ∙ k.2)
            in absurd (omega arith) in
            inr (omega arith, high, refl, apart))
            r.makers
            (λ _. (x, ap (λ (l : List (maybe.Option (Option T))). set l 0 (some (Some x))) away.0, same ∙ now.1))
            (λ q. absurd (false_not_true q))
            (turn_fits maker n g g.drawn (e + 1) g.holder false id v None false f alive (omega arith)
            (λ t q. absurd (None_not_Some t q)) (λ q. absurd (false_not_true q)))
            (λ j u other there. let o = r.each j u there in record {
              ticket = λ t q. let k = o.ticket t q in let low : e ≤ t = k.0 in
                  let apart : t ≢ e = λ z. other (sym k.2 ∙ ap g.holder z ∙ mine.2) in (omega arith, k.1, k.2);
              inside = λ q. absurd (other (sym (o.ticket e (o.inside q).0).2 ∙ mine.2));
              behind = o.behind;
            }),
        refl,
      )
