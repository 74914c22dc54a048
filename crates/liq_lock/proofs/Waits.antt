-- Drawing a ticket and looking keep the rule.
use Rattle.std.proofs.Common.{◌≡◌, ℕ, ◌+◌, ◌%◌, ◌^◌, ◌<◌, ◌≤◌, ◌≢◌, Bool, true, false, eqb, List, [], ◌∷◌, length, get_or, set, refl, sym, ap, ◌∙◌, subst, inl, inr, eq-eqb, ne_eqb, arith}
use mathlib.Core.Logic.{dite}
use mathlib.Core.Option.{some, none}
use mathlib.Core.Option as maybe
use native.Mathlib.Decide.{ℕ_discrete}
use lib.ListN.{get_elem?}
use prog.Atomic.{either}
use Rattle.std.specs.Prelude.{Option, Some, None, sum_by}
use Rattle.atomic_table.specs.Table.{State, Me, step, keeps, takes, Allows}
use Rattle.atomic_table.proofs.Lists.{set_else, set_again, one_turn}
use Rattle.liq_lock.specs.declared.view.View.{View}
use Rattle.liq_lock.specs.History.{Behind}
use Rattle.liq_lock.specs.Views.{waits, shares, drew, entered}
use Rattle.liq_lock.specs.Rule.{Ledger, Ruled}
use Rattle.liq_lock.specs.Steps.{Draws, Looks}
use Rattle.liq_lock.proofs.Histories.{behind_whole, behind_none}
use Rattle.liq_lock.proofs.Moved.{same_at, set_at, Some_is, None_not_Some, false_not_true, turned, HeldBy, turn_fits, moved}
use Rattle.liq_lock.proofs.Sums.{sum_le}
use Rattle.std.proofs.lemmas.Bool.{false_from_ne_true}

-- f, but at k the value y
abbrev pub at : (ℕ → ℕ) → ℕ → ℕ → ℕ → ℕ
at f k y x = either (eqb x k) y (f x)

pub at_here : (f : ℕ → ℕ) (k y x : ℕ) → x ≡ k → at f k y x ≡ y
at_here f k y x e = rw (eq-eqb x k e) refl

pub at_else : (f : ℕ → ℕ) (k y x : ℕ) → x ≢ k → at f k y x ≡ f x
at_else f k y x e = rw (ne_eqb x k e) refl

module _ {T I : Type 0} (history : T → List I) (maker : I → ℕ) where
  abbrev M : Type 0
  M = Me (Option T) (View I)

  -- the ticket of the view that is inside was drawn
  pub in_time : (n : ℕ) (s : State (Option T) (View I)) (r : Ruled history maker n s) → r.ledger.busy ≡ true
      → r.ledger.served < r.ledger.drawn
  in_time n s r busy =
      let a = r.away busy in let u : View I = a.1.0 in
      let f = r.each (r.ledger.holder r.ledger.served) u a.1.1 in (f.ticket r.ledger.served (f.inside a.1.2).0).1

  -- a view that is not inside is not the one that is
  pub not_inside : (n : ℕ) (s : State (Option T) (View I)) (r : Ruled history maker n s) (id : ℕ) (v : View I)
      → get_elem? s.views id ≡ some v → v.inside ≡ false → r.ledger.busy ≡ true → r.ledger.holder r.ledger.served ≢ id
  not_inside n s r id v here calm busy is =
      let a = r.away busy in let u : View I = a.1.0 in
      let same : u ≡ v = same_at s.views (r.ledger.holder r.ledger.served) id u v a.1.1 here is in
      false_not_true (sym calm ∙ ap (λ (z : View I). z.inside) (sym same) ∙ a.1.2)

  pub draws : (n slots id : ℕ) (m : M) → m.0.ticket ≡ None → m.0.inside ≡ false → 1 ≤ m.0.shares
      → Allows (Ruled history maker n) slots id m 0 (λ x. (x + 1) % 2 ^ 64) (Draws (step slots 0 1 0 none) m)
  draws n slots id m out calm alive s r wide here small =
      let v : View I = m.0 in let g : Ledger I = r.ledger in let d : ℕ = g.drawn in let e : ℕ = g.served
      in let w : View I = drew v d in
      let h : ℕ → ℕ = at g.holder d id in let f = r.each id v here in
      let none : waits v ≡ 0 = ap (λ (o : Option ℕ). waits (record v { ticket = o })) out in
      let time : (busy : g.busy ≡ true) → h e ≡ g.holder e = λ busy. let late = in_time n s r busy
      in at_else g.holder d id e (λ q. let l : e < d = late in omega arith) in
      let more : d % 2 ^ 64 + 1 < 2 ^ 64 + 1 = omega arith in (
        w,
        keeps,
        tt,
        moved history maker n s r id v w here record { stands = refl; shares_are = refl; splitting = refl } alive
            (d + 1) e h g.log g.busy
            (set s.words 0 ((get_or s.words 0 0 + 1) % 2 ^ 64)) s.homes
            (ap (λ (l : List ℕ). set l 0 ((get_or l 0 0 + 1) % 2 ^ 64)) r.words
            ∙ ap (λ (z : ℕ). z ∷ e % 2 ^ 64 ∷ length g.log ∷ []) (omega arith))
            (omega arith)
            (λ t low high. dite (ℕ_discrete t d)
            (λ yes. inl (at_here g.holder d id t yes, ap Some (sym yes)))
            (λ no.
            let k = r.held t low (omega arith) in
            let old = at_else g.holder d id t no in
            inr (
              low,
              omega arith,
              old,
              λ q. None_not_Some t (sym out
                  ∙ ap (λ (z : View I). z.ticket) (sym (same_at s.views (g.holder t) id k.0 v k.1 here (sym old ∙ q)))
                  ∙ k.2),
            )))
            r.makers
            r.home
            (λ busy. let a = r.away busy in let ne = not_inside n s r id v here calm busy in (
              a.0,
              (
                a.1.0,
                set_else s.views id (h e) w (λ q. ne (sym (time busy) ∙ q))
                    ∙ ap (get_elem? s.views) (time busy) ∙ a.1.1,
                a.1.2,
              ),
            ))
            (turn_fits maker n g (d + 1) e h g.busy id v (Some d) v.inside f alive alive
            (λ t q. let is : d ≡ t = Some_is d t q in let sums : sum_by waits s.views ≡ sum_by waits s.views = refl
            in let before = r.waiting in (omega arith, omega arith, at_here g.holder d id t (sym is)))
            (λ q. absurd (false_not_true (sym calm ∙ q))))
            (λ j u other there. let o = r.each j u there in record {
              ticket = λ t q. let k = o.ticket t q in let below : t < d = k.1
                  in (k.0, omega arith, at_else g.holder d id t (λ z. omega arith) ∙ k.2);
              inside = o.inside;
              behind = o.behind;
            }),
        (d, refl, ap (λ (l : List ℕ). get_or l 0 0) r.words),
      )

  -- a word that is written as it was, and a view that stays
  pub unmoved : (n : ℕ) (s : State (Option T) (View I)) (r : Ruled history maker n s) (i id : ℕ) (v : View I)
      → set s.words i (get_or s.words i 0) ≡ s.words → get_elem? s.views id ≡ some v
      → Ruled history maker n record {
        words = set s.words i (get_or s.words i 0);
        homes = s.homes;
        views = set s.views id v;
      }
  unmoved n s r i id v same here = subst (λ (z : List ℕ × List (View I)). Ruled history maker n record {
    words = z.0;
    homes = s.homes;
    views = z.1;
  }) (λ k. (sym same k, sym (set_again s.views id v here) k)) r

  -- fewer tickets are out than a word can tell apart
  pub near : (n : ℕ) (s : State (Option T) (View I)) (r : Ruled history maker n s)
      → r.ledger.drawn < r.ledger.served + 2 ^ 32
  near n s r =
      let most = sum_le waits shares s.views (λ j v e. (r.each j v e).share) in
      let all = r.shared in let few = r.few in let waiting = r.waiting in omega arith

  -- where the holders and the ticket stay, so does who holds a ticket
  pub holds_on : (n : ℕ) (s : State (Option T) (View I)) (r : Ruled history maker n s) (id : ℕ) (v w : View I)
      → get_elem? s.views id ≡ some v → w.ticket ≡ v.ticket → (log : List I) (b : Bool)
      → (t : ℕ) → r.ledger.served ≤ t → t < r.ledger.drawn
      → HeldBy history maker r.ledger (turned r.ledger r.ledger.drawn r.ledger.served r.ledger.holder log b) id w t
  holds_on n s r id v w here same log b t low high =
      let k = r.held t low high in let place : ℕ = r.ledger.holder t in
      dite (ℕ_discrete place id)
      (λ yes. inl (yes, same ∙ ap (λ (z : View I). z.ticket) (sym (same_at s.views place id k.0 v k.1 here yes)) ∙ k.2))
      (λ no. inr (low, high, refl, no))

  -- the view enters at its turn
  enters : (n id : ℕ) (m : M) (t : ℕ) (s : State (Option T) (View I)) (r : Ruled history maker n s)
      → get_elem? s.views id ≡ some m.0 → m.0.ticket ≡ Some t → m.0.inside ≡ false → 1 ≤ m.0.shares
      → r.ledger.served ≡ t
      → (x : T) × (get_elem? s.homes 0 ≡ some (some (Some x)))
      × Ruled history maker n record {
        words = set s.words 1 (get_or s.words 1 0);
        homes = set s.homes 0 none;
        views = set s.views id (entered m.0 (history x));
      }
      × Behind maker (history x) m.0.stands m.0.seen
  enters n id m t s r here out calm alive now =
      let v : View I = m.0 in let g : Ledger I = r.ledger in let f = r.each id v here in
      let idle : g.busy ≡ false = false_from_ne_true g.busy (λ busy. absurd (not_inside n s r id v here calm busy
      (ap g.holder now ∙ (f.ticket t out).2))) in
      let home = r.home idle in let x : T = home.0 in let w : View I = entered v (history x)
      in let all : history x ≡ g.log = home.2 in (
        x,
        ap (λ (l : List (maybe.Option (Option T))). get_elem? l 0) home.1,
        moved history maker n s r id v w here record {
          stands = refl;
          shares_are = refl;
          splitting = refl;
        } alive g.drawn g.served g.holder g.log true
            (set s.words 1 (get_or s.words 1 0)) (set s.homes 0 none)
            (ap (λ (l : List ℕ). set l 1 (get_or l 1 0)) r.words)
            (omega arith)
            (holds_on n s r id v w here refl g.log true)
            r.makers
            (λ e. absurd (false_not_true (sym e)))
            (λ _. (
              ap (λ (l : List (maybe.Option (Option T))). set l 0 none) home.1,
              (
                w,
                ap (get_elem? (set s.views id w)) (ap g.holder now ∙ (f.ticket t out).2)
                    ∙ set_at s.views id v w here,
                refl,
              ),
            ))
            record {
              ticket = f.ticket;
              inside = λ _. (out ∙ ap Some (sym now), all, refl);
              share = f.share;
              alive = inr alive;
              own = f.own;
              number = f.number;
              behind = subst (Behind maker g.log v.stands) (sym all) (behind_whole maker g.log v.stands);
              pasts = (behind_none maker (history x), behind_none maker (history x));
              cutting = f.cutting;
            }
            (λ j u other there. let o = r.each j u there in record {
              ticket = o.ticket;
              inside = λ e. absurd (false_not_true (sym idle ∙ (o.inside e).2));
              behind = o.behind;
            }),
        subst (λ (l : List I). Behind maker l v.stands v.seen) (sym all) f.behind,
      )

  pub looks : (n slots id : ℕ) (m : M) (t : ℕ) → m.0.ticket ≡ Some t → m.0.inside ≡ false → 1 ≤ m.0.shares
      → Allows (Ruled history maker n) slots id m 1 (λ x. x) (Looks history maker (step slots 1 0 0 none) m)
  looks n slots id m t out calm alive s r wide here small =
      let g : Ledger I = r.ledger in let found : ℕ = get_or s.words 1 0 in
      let is : found ≡ g.served % 2 ^ 64 = ap (λ (l : List ℕ). get_or l 1 0) r.words in
      let f = (r.each id m.0 here).ticket t out in let close = near n s r in
      dite (ℕ_discrete found (t % 2 ^ 64))
      (λ hit.
      let now : g.served ≡ t = one_turn g.served t (2 ^ 64) f.0 (let l : t < g.drawn = f.1
      in let c : g.drawn < g.served + 2 ^ 32 = close in omega arith) (sym is ∙ hit) in
      let e = enters n id m t s r here out calm alive now in (
        entered m.0 (history e.0),
        takes 0 (Some e.0),
        e.1,
        e.2,
        λ t' q. (
          (λ _. (e.0, refl, e.3)),
          λ miss. absurd (miss (hit ∙ ap (λ (z : ℕ). z % 2 ^ 64) (Some_is t t' (sym out
              ∙ q)))),
        ),
      ))
      (λ miss. (
        m.0,
        keeps,
        tt,
        unmoved n s r 1 id m.0 (ap (λ (l : List ℕ). set l 1 (get_or l 1 0)) r.words ∙ sym r.words) here,
        λ t' q. ((λ hit. absurd (miss (hit ∙ ap (λ (z : ℕ). z % 2 ^ 64) (Some_is t' t (sym q ∙ out))))), λ _. refl),
      ))
