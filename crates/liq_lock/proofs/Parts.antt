-- Making a seat out of another, and joining two, keep the rule.
use Rattle.std.proofs.Common.{◌≡◌, ℕ, zero, suc, ◌+◌, ◌-◌, ◌<◌, ◌≤◌, ◌≢◌, ◌⊎◌, true, false, eqb, ltb, List, [], ◌∷◌, ◌++◌, length, get_or, set, refl, sym, ap, ◌∙◌, subst, inl, inr, ⊎_elim, eq-eqb, ne_eqb, length-set, arith}
use mathlib.Core.Logic.{dite}
use mathlib.Core.Option.{some, none, some-injective, some-ne-none}
use native.Mathlib.Decide.{ℕ_discrete}
use lib.ListN.{get_elem?}
use prog.Atomic.{either}
use Rattle.std.specs.Prelude.{Option, None, Contains}
use Rattle.std.proofs.lemmas.List.Elements.{Contains-append_left, Contains-append_right, Contains-append_cases}
use Rattle.std.proofs.lemmas.Bool.Decides.{nat_tests}
use Rattle.atomic_table.specs.Table.{State, Me, step, keeps, Allows, Splits, Joins}
use Rattle.atomic_table.proofs.Lists.{at_set, set_else, at_longer, at_last}
use Rattle.liq_lock.specs.declared.view.View.{View}
use Rattle.liq_lock.specs.Views.{waits, shares, spent, keeping, dealt, joined}
use Rattle.liq_lock.specs.Rule.{Ledger, Fits, Ruled}
use Rattle.liq_lock.specs.Steps.{Settles}
use Rattle.liq_lock.proofs.Histories.{in_one, one_in, nothing_in_nil, longer_behind, behind_none}
use Rattle.liq_lock.proofs.Moved.{same_at, set_at, None_not_Some, false_not_true}
use Rattle.liq_lock.proofs.Rests.{AtRest}
use Rattle.liq_lock.proofs.Sums.{sum_set, sum_at, sum_snoc}
use Rattle.liq_lock.proofs.Waits.{at, at_here, at_else, not_inside, unmoved}
use Rattle.std.proofs.lemmas.Bool.{cases_Bool}

pub ltb_lt : (a b : ℕ) → ltb a b ≡ true → a < b
ltb_lt a b e = grind (arith, nat_tests)

pub ltb_le : (a b : ℕ) → ltb a b ≡ false → b ≤ a
ltb_le a b e = grind (arith, nat_tests)

module _ {A : Type 0} where
  at_snoc : (l : List A) (a b : A) (j : ℕ) → get_elem? (l ++ a ∷ []) j ≡ some b → (get_elem? l j ≡ some b)
      ⊎ ((j ≡ length l) × (a ≡ b))
  at_snoc [] a b zero e = inr (refl, some-injective a b e)
  at_snoc [] a b (suc j) e = absurd (some-ne-none b (sym e))
  at_snoc (x ∷ xs) a b zero e = inl e
  at_snoc (x ∷ xs) a b (suc j) e = ⊎_elim inl (λ p. inr (ap suc p.0, p.1)) (at_snoc xs a b j e)

  -- a list with another element at i, and one more
  abbrev cut : List A → ℕ → A → A → List A
  cut l i a b = set l i a ++ b ∷ []

  cut_at : (l : List A) (i : ℕ) (a b u : A) (j : ℕ) → get_elem? (cut l i a b) j ≡ some u → ((j ≡ i) × (a ≡ u))
      ⊎ ((j ≢ i) × (get_elem? l j ≡ some u)) ⊎ ((j ≡ length l) × (b ≡ u))
  cut_at l i a b u j e = ⊎_elim
      (λ p. ⊎_elim inl (λ q. inr (inl q)) (at_set l i j a u p))
      (λ p. inr (inr (p.0 ∙ length-set l i a, p.1))) (at_snoc (set l i a) b u j e)

  cut_here : (l : List A) (i : ℕ) (v a b : A) → get_elem? l i ≡ some v → get_elem? (cut l i a b) i ≡ some a
  cut_here l i v a b e = at_longer (set l i a) (b ∷ []) i a (set_at l i v a e)

  cut_else : (l : List A) (i : ℕ) (a b u : A) (j : ℕ) → j ≢ i → get_elem? l j ≡ some u → get_elem? (cut l i a b) j
      ≡ some u
  cut_else l i a b u j n e = at_longer (set l i a) (b ∷ []) j u (set_else l i j a n ∙ e)

  cut_last : (l : List A) (i : ℕ) (a b : A) → get_elem? (cut l i a b) (length l) ≡ some b
  cut_last l i a b = at_last (set l i a) b (length l) (length-set l i a)

  -- a list with other elements at i and k
  abbrev two : List A → ℕ → A → ℕ → A → List A
  two l i a k b = set (set l i a) k b

  two_at : (l : List A) (i k : ℕ) (a b u : A) (j : ℕ) → get_elem? (two l i a k b) j ≡ some u → ((j ≡ k) × (b ≡ u))
      ⊎ ((j ≡ i) × (a ≡ u)) ⊎ ((j ≢ k) × (j ≢ i) × (get_elem? l j ≡ some u))
  two_at l i k a b u j e = ⊎_elim inl (λ p. inr (⊎_elim inl (λ q. inr (p.0, q.0, q.1)) (at_set l i j a u p.1)))
      (at_set (set l i a) k j b u e)

  two_first : (l : List A) (i k : ℕ) (v a b : A) → k ≢ i → get_elem? l i ≡ some v → get_elem? (two l i a k b) i ≡ some a
  two_first l i k v a b n e = set_else (set l i a) k i b (λ q. n (sym q)) ∙ set_at l i v a e

  two_else : (l : List A) (i k : ℕ) (a b u : A) (j : ℕ) → j ≢ i → j ≢ k → get_elem? l j ≡ some u
      → get_elem? (two l i a k b) j ≡ some u
  two_else l i k a b u j n m e = set_else (set l i a) k j b m ∙ set_else l i j a n ∙ e

-- f, with b for a
abbrev redirect : (ℕ → ℕ) → ℕ → ℕ → ℕ → ℕ
redirect f a b x = either (eqb (f x) a) b (f x)

redirect_here : (f : ℕ → ℕ) (a b x : ℕ) → f x ≡ a → redirect f a b x ≡ b
redirect_here f a b x e = rw (eq-eqb (f x) a e) refl

redirect_else : (f : ℕ → ℕ) (a b x : ℕ) → f x ≢ a → redirect f a b x ≡ f x
redirect_else f a b x e = rw (ne_eqb (f x) a e) refl

module _ {T I : Type 0} (history : T → List I) (maker : I → ℕ) where
  abbrev M : Type 0
  M = Me (Option T) (View I)

  pub settles : (n slots id : ℕ) (m : M)
      → Allows (Ruled history maker n) slots id m 0 (λ x. x) (Settles maker (step slots 0 0 0 none) m)
  settles n slots id m s r wide here small =
      let f = r.each id m.0 here in
      let most = sum_at shares s.views id m.0 here in let few = r.few in let all = r.shared in (
        m.0,
        keeps,
        tt,
        unmoved history maker n s r 0 id m.0 (ap (λ (l : List ℕ). set l 0 (get_or l 0 0)) r.words ∙ sym r.words) here,
        (refl, omega arith, f.pasts.0, f.pasts.1),
      )

  module _ (n id : ℕ) (v : View I) (marked : v.splitting ≡ true) (out : v.ticket ≡ None) (calm : v.inside ≡ false) where
    none_waits : waits v ≡ 0
    none_waits = ap (λ (o : Option ℕ). waits (record v { ticket = o })) out

    module _ (s : State (Option T) (View I)) (r : Ruled history maker n s) (here : get_elem? s.views id ≡ some v) where
      abbrev G : Ledger I
      G = r.ledger

      abbrev last : ℕ
      last = length s.views

      abbrev made : ℕ
      made = r.ledger.made + 1

      -- the ledger with one number more, which stands with the new view
      abbrev G' : Ledger I
      G' = record {
        drawn = r.ledger.drawn;
        served = r.ledger.served;
        holder = r.ledger.holder;
        log = r.ledger.log;
        made = made;
        keeper = at r.ledger.keeper made last;
        busy = r.ledger.busy;
      }

      abbrev views : List (View I)
      views = cut s.views id (keeping v) (dealt v)

      old_number : (x j : ℕ) → (G.keeper x ≡ j) × (1 ≤ x) × (x ≤ G.made) → (G'.keeper x ≡ j) × (1 ≤ x) × (x ≤ G'.made)
      old_number x j p = let low : x ≤ r.ledger.made = p.2 in (
        at_else G.keeper made last x (λ e. omega arith)
            ∙ p.0,
        p.1,
        omega arith,
      )

      split_left : Fits maker n G' id (keeping v)
      split_left =
          let f = r.each id v here in let c = f.cutting marked in let more : 1 < v.shares = c.0 in
          let all : r.ledger.made + v.shares ≡ n + 1 = c.1 in let next : v.next ≡ r.ledger.made + 1 = c.2 in
          let none = none_waits in record {
            ticket = f.ticket;
            inside = f.inside;
            share = omega arith;
            alive = inr (omega arith);
            own = λ x k. old_number x id (f.own x k);
            number = λ _. f.number (omega arith);
            behind = f.behind;
            pasts = f.pasts;
            cutting = λ e. let still : 1 < v.shares - 1 = ltb_lt 1 (v.shares - 1) e
                in (still, omega arith, omega arith, c.3);
          }

      split_right : Fits maker n G' last (dealt v)
      split_right =
          let f = r.each id v here in let c = f.cutting marked in
          let is : v.next ≡ r.ledger.made + 1 = c.2 in let none = none_waits in record {
            ticket = λ t e. absurd (None_not_Some t (sym out ∙ e));
            inside = λ e. absurd (false_not_true (sym calm ∙ e));
            share = omega arith;
            alive = inr (omega arith);
            own = λ x k. let here' : v.next ≡ x = in_one v.next x k in (
              at_here G.keeper made last x (omega arith),
              omega arith,
              omega arith,
            );
            number = λ _. one_in v.next [];
            behind = (
              f.behind.0,
              f.behind.1,
              λ i k h. let below = r.makers i (subst (λ (l : List I). Contains l i) (sym f.behind.1)
                  (Contains-append_right v.seen f.behind.0 i k)) in
                  let high : maker i ≤ r.ledger.made = below.1 in let above : v.next ≡ maker i =
                  in_one v.next (maker i) h in absurd (omega arith),
            );
            pasts = f.pasts;
            cutting = λ e. absurd (false_not_true e);
          }

      split_else : (j : ℕ) (u : View I) → j ≢ id → get_elem? s.views j ≡ some u → Fits maker n G' j u
      split_else j u other there = let f = r.each j u there in record {
        ticket = f.ticket;
        inside = f.inside;
        share = f.share;
        alive = f.alive;
        own = λ x c. old_number x j (f.own x c);
        number = f.number;
        behind = f.behind;
        pasts = f.pasts;
        cutting = λ e.
            let mine = r.each id v here in
            let c = f.cutting e in let d = mine.cutting marked in
            let a = (f.own u.number (f.number (let h : 1 < u.shares = c.0 in omega arith))).0 in
            let b = (mine.own v.number (mine.number (let h : 1 < v.shares = d.0 in omega arith))).0 in
            absurd (other (sym a ∙ ap G.keeper (c.3 ∙ sym d.3) ∙ b));
      }

      split_kept : (x : ℕ) → 1 ≤ x → x ≤ made → (u : View I) × (get_elem? views (G'.keeper x) ≡ some u) × (1 ≤ u.shares)
          × Contains u.stands x
      split_kept x low high =
          let c = (r.each id v here).cutting marked in let more : 1 < v.shares = c.0
          in let is : v.next ≡ r.ledger.made + 1 = c.2 in
          dite (ℕ_discrete x made)
          (λ yes. let same : v.next ≡ x = omega arith in (
            dealt v,
            ap (get_elem? views) (at_here G.keeper made last x yes) ∙ cut_last s.views id (keeping v) (dealt v),
            omega arith,
            subst (Contains (v.next ∷ [])) same (one_in v.next []),
          ))
          (λ no.
          let k = r.kept x low (omega arith) in let place : ℕ = G.keeper x in
          let stays = ap (get_elem? views) (at_else G.keeper made last x no) in
          dite (ℕ_discrete place id)
          (λ yes. (
            keeping v,
            stays ∙ ap (get_elem? views) yes ∙ cut_here s.views id v (keeping v) (dealt v) here,
            omega arith,
            subst (λ (z : View I). Contains z.stands x) (same_at s.views place id k.0 v k.1 here yes) k.3,
          ))
          (λ no'. (k.0, stays ∙ cut_else s.views id (keeping v) (dealt v) k.0 place no' k.1, k.2, k.3)))

      split_ruled : Ruled history maker n record { words = s.words; homes = s.homes; views = views }
      split_ruled =
          let c = (r.each id v here).cutting marked in let more : 1 < v.shares = c.0
          in let all : r.ledger.made + v.shares ≡ n + 1 = c.1 in
          let parts = sum_set shares s.views id v (keeping v) here
          in let parts' = sum_snoc shares (set s.views id (keeping v)) (dealt v) in
          let count = sum_set waits s.views id v (keeping v) here
          in let count' = sum_snoc waits (set s.views id (keeping v)) (dealt v) in
          let none = none_waits in let before = r.waiting in let whole = r.shared in let begun = r.begun in record {
            ledger = G';
            few = r.few;
            begun = omega arith;
            words = r.words;
            shared = omega arith;
            waiting = omega arith;
            held = λ t low high.
                let k = r.held t low high in let place : ℕ = r.ledger.holder t in
                let apart : place ≢ id = λ e. None_not_Some t (sym out
                ∙ ap (λ (z : View I). z.ticket) (sym (same_at s.views place id k.0 v k.1 here e)) ∙ k.2) in
                (k.0, cut_else s.views id (keeping v) (dealt v) k.0 place apart k.1, k.2);
            kept = split_kept;
            makers = λ i k. let p = r.makers i k in let high : maker i ≤ r.ledger.made = p.1 in (p.0, omega arith);
            cut = ⊎_elim
                (λ e. inr (id, keeping v, cut_here s.views id v (keeping v) (dealt v) here, e))
                (λ e. let few : v.shares - 1 ≤ 1 = ltb_le 1 (v.shares - 1) e
                in inl (omega arith)) (cases_Bool (ltb 1 (v.shares - 1)));
            home = r.home;
            away = λ busy. let a = r.away busy
                in (
                  a.0,
                  (
                    a.1.0,
                    cut_else s.views id (keeping v) (dealt v) a.1.0 (r.ledger.holder r.ledger.served)
                        (not_inside history maker n s r id v here calm busy) a.1.1,
                    a.1.2,
                  ),
                );
            each = λ j u there. ⊎_elim
                (λ p. subst (λ (z : ℕ × View I). Fits maker n G' z.0 z.1) (λ i. (sym p.0 i, p.1 i)) split_left)
                (λ q. ⊎_elim (λ p. split_else j u p.0 p.1) (λ p. subst (λ (z : ℕ × View I). Fits maker n G' z.0 z.1)
                (λ i. (sym p.0 i, p.1 i)) split_right) q)
                (cut_at s.views id (keeping v) (dealt v) u j there);
          }

  -- a seat that is marked gives out a number
  pub splits : (n id : ℕ) (v : View I) → v.splitting ≡ true → v.ticket ≡ None → v.inside ≡ false
      → Splits (Ruled history maker n) id v (keeping v) (dealt v)
  splits n id v marked out calm s r here = split_ruled n id v marked out calm s r here

  module _ (n id : ℕ) (v : View I) (other : ℕ) (w : View I) (left : AtRest v) (right : AtRest w) (apart : other
      ≢ id) (s : State (Option T) (View I)) (r : Ruled history maker n s) (here : get_elem? s.views id
      ≡ some v) (there : get_elem? s.views other ≡ some w) where
    -- the ledger with the numbers of the one view for those of the other
    abbrev J : Ledger I
    J = record {
      drawn = r.ledger.drawn;
      served = r.ledger.served;
      holder = r.ledger.holder;
      log = r.ledger.log;
      made = r.ledger.made;
      keeper = redirect r.ledger.keeper other id;
      busy = r.ledger.busy;
    }

    abbrev pair : List (View I)
    pair = two s.views id (joined v w) other spent

    no_ticket : (x : View I) → x.ticket ≡ None → waits x ≡ 0
    no_ticket x out = ap (λ (o : Option ℕ). waits (record x { ticket = o })) out

    join_both : Fits maker n J id (joined v w)
    join_both =
        let f = r.each id v here in let g = r.each other w there in
        let l = longer_behind maker r.ledger.log v.seen w.seen v.stands w.stands f.behind g.behind in
        let none = no_ticket v left.ticket in let some_share = left.alive in record {
          ticket = λ t e. absurd (None_not_Some t (sym left.ticket ∙ e));
          inside = λ e. absurd (false_not_true (sym left.calm ∙ e));
          share = omega arith;
          alive = inr (omega arith);
          own = λ x c. ⊎_elim
              (λ k. let o = f.own x k in (
                redirect_else r.ledger.keeper other id x (λ e. apart (sym e ∙ o.0))
                    ∙ o.0,
                o.1,
                o.2,
              ))
              (λ k. let o = g.own x k in (redirect_here r.ledger.keeper other id x o.0, o.1, o.2))
              (Contains-append_cases v.stands w.stands x c);
          number = λ _. Contains-append_left v.stands w.stands v.number (f.number left.alive);
          behind = l.0;
          pasts = (l.1, l.2);
          cutting = λ e. absurd (false_not_true (sym left.whole ∙ e));
        }

    join_spent : Fits maker n J other spent
    join_spent = record {
      ticket = λ t e. absurd (None_not_Some t e);
      inside = λ e. absurd (false_not_true e);
      share = omega arith;
      alive = inl refl;
      own = λ x c. absurd (nothing_in_nil x c);
      number = λ (h : 1 ≤ 0). absurd (omega arith);
      behind = behind_none maker r.ledger.log;
      pasts = (behind_none maker [], behind_none maker []);
      cutting = λ e. absurd (false_not_true e);
    }

    join_else : (j : ℕ) (u : View I) → j ≢ other → j ≢ id → get_elem? s.views j ≡ some u → Fits maker n J j u
    join_else j u not_other not_id at_j = let f = r.each j u at_j in record {
      ticket = f.ticket;
      inside = f.inside;
      share = f.share;
      alive = f.alive;
      own = λ x c. let o = f.own x c in (
        redirect_else r.ledger.keeper other id x (λ e. not_other (sym o.0 ∙ e))
            ∙ o.0,
        o.1,
        o.2,
      );
      number = f.number;
      behind = f.behind;
      pasts = f.pasts;
      cutting = f.cutting;
    }

    join_kept : (x : ℕ) → 1 ≤ x → x ≤ r.ledger.made → (u : View I) × (get_elem? pair (J.keeper x) ≡ some u)
        × (1 ≤ u.shares) × Contains u.stands x
    join_kept x low high =
        let k = r.kept x low high in let place : ℕ = r.ledger.keeper x in let some_share = left.alive in
        let first = two_first s.views id other v (joined v w) spent apart here in
        dite (ℕ_discrete place other)
        (λ yes. (
          joined v w,
          ap (get_elem? pair) (redirect_here r.ledger.keeper other id x yes) ∙ first,
          omega arith,
          Contains-append_right v.stands w.stands x (subst (λ (z : View I). Contains z.stands x)
              (same_at s.views place other k.0 w k.1 there yes) k.3),
        ))
        (λ no.
        let stays = ap (get_elem? pair) (redirect_else r.ledger.keeper other id x no) in
        dite (ℕ_discrete place id)
        (λ yes. (
          joined v w,
          stays ∙ ap (get_elem? pair) yes ∙ first,
          omega arith,
          Contains-append_left v.stands w.stands x (subst (λ (z : View I). Contains z.stands x)
              (same_at s.views place id k.0 v k.1 here yes) k.3),
        ))
        (λ no'. (k.0, stays ∙ two_else s.views id other (joined v w) spent k.0 place no' no k.1, k.2, k.3)))

    -- a view that waits, is inside or is marked is neither of the two
    apart_from : (j : ℕ) (u : View I) → get_elem? s.views j ≡ some u → (AtRest u → ⊥) → (j ≢ id) × (j ≢ other)
    apart_from j u at_j busy = (
      (λ e. busy (subst AtRest (sym (same_at s.views j id u v at_j here e)) left)),
      λ e. busy (subst AtRest (sym (same_at s.views j other u w at_j there e)) right),
    )

    join_ruled : Ruled history maker n record { words = s.words; homes = s.homes; views = pair }
    join_ruled =
        let there' : get_elem? (set s.views id (joined v w)) other ≡ some w =
        set_else s.views id other (joined v w) apart ∙ there in
        let parts = sum_set shares s.views id v (joined v w) here
        in let parts' = sum_set shares (set s.views id (joined v w)) other w spent there' in
        let count = sum_set waits s.views id v (joined v w) here
        in let count' = sum_set waits (set s.views id (joined v w)) other w spent there' in
        let none = no_ticket v left.ticket in let none' = no_ticket w right.ticket in
        let before = r.waiting in let whole = r.shared in record {
          ledger = J;
          few = r.few;
          begun = r.begun;
          words = r.words;
          shared = omega arith;
          waiting = omega arith;
          held = λ t low high.
              let k = r.held t low high in
              let no = apart_from (r.ledger.holder t) k.0 k.1 (λ rest. None_not_Some t (sym rest.ticket ∙ k.2)) in
              (k.0, two_else s.views id other (joined v w) spent k.0 (r.ledger.holder t) no.0 no.1 k.1, k.2);
          kept = join_kept;
          makers = r.makers;
          cut = ⊎_elim inl (λ c. let no = apart_from c.0 c.1 c.2 (λ rest. false_not_true (sym rest.whole ∙ c.3))
              in inr (c.0, c.1, two_else s.views id other (joined v w) spent c.1 c.0 no.0 no.1 c.2, c.3)) r.cut;
          home = r.home;
          away = λ busy.
              let a = r.away busy in
              let no = apart_from (r.ledger.holder r.ledger.served) a.1.0 a.1.1 (λ rest. false_not_true (sym rest.calm
              ∙ a.1.2)) in (
                a.0,
                (
                  a.1.0,
                  two_else s.views id other (joined v w) spent a.1.0 (r.ledger.holder r.ledger.served) no.0
                      no.1 a.1.1,
                  a.1.2,
                ),
              );
          each = λ j u at_j. ⊎_elim
              (λ p. subst (λ (z : ℕ × View I). Fits maker n J z.0 z.1) (λ i. (sym p.0 i, p.1 i)) join_spent)
              (λ q. ⊎_elim (λ p. subst (λ (z : ℕ × View I). Fits maker n J z.0 z.1) (λ i. (sym p.0 i, p.1 i)) join_both)
              (λ p. join_else j u p.0 p.1 p.2) q)
              (two_at s.views id other (joined v w) spent u j at_j);
        }

  -- two seats at rest may be joined
  pub joins : (n id : ℕ) (v : View I) (other : ℕ) (w : View I) → AtRest v → AtRest w
      → Joins (Ruled history maker n) id v other w (joined v w) spent
  joins n id v other w left right s r here apart there =
      join_ruled n id v other w left right apart s r here (sym (set_else s.views id other (joined v w) apart) ∙ there)
