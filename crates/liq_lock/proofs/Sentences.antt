-- The rule says the ten sentences.
use Rattle.std.proofs.Common.{◌≡◌, ℕ, ◌+◌, ◌≤◌, ◌⊎◌, true, List, [], ◌∷◌, ◌++◌, length, refl, sym, ap, ◌∙◌, subst, inl, inr, ⊎_elim, length-append, arith}
use mathlib.Core.Logic.{dite}
use mathlib.Core.Option.{some}
use native.Mathlib.Decide.{dec_le}
use lib.ListN.{get_elem?}
use Rattle.std.specs.Prelude.{Option, Some, Contains}
use Rattle.std.proofs.lemmas.List.{append-nil, nil_from_length}
use Rattle.std.proofs.lemmas.List.Elements.{Contains-append_right}
use Rattle.atomic_table.specs.Table.{State}
use Rattle.liq_lock.specs.declared.view.View.{View}
use Rattle.liq_lock.specs.History.{NoneOf}
use Rattle.liq_lock.specs.Views.{shares}
use Rattle.liq_lock.specs.Rule.{Ledger, Ruled}
use Rattle.liq_lock.specs.Sentences.{Lives, Sentences}
use Rattle.liq_lock.proofs.Ends.{made_most}
use Rattle.liq_lock.proofs.Histories.{beginnings, one_in}
use Rattle.liq_lock.proofs.Moved.{None_not_Some, false_not_true}
use Rattle.std.proofs.lemmas.Bool.{false_from_ne_true}

cancel : {A : Type 0} (xs a b : List A) → xs ++ a ≡ xs ++ b → a ≡ b
cancel [] a b e = e
cancel (x ∷ xs) a b e = let tails : xs ++ a ≡ xs ++ b = cc in cancel xs a b tails

-- a list is empty, or has a last element
ends : {A : Type 0} (l : List A) → (l ≡ []) ⊎ ((front : List A) × (x : A) × (l ≡ front ++ x ∷ []))
ends [] = inl refl
ends (x ∷ l) = inr (⊎_elim (λ e. ([], x, ap (λ r. x ∷ r) e)) (λ p. (x ∷ p.0, p.1, ap (λ r. x ∷ r) p.2)) (ends l))

-- a beginning of a list with a last element is the whole list, or that element is beyond
beyond_has : {A : Type 0} (xs ys front : List A) (x : A) → xs ++ ys ≡ front ++ x ∷ [] → (ys ≡ []) ⊎ Contains ys x
beyond_has xs ys front x e = dite (dec_le (length xs) (length front))
    (λ yes. let b = beginnings xs front ys (x ∷ []) e yes
    in inr (subst (λ l. Contains l x) (sym b.2) (Contains-append_right b.0 (x ∷ []) x (one_in x []))))
    (λ no.
    let all = ap length e in let left = length-append xs ys in let right = length-append front (x ∷ []) in
    inl (nil_from_length ys (omega arith)))

module _ {T I : Type 0} (history : T → List I) (maker : I → ℕ) (n : ℕ) (s : State (Option T) (View I))
    (r : Ruled history maker n s) where
  abbrev G : Ledger I
  G = r.ledger

  alive : (j : ℕ) (v : View I) → Lives s j v → 1 ≤ v.shares
  alive j v l = ⊎_elim (λ e. absurd (l.1 e)) (λ h. h) (r.each j v l.0).alive

  -- a view with a share, a ticket, a turn or the mark is not spent
  lives_by_share : (j : ℕ) (v : View I) → get_elem? s.views j ≡ some v → 1 ≤ v.shares → Lives s j v
  lives_by_share j v at h = (at, λ e. let none : v.shares ≡ 0 = ap shares e in absurd (omega arith))

  lives_by_ticket : (j t : ℕ) (v : View I) → get_elem? s.views j ≡ some v → v.ticket ≡ Some t → Lives s j v
  lives_by_ticket j t v at h = (at, λ e. None_not_Some t (ap (λ (z : View I). z.ticket) (sym e) ∙ h))

  lives_inside : (j : ℕ) (v : View I) → get_elem? s.views j ≡ some v → v.inside ≡ true → Lives s j v
  lives_inside j v at h = (at, λ e. false_not_true (ap (λ (z : View I). z.inside) (sym e) ∙ h))

  lives_marked : (j : ℕ) (v : View I) → get_elem? s.views j ≡ some v → v.splitting ≡ true → Lives s j v
  lives_marked j v at h = (at, λ e. false_not_true (ap (λ (z : View I). z.splitting) (sym e) ∙ h))

  place : (j : ℕ) (v : View I) → Lives s j v → (g : ℕ) × (g ≡ j) × (1 ≤ v.number) × (v.number ≤ r.ledger.made)
      × (r.ledger.keeper v.number ≡ j)
  place j v l = let f = r.each j v l.0 in let o = f.own v.number (f.number (alive j v l)) in (j, refl, o.1, o.2, o.0)

  longest : (j : ℕ) × (v : View I) × Lives s j v × (v.seen ≡ r.ledger.log)
  longest = ⊎_elim
      (λ (none : r.ledger.log ≡ []).
      let begun = r.begun in let k = r.kept 1 (omega arith) begun in let v : View I = k.0 in
      let f = r.each (r.ledger.keeper 1) v k.1 in
      let short = ap length (sym f.behind.1 ∙ none) in let sum = length-append v.seen f.behind.0 in (
        r.ledger.keeper 1,
        v,
        lives_by_share (r.ledger.keeper 1) v k.1 k.2,
        nil_from_length v.seen (omega arith)
            ∙ sym none,
      ))
      (λ (p : (front : List I) × (x : I) × (r.ledger.log ≡ front ++ x ∷ [])).
      let m = r.makers p.1 (subst (λ (l : List I). Contains l p.1) (sym p.2) (Contains-append_right p.0 (p.1 ∷ []) p.1
      (one_in p.1 []))) in
      let j : ℕ = r.ledger.keeper (maker p.1) in
      let k = r.kept (maker p.1) m.0 m.1 in let v : View I = k.0 in let f = r.each j v k.1 in
      let nothing : f.behind.0 ≡ [] = ⊎_elim (λ e. e) (λ c. absurd (f.behind.2 p.1 c k.3))
      (beyond_has v.seen f.behind.0 p.0 p.1 (sym f.behind.1 ∙ p.2)) in
      (j, v, lives_by_share j v k.1 k.2, sym (f.behind.1 ∙ ap (λ l. v.seen ++ l) nothing ∙ append-nil v.seen)))
      (ends r.ledger.log)

  pub sentences : Sentences history maker n s
  sentences = let most = made_most history maker n s r in record {
    ticket = G.drawn;
    serving = G.served;
    log = G.log;
    words = (length G.log, r.words, refl);
    tickets = λ t. (
      (λ p. let f = (r.each p.0 p.1 p.2.0).ticket t p.3 in (f.0, f.1)),
      λ p. let k = r.held t p.0 p.1 in (G.holder t, k.0, lives_by_ticket (G.holder t) t k.0 k.1 k.2, k.2),
    );
    held_once = λ t i j v w l m p q. sym ((r.each i v l.0).ticket t p).2 ∙ ((r.each j w m.0).ticket t q).2;
    one_inside = λ i j v w l m p q.
        let f = r.each i v l.0 in let g = r.each j w m.0 in
        sym (f.ticket G.served (f.inside p).0).2 ∙ (g.ticket G.served (g.inside q).0).2;
    turn = λ j v l p. ((r.each j v l.0).inside p).0;
    longest = longest;
    begins = λ j v l. let f = r.each j v l.0 in (f.behind.0, f.behind.1);
    seen_inside = λ j v l p. let f = (r.each j v l.0).inside p in (f.1, (r.away f.2).0);
    slot_home = λ calm. r.home (false_from_ne_true G.busy (λ busy.
        let a = r.away busy
        in false_not_true (sym (calm (G.holder G.served) a.1.0 (lives_inside (G.holder G.served) a.1.0 a.1.1 a.1.2))
        ∙ a.1.2)));
    numbers_differ = λ i j v w l m e. let p = place i v l in let q = place j w m in sym p.4 ∙ ap G.keeper e ∙ q.4;
    numbers_within = λ j v l. let p = place j v l in let high : v.number ≤ G.made = p.3 in (p.2, omega arith);
    makers_within = λ i c. let p = r.makers i c in let high : maker i ≤ G.made = p.1 in (p.0, omega arith);
    own_number = λ j v l. (r.each j v l.0).number (alive j v l);
    stands_within = λ j v l x p. let o = (r.each j v l.0).own x p in let high : x ≤ G.made = o.2 in (o.1, omega arith);
    stands_once = λ x i j v w l m p q. sym ((r.each i v l.0).own x p).0 ∙ ((r.each j w m.0).own x q).0;
    all_stand = λ whole x low high.
        let made : G.made ≡ n =
        ⊎_elim (λ e. e) (λ c. absurd (false_not_true (sym (whole c.0 c.1 (lives_marked c.0 c.1 c.2 c.3)) ∙ c.3)))
        r.cut in
        let k = r.kept x low (omega arith) in (G.keeper x, k.0, lives_by_share (G.keeper x) k.0 k.1 k.2, k.3);
    own_items = λ j v l beyond e.
        let f = r.each j v l.0 in
        subst (NoneOf maker v.stands) (cancel v.seen f.behind.0 beyond (sym f.behind.1 ∙ e)) f.behind.2;
    some_share = alive;
    all_shares = r.shared;
    one_mark = λ i j v w l m p q.
        let a = place i v l in let b = place j w m in
        let c = (r.each i v l.0).cutting p in let d = (r.each j w m.0).cutting q in
        sym a.4 ∙ ap G.keeper (c.3 ∙ sym d.3) ∙ b.4;
    to_come = λ j v l p.
        let c = (r.each j v l.0).cutting p in let all : G.made + v.shares ≡ n + 1 = c.1
        in let next : v.next ≡ G.made + 1 = c.2 in (
          c.3,
          (λ i w m. let high : w.number ≤ G.made = (place i w m).3 in omega arith),
          λ i k. let o = r.makers i k in let high : maker i ≤ G.made = o.1 in (o.0, omega arith),
          omega arith,
        );
  }
