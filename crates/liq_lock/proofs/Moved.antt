-- A step that changes one view, and neither its numbers nor its shares, keeps the rule.
use Rattle.std.proofs.Common.{◌≡◌, ℕ, zero, suc, ◌+◌, ◌%◌, ◌^◌, ◌<◌, ◌≤◌, ◌≢◌, ◌⊎◌, Bool, true, false, List, [], ◌∷◌, length, set, sym, ap, ◌∙◌, subst, inl, inr, ⊎_elim, arith}
use mathlib.Core.Logic.{dite}
use mathlib.Core.Option.{some, none, some-injective, some-ne-none}
use mathlib.Core.Option as maybe
use native.Mathlib.Decide.{ℕ_discrete}
use lib.ListN.{get_elem?}
use Rattle.std.specs.Prelude.{Option, Some, None, Contains}
use Rattle.atomic_table.specs.Table.{State}
use Rattle.atomic_table.proofs.Lists.{at_set, set_here, set_else}
use Rattle.liq_lock.specs.declared.view.View.{View}
use Rattle.liq_lock.specs.History.{Behind, Within}
use Rattle.liq_lock.specs.Views.{count_of, waits, shares}
use Rattle.liq_lock.specs.Rule.{Ledger, Fits, Ruled}
use Rattle.liq_lock.proofs.Sums.{sum_set}

pub within_at : {A : Type 0} (l : List A) (i : ℕ) (a : A) → get_elem? l i ≡ some a → i < length l
within_at [] i a e = absurd (some-ne-none a (sym e))
within_at (x ∷ xs) zero a e = omega arith
within_at (x ∷ xs) (suc i) a e = let r = within_at xs i a e in omega arith

-- two reads of one place are one
pub same_at : {A : Type 0} (l : List A) (i j : ℕ) (a b : A) → get_elem? l i ≡ some a → get_elem? l j ≡ some b
    → i ≡ j → a ≡ b
same_at l i j a b d e is = some-injective a b (sym d ∙ ap (get_elem? l) is ∙ e)

pub set_at : {A : Type 0} (l : List A) (i : ℕ) (a b : A) → get_elem? l i ≡ some a → get_elem? (set l i b) i ≡ some b
set_at l i a b e = set_here l i b (within_at l i a e)

pub Some_is : {A : Type 0} (a b : A) → Some a ≡ Some b → a ≡ b
Some_is a b e = cc

pub None_not_Some : {A : Type 0} (a : A) → None ≡ Some a → ⊥
None_not_Some a e = cc

pub false_not_true : false ≡ true → ⊥
false_not_true e = cc

module _ {I : Type 0} where
  -- the ledger after a step that gives out no number
  abbrev pub turned : Ledger I → ℕ → ℕ → (ℕ → ℕ) → List I → Bool → Ledger I
  turned g drawn served holder log busy = record {
    drawn = drawn;
    served = served;
    holder = holder;
    log = log;
    made = g.made;
    keeper = g.keeper;
    busy = busy;
  }

  -- w has the numbers, the shares and the mark of v
  pub record Same (v w : View I) : Type 0 where
    pub stands : w.stands ≡ v.stands
    pub shares_are : w.shares ≡ v.shares
    pub splitting : w.splitting ≡ v.splitting

  module _ (maker : I → ℕ) where
    -- what has to be found out anew of a view that stays
    pub record Stays (g : Ledger I) (j : ℕ) (v : View I) : Type 0 where
      pub ticket : (t : ℕ) → v.ticket ≡ Some t → (g.served ≤ t) × (t < g.drawn) × (g.holder t ≡ j)
      pub inside : v.inside ≡ true → (v.ticket ≡ Some g.served) × (v.seen ≡ g.log) × (g.busy ≡ true)
      pub behind : Behind maker g.log v.stands v.seen

    pub refit : (n : ℕ) (g : Ledger I) (d e : ℕ) (h : ℕ → ℕ) (log : List I) (b : Bool) (j : ℕ) (v : View I)
        → Fits maker n g j v → Stays (turned g d e h log b) j v → Fits maker n (turned g d e h log b) j v
    refit n g d e h log b j v f s = record {
      ticket = s.ticket;
      inside = s.inside;
      share = f.share;
      alive = f.alive;
      own = f.own;
      number = f.number;
      behind = s.behind;
      pasts = f.pasts;
      cutting = f.cutting;
    }

    -- a view that changes its ticket and its turn keeps the rest
    pub turn_fits : (n : ℕ) (g : Ledger I) (d e : ℕ) (h : ℕ → ℕ) (b : Bool) (j : ℕ) (v : View I) (held : Option ℕ)
        (turn : Bool) → Fits maker n g j v → 1 ≤ v.shares → count_of held ≤ v.shares
        → ((t : ℕ) → held ≡ Some t → (e ≤ t) × (t < d) × (h t ≡ j))
        → (turn ≡ true → (held ≡ Some e) × (v.seen ≡ g.log) × (b ≡ true))
        → Fits maker n (turned g d e h g.log b) j (record v { ticket = held; inside = turn })
    turn_fits n g d e h b j v held turn f alive few ticket inside = record {
      ticket = ticket;
      inside = inside;
      share = few;
      alive = inr alive;
      own = f.own;
      number = f.number;
      behind = f.behind;
      pasts = f.pasts;
      cutting = f.cutting;
    }

module _ {T I : Type 0} (history : T → List I) (maker : I → ℕ) where
  -- the ticket t is held by the view at id, or by the one that held it
  abbrev pub HeldBy : (g g' : Ledger I) (id : ℕ) (w : View I) (t : ℕ) → Type 0
  HeldBy g g' id w t = ((g'.holder t ≡ id) × (w.ticket ≡ Some t)) ⊎ ((g.served ≤ t) × (t < g.drawn)
      × (g'.holder t ≡ g.holder t) × (g'.holder t ≢ id))

  module _ (n : ℕ) (s : State (Option T) (View I)) (r : Ruled history maker n s) (id : ℕ) (v w : View I)
      (at : get_elem? s.views id ≡ some v) (same : Same v w) (alive : 1 ≤ v.shares) where
    moved_kept : (x : ℕ) → 1 ≤ x → x ≤ r.ledger.made → (u : View I) × (get_elem? (set s.views id w) (r.ledger.keeper x)
        ≡ some u) × (1 ≤ u.shares) × Contains u.stands x
    moved_kept x low high =
        let k = r.kept x low high in let u : View I = k.0 in let place : ℕ = r.ledger.keeper x in
        dite (ℕ_discrete place id)
        (λ yes.
        let is : u ≡ v = same_at s.views place id u v k.1 at yes in (
          w,
          ap (get_elem? (set s.views id w)) yes ∙ set_at s.views id v w at,
          subst (λ (z : ℕ). 1 ≤ z) (sym same.shares_are) alive,
          subst (λ (z : List ℕ). Contains z x) (ap (λ (z : View I). z.stands) is ∙ sym same.stands) k.3,
        ))
        (λ no. (u, set_else s.views id place w no ∙ k.1, k.2, k.3))

    moved_cut : (r.ledger.made ≡ n) ⊎ ((j : ℕ) × (u : View I) × (get_elem? (set s.views id w) j ≡ some u)
        × (u.splitting ≡ true))
    moved_cut = ⊎_elim inl
        (λ c. dite (ℕ_discrete c.0 id)
        (λ yes. inr (
          id,
          w,
          set_at s.views id v w at,
          same.splitting
              ∙ ap (λ (z : View I). z.splitting) (sym (same_at s.views c.0 id c.1 v c.2 at yes)) ∙ c.3,
        ))
        (λ no. inr (c.0, c.1, set_else s.views id c.0 w no ∙ c.2, c.3))) r.cut

    moved_held : (g' : Ledger I) (t : ℕ) → HeldBy r.ledger g' id w t → (u : View I)
        × (get_elem? (set s.views id w) (g'.holder t) ≡ some u) × (u.ticket ≡ Some t)
    moved_held g' t h = ⊎_elim
        (λ p. (w, ap (get_elem? (set s.views id w)) p.0 ∙ set_at s.views id v w at, p.1))
        (λ p. let k = r.held t p.0 p.1 in (
          k.0,
          set_else s.views id (g'.holder t) w p.3 ∙ ap (get_elem? s.views) p.2
              ∙ k.1,
          k.2,
        )) h

    pub moved : (d e : ℕ) (h : ℕ → ℕ) (log : List I) (b : Bool) (words' : List ℕ)
        (homes' : List (maybe.Option (Option T)))
        → words' ≡ d % 2 ^ 64 ∷ e % 2 ^ 64 ∷ length log ∷ []
        → e + r.ledger.drawn + waits w ≡ d + r.ledger.served + waits v
        → ((t : ℕ) → e ≤ t → t < d → HeldBy r.ledger (turned r.ledger d e h log b) id w t)
        → Within maker r.ledger.made log
        → (b ≡ false → (x : T) × (homes' ≡ some (Some x) ∷ []) × (history x ≡ log))
        → (b ≡ true → (homes' ≡ none ∷ []) × ((u : View I) × (get_elem? (set s.views id w) (h e) ≡ some u)
        × (u.inside ≡ true)))
        → Fits maker n (turned r.ledger d e h log b) id w
        → ((j : ℕ) (u : View I) → j ≢ id → get_elem? s.views j ≡ some u → Stays maker (turned r.ledger d e h log b) j u)
        → Ruled history maker n record { words = words'; homes = homes'; views = set s.views id w }
    moved d e h log b words' homes' are count held makers home away mine theirs =
        let g' : Ledger I = turned r.ledger d e h log b in
        let all = sum_set shares s.views id v w at in
        let waiting = sum_set waits s.views id v w at in
        let few = r.shared in let before = r.waiting in let sh = same.shares_are in record {
          ledger = g';
          few = r.few;
          begun = r.begun;
          words = are;
          shared = omega arith;
          waiting = omega arith;
          held = λ t low high. moved_held g' t (held t low high);
          kept = moved_kept;
          makers = makers;
          cut = moved_cut;
          home = home;
          away = away;
          each = λ j u there. ⊎_elim
              (λ p. subst (λ (z : ℕ × View I). Fits maker n g' z.0 z.1) (λ i. (sym p.0 i, p.1 i)) mine)
              (λ p. refit maker n r.ledger d e h log b j u (r.each j u p.1) (theirs j u p.0 p.1))
              (at_set s.views id j w u there);
        }
