-- The rule of the lock in ten sentences, over the words, the slot and the views of a lock that was
-- made with n seats. A view that was joined into another is spent, and is left out.
use Rattle.std.specs.Prelude.{◌≡◌, ℕ, ◌+◌, ◌-◌, ◌%◌, ◌^◌, ◌<◌, ◌≤◌, true, false, ◌↔◌, List, [], ◌∷◌, ◌++◌, length, Option, Some, Contains, sum_by}
use mathlib.Core.Option.{some, none}
use lib.ListN.{get_elem?}
use Rattle.atomic_table.specs.Table.{State}
use Rattle.liq_lock.specs.declared.view.View.{View}
use Rattle.liq_lock.specs.History.{NoneOf, Within}
use Rattle.liq_lock.specs.Views.{shares, spent}

module _ {T I : Type 0} where
  -- the view at j, which is not spent
  abbrev pub Lives : State (Option T) (View I) → ℕ → View I → Type 0
  Lives s j v = (get_elem? s.views j ≡ some v) × (v ≡ spent → ⊥)

  pub record Sentences (history : T → List I) (maker : I
      → ℕ) (n : ℕ) (s : State (Option T) (View I)) : Type 0 where
    -- the next ticket and the ticket whose turn it is, of which the first two words are the ends,
    -- and the one history
    pub ticket : ℕ
    pub serving : ℕ
    pub log : List I
    pub words : (count : ℕ) × (s.words ≡ ticket % 2 ^ 64 ∷ serving % 2 ^ 64 ∷ count ∷ [])
        × (count ≡ length log)
    -- 1. Every ticket drawn and not yet served is some view's, no other is, and no two views share
    -- a ticket
    pub tickets : (t : ℕ)
        → ((j : ℕ) × (v : View I) × Lives s j v × (v.ticket ≡ Some t)) ↔ ((serving ≤ t)
        × (t < ticket))
    pub held_once : (t i j : ℕ) (v w : View I) → Lives s i v → Lives s j w → v.ticket ≡ Some t
        → w.ticket ≡ Some t
        → i ≡ j
    -- 2. No two views have the turn, and who has it holds the ticket that is now served
    pub one_inside : (i j : ℕ) (v w : View I) → Lives s i v → Lives s j w → v.inside ≡ true
        → w.inside ≡ true → i ≡ j
    pub turn : (j : ℕ) (v : View I) → Lives s j v → v.inside ≡ true → v.ticket ≡ Some serving
    -- 3. Some view has seen everything, and the third word counts it
    pub longest : (j : ℕ) × (v : View I) × Lives s j v × (v.seen ≡ log)
    -- 4. What a view has seen is a beginning of the history
    pub begins : (j : ℕ) (v : View I) → Lives s j v → (beyond : List I) × (log ≡ v.seen ++ beyond)
    -- 5. Who has the turn has seen everything, and the value is out
    pub seen_inside : (j : ℕ) (v : View I) → Lives s j v → v.inside ≡ true → (v.seen ≡ log)
        × (s.homes ≡ none ∷ [])
    -- 6. Where nobody has the turn the value is in its slot, with the whole history
    pub slot_home : ((j : ℕ) (v : View I) → Lives s j v → v.inside ≡ false)
        → (x : T) × (s.homes ≡ some (Some x) ∷ []) × (history x ≡ log)
    -- 7. Views are told apart by their numbers; these and the makers of items lie from 1 to n
    pub numbers_differ : (i j : ℕ) (v w : View I) → Lives s i v → Lives s j w
        → v.number ≡ w.number → i ≡ j
    pub numbers_within : (j : ℕ) (v : View I) → Lives s j v → (1 ≤ v.number) × (v.number ≤ n)
    pub makers_within : Within maker n log
    -- 8. A view answers for its own number and those that it took over, which lie from 1 to n; none
    -- is answered for twice, and once all seats are made each is answered for
    pub own_number : (j : ℕ) (v : View I) → Lives s j v → Contains v.stands v.number
    pub stands_within : (j : ℕ) (v : View I) → Lives s j v → (x : ℕ) → Contains v.stands x
        → (1 ≤ x) × (x ≤ n)
    pub stands_once : (x i j : ℕ) (v w : View I) → Lives s i v → Lives s j w → Contains v.stands x
        → Contains w.stands x → i ≡ j
    pub all_stand : ((j : ℕ) (v : View I) → Lives s j v → v.splitting ≡ false) → (x : ℕ)
        → 1 ≤ x → x ≤ n
        → (j : ℕ) × (v : View I) × Lives s j v × Contains v.stands x
    -- 9. No view has missed an item of a number that it answers for
    pub own_items : (j : ℕ) (v : View I) → Lives s j v → (beyond : List I) → log ≡ v.seen ++ beyond
        → NoneOf maker v.stands beyond
    -- 10. Nobody is without a share, and all come to n
    pub some_share : (j : ℕ) (v : View I) → Lives s j v → 1 ≤ v.shares
    pub all_shares : sum_by shares s.views ≡ n
    -- Of the mark of a view out of which seats are still made: at most one has it, and it has
    -- number 1. While it has k shares no view and no item has a number above n - k + 1, and the
    -- next one is n - k + 2
    pub one_mark : (i j : ℕ) (v w : View I) → Lives s i v → Lives s j w → v.splitting ≡ true
        → w.splitting ≡ true
        → i ≡ j
    pub to_come : (j : ℕ) (v : View I) → Lives s j v → v.splitting ≡ true
        → (v.number ≡ 1) × ((i : ℕ) (w : View I) → Lives s i w → w.number ≤ n + 1 - v.shares)
        × Within maker (n + 1 - v.shares) log × (v.next ≡ n + 2 - v.shares)
