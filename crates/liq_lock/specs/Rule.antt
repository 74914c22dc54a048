-- The rule of the lock, which holds between any two atomic steps. The words are the next ticket,
-- the ticket whose turn it is and the number of items of the history, the first two modulo 2^64;
-- the one slot has the value.
use Rattle.std.specs.Prelude.{◌≡◌, ℕ, ◌+◌, ◌%◌, ◌^◌, ◌<◌, ◌≤◌, Bool, true, false, ◌⊎◌, List, [], ◌∷◌, length, Option, Some, Contains, sum_by}
use mathlib.Core.Option.{some, none}
use lib.ListN.{get_elem?}
use Rattle.atomic_table.specs.Table.{State}
use Rattle.liq_lock.specs.declared.view.View.{View}
use Rattle.liq_lock.specs.History.{Behind, Within}
use Rattle.liq_lock.specs.Views.{waits, shares, spent}

-- what stands behind the words: the tickets drawn and served, the view that holds each ticket, the
-- one history, the numbers given out, the view that each number stands with, and whether a view is
-- inside
pub record Ledger (I : Type 0) : Type 0 where
  pub drawn : ℕ
  pub served : ℕ
  pub holder : ℕ → ℕ
  pub log : List I
  pub made : ℕ
  pub keeper : ℕ → ℕ
  pub busy : Bool

module _ {I : Type 0} where
  -- what the ledger says of the view at j
  pub record Fits (maker : I → ℕ) (n : ℕ) (g : Ledger I) (j : ℕ) (v : View I) : Type 0 where
    pub ticket : (t : ℕ) → v.ticket ≡ Some t → (g.served ≤ t) × (t < g.drawn) × (g.holder t ≡ j)
    pub inside : v.inside ≡ true → (v.ticket ≡ Some g.served) × (v.seen ≡ g.log) × (g.busy ≡ true)
    pub share : waits v ≤ v.shares
    pub alive : (v ≡ spent) ⊎ (1 ≤ v.shares)
    pub own : (x : ℕ) → Contains v.stands x → (g.keeper x ≡ j) × (1 ≤ x) × (x ≤ g.made)
    pub number : 1 ≤ v.shares → Contains v.stands v.number
    pub behind : Behind maker g.log v.stands v.seen
    pub pasts : Behind maker v.seen v.left.stands v.left.seen
        × Behind maker v.seen v.right.stands v.right.seen
    pub cutting : v.splitting ≡ true
        → (1 < v.shares) × (g.made + v.shares ≡ n + 1) × (v.next ≡ g.made + 1) × (v.number ≡ 1)

  -- the rule of a lock that was made with n seats
  pub record Ruled {T : Type 0} (history : T → List I) (maker : I
      → ℕ) (n : ℕ) (s : State (Option T) (View I))
      : Type 0 where
    pub ledger : Ledger I
    pub few : n < 2 ^ 32
    pub begun : 1 ≤ ledger.made
    pub words : s.words ≡ ledger.drawn % 2 ^ 64 ∷ ledger.served % 2 ^ 64 ∷ length ledger.log ∷ []
    pub shared : sum_by shares s.views ≡ n
    pub waiting : ledger.served + sum_by waits s.views ≡ ledger.drawn
    pub held : (t : ℕ) → ledger.served ≤ t → t < ledger.drawn
        → (v : View I) × (get_elem? s.views (ledger.holder t) ≡ some v) × (v.ticket ≡ Some t)
    pub kept : (x : ℕ) → 1 ≤ x → x ≤ ledger.made
        → (v : View I) × (get_elem? s.views (ledger.keeper x) ≡ some v) × (1 ≤ v.shares)
        × Contains v.stands x
    pub makers : Within maker ledger.made ledger.log
    pub cut : (ledger.made ≡ n) ⊎ ((j : ℕ) × (v : View I) × (get_elem? s.views j ≡ some v)
        × (v.splitting ≡ true))
    pub home : ledger.busy ≡ false → (x : T) × (s.homes ≡ some (Some x) ∷ [])
        × (history x ≡ ledger.log)
    pub away : ledger.busy ≡ true
        → (s.homes ≡ none ∷ [])
        × ((v : View I) × (get_elem? s.views (ledger.holder ledger.served) ≡ some v)
        × (v.inside ≡ true))
    pub each : (j : ℕ) (v : View I) → get_elem? s.views j ≡ some v → Fits maker n ledger j v
