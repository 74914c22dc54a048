-- A version of the ordered list: what is seen of it, and what it answers.
use Rattle.std.specs.Prelude.{ℕ, ℤ, pos, List, [], unwrap_or}
use Rattle.liq_types.specs.declared.events.ListChange.{ListChange}
use Rattle.liq_types.specs.declared.hints.Hint.{Hint}
use Rattle.liq_types.specs.Ranked.{neighbours, key_in}
use Rattle.liq_types.specs.Views.{View, all_followed, key_seen}
use Rattle.liq_list_version.specs.declared.asks.Ask.{Ask}
use Rattle.liq_list_version.specs.declared.asks.Ask.TheVariants.{At, Open, Own}

pub record Numbered : Type 0 where
  pub view : View
  pub number : ℕ

-- an empty list, and words as before any snapshot
abbrev pub empty_version : Numbered
empty_version = record {
  view = record { list = []; snap_stakes = 0; snap_coll = 0; sum_debt = 0 };
  number = 0;
}

-- the version after changes, under a number of its own
abbrev pub folded : Numbered → List ListChange → ℕ → Numbered
folded v changes number = record { view = all_followed v.view changes; number = number }

-- ---- asking

-- who asks
abbrev pub asker : Ask → ℕ
asker (At key id) = id
asker (Open account coll borrow) = account
asker (Own account) = account

-- the key for whose place is asked: the given one, that of a trove which would open, or the asker's
-- own
abbrev pub key_asked : View → Ask → ℤ
key_asked v (At key id) = key
key_asked v (Open account coll borrow) = key_seen v coll borrow
key_asked v (Own account) = unwrap_or (key_in v.list account) (pos 0)

-- the accounts between which the asker stands, or would stand
abbrev pub answer_of : Numbered → Ask → Hint
answer_of v ask =
    let between = neighbours v.view.list (key_asked v.view ask, asker ask) in
    record { prev = between.0; next = between.1; version = v.number }
