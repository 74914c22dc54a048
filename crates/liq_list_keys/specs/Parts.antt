-- Accounts in two parts: those whose keys are kept, and those that stand apart.
use Rattle.std.specs.Prelude.{◌≡◌, ℕ, Option, Some, None, unwrap_or, IsSome}
use Rattle.liq_types.specs.Tables.{Table, at}
use Rattle.liq_types.specs.WellFormed.{Ascends}
use Rattle.liq_tables.specs.WithRoom.{WithRoom, HasRoom}
use Rattle.liq_list_keys.specs.declared.short_key.ShortKey.{ShortKey}
use Rattle.liq_list_keys.specs.declared.key_index.AccountKey.{AccountKey}
use Rattle.liq_list_keys.specs.AccountKey.{nowhere, settled_at}

pub record Parts : Type 0 where
  pub kept : Table ShortKey
  pub apart : Table AccountKey

-- a kept account stays under its key, and one that is in neither part is nowhere
abbrev pub account_key_in : Option ShortKey → Option AccountKey → AccountKey
account_key_in None apart = unwrap_or apart nowhere
account_key_in (Some kept) apart = settled_at (Some kept.key)

-- where an account stands
unfoldable pub account_key : Parts → ℕ → AccountKey
account_key parts account = account_key_in (at parts.kept account) (at parts.apart account)

-- each account has room among the kept ones, and one that stands apart is none of them
pub record AreParted (kept : WithRoom ShortKey) (apart : Table AccountKey) : Type 0 where
  pub ascend : Ascends kept.rows
  pub stays : (account : ℕ) → IsSome (at kept.rows account) → HasRoom kept account
  pub room : (account : ℕ) → IsSome (at apart account) → HasRoom kept account
  pub once : (account : ℕ) → IsSome (at apart account) → at kept.rows account ≡ None
