-- Where each account stands: its key, and the one that it will have.
use Rattle.std.specs.Prelude.{ℕ, ℤ, Option, None, ◌==◌, if◌then◌else◌, Bool}
use Rattle.liq_list_keys.specs.declared.key_index.AccountKey.{AccountKey}

-- it doesn't stand, and won't
abbrev pub nowhere : AccountKey
nowhere = record { key = None; next = None }

-- it stays under a key, or stays out
abbrev pub settled_at : Option ℤ → AccountKey
settled_at key = record { key = key; next = key }

-- the key that it has once the changes are made, or the one that it has where they are not
abbrev pub side_of : Bool → AccountKey → Option ℤ
side_of made stand = if made then stand.next else stand.key

-- all as they stood but one account
abbrev pub moved : (ℕ → AccountKey) → ℕ → AccountKey → ℕ → AccountKey
moved stands account stand a = if a == account then stand else stands a
