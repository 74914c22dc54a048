-- Keys in 8 bytes.
use Rattle.std.specs.Prelude.{Bool, pos, neg_ℤ, not, ◌^◌}
use Rattle.std.specs.Ordering.{int_eq}
use Rattle.liq_list_keys.specs.declared.short_key.ShortKey.{ShortKey}

-- what stands for no key: the least i64
abbrev pub no_key : ShortKey
no_key = record { key = neg_ℤ (pos (2 ^ 63)) }

abbrev pub is_short : ShortKey → Bool
is_short k = not (int_eq k.key no_key.key)
