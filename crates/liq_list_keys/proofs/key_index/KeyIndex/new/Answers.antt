use Rattle.std.proofs.Common.{ap, None}
use Rattle.liq_types.specs.Tables.{Table, at}
use Rattle.liq_list_keys.specs.declared.short_key.ShortKey.{ShortKey}
use Rattle.liq_list_keys.specs.declared.key_index.AccountKey.{AccountKey}
use Rattle.liq_list_keys.proofs.Moving.{found}
use Rattle.liq_list_keys.proofs.key_index.KeyIndex.new.Goals as goal

pub returns : goal.returns
returns c a =
    found (record { kept = c.new.result.rows; apart = c.new-2.result.entries }) a None None
    (ap (λ (t : Table ShortKey). at t a) c.new.ensures) (ap (λ (t : Table AccountKey). at t a) c.new-2.ensures.empty)
