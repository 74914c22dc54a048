-- The list where a trove is placed that had no place.
use Rattle.std.proofs.Common.{◌≡◌, ℕ, List, None, ap, sym, ◌∙◌}
use Rattle.liq_types.specs.declared.figures.Trove.{Trove}
use Rattle.liq_types.specs.Ranked.{Ranked, key_in, with_ranked}
use Rattle.liq_types.specs.Tables.{Table, at, put}
use Rattle.liq_troves.specs.Rows.{key_by}
use Rattle.liq_order.specs.Order.{order_by}
use Rattle.liq_order.proofs.Ranking.{unlisted, more_list}

pub not_listed : (table : Table Trove) (list : List Ranked) (account : ℕ) → list ≡ order_by table
    → at table account ≡ None → key_in list account ≡ None
not_listed table list account is absent = ap (λ (l : List Ranked). key_in l account) is ∙ unlisted table account absent

pub placed_list : (old new : Table Trove) (before after : List Ranked) (account : ℕ) (row : Trove)
    → at old account ≡ None → before ≡ order_by old → after ≡ with_ranked before (key_by row, account)
    → new ≡ put old account row → after ≡ order_by new
placed_list old new before after account row absent was is made =
    is
    ∙ ap (λ (l : List Ranked). with_ranked l (key_by row, account)) was
    ∙ sym (more_list old account row absent)
    ∙ ap (λ (t : Table Trove). order_by t) (sym made)
