use Rattle.std.proofs.Common.{rules, sym, ap, arith}
use Rattle.std.specs.Prelude.{unwrap_or}
use Rattle.std.proofs.lemmas.List.Sorted.{answers_always}
use Rattle.liq_types.specs.Product.{is_place}
use Rattle.liq_types.specs.Tables.{EpochScale}
use Rattle.liq_types.proofs.Places.{order-place}
use Rattle.liq_image_rows.proofs.Places.{place_order_total, key, sum, no_sum}
use Rattle.liq_image_rows.proofs.Searching.{found, not_found}
use Rattle.liq_image_rows.proofs.finished.find.Goals as goal

pub returns-in-Ok : goal.returns-in-Ok
returns-in-Ok c =
    let place : EpochScale = (c.args.epoch, c.args.scale) in
    let by_key = c.in-Ok.ensures.position key (answers_always _ _ _ (λ f a r g called. search rules)) in
    ap (λ o. unwrap_or o 0)
    (sym (found place_order_total key sum place (is_place place) (λ q. sym (order-place place q)) c.args.finished.now
    c.in-Ok.at no_sum c.requires (omega (arith, c.in-Ok.ensures.bound)) (by_key no_sum)))

pub returns-in-Err : goal.returns-in-Err
returns-in-Err c =
    let place : EpochScale = (c.args.epoch, c.args.scale) in
    let by_key = c.in-Err.ensures.position key (answers_always _ _ _ (λ f a r g called. search rules)) in
    ap (λ o. unwrap_or o 0)
    (sym (not_found place_order_total key sum place (is_place place) (λ q. sym (order-place place q))
    c.args.finished.now c.in-Err.field-0 c.requires by_key))
