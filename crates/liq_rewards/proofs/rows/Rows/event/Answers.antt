use Rattle.std.proofs.Common.{◌≡◌, ℕ, sym, ap, ◌∙◌, map, true, arith}
use Rattle.std.specs.Prelude.{◌&&◌, ◌==◌}
use Rattle.std.proofs.lemmas.Bool.Decides.{nat_tests}
use Rattle.liq_rewards.specs.Rows.{Counted, all_now}
use Rattle.liq_rewards.specs.Earner.{earner_after}
use Rattle.liq_rewards.proofs.Finding.{offset_changes}
use Rattle.liq_rewards.proofs.rows.Rows.event.Goals as goal

both : (a b c d : ℕ) → ((a == b) && (c == d)) ≡ true → (a ≡ b) × (c ≡ d)
both a b c d h = (grind (arith, nat_tests, h), grind (arith, nat_tests, h))

pub returns-in-Offset : goal.returns-in-Offset
returns-in-Offset c =
    offset_changes c.args.words.now c.args.next.now c.args.sharing c.args.event.now c.self-in-Offset.inside.offsets
    c.self-in-Offset.inside.rows.items c.in-Offset.debt c.in-Offset.coll c.in-Offset.total c.in-Offset.rise
    c.self-in-Offset.invariant.counted (sym c.is_some.ensures ∙ c.if-is_some.false)
    (both c.args.next.now.epoch c.args.words.now.epoch c.args.next.now.scale c.args.words.now.scale
    (sym c.eq-stays.ensures ∙ c.if-not-stays.false)) c.in-Offset.is
    ∙ ap (λ (v : Counted). map (earner_after c.args.words.now c.args.sharing c.args.event.now)
    (all_now c.args.words.now v)) c.self-in-Offset.view_is
