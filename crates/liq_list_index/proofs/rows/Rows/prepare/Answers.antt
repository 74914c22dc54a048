use Rattle.std.proofs.Common.{sym, ap, ◌∙◌, subst, refl}
use Rattle.std.specs.Prelude.{is_ok, not}
use Rattle.liq_list_keys.specs.Parts.{Parts}
use Rattle.liq_list_index.specs.Rows.{AreSettledBeside, Holds, key_at, next_at, side_at}
use Rattle.liq_list_keys.specs.declared.key_index.AccountKey.{AccountKey}
use Rattle.liq_list_index.proofs.Holding.{begun_again}
use Rattle.liq_list_index.proofs.Stands.{prepared}
use Rattle.liq_list_index.proofs.rows.Rows.prepare.Goals as goal

pub returns-clause-holds : goal.returns-clause-holds
returns-clause-holds c rest h =
    let old = c.args.self.now.stands in
    let stands = c.aim.new.self.stands in
    let beside : AreSettledBeside stands c.args.changes.now =
    λ a out. ap (λ (s : AccountKey). s.next) (c.aim.ensures.others a out) ∙ rest a refl ∙ sym (c.aim.ensures.key a) in
    let aimed = begun_again (key_at old) (next_at old) (key_at stands) (next_at stands) c.args.self.now.places
    (λ a. rest a refl) c.aim.ensures.key h in
    let here = subst (Holds (key_at stands) (next_at stands)) (sym c.aim.ensures.places) aimed in
    subst (λ (t : Parts). Holds (side_at (is_ok c.enter.result) t) (side_at (not (is_ok c.enter.result)) t)
    c.enter.new.self.places) (sym c.enter.ensures.stands)
    (prepared c.enter.result stands c.aim.new.self.places c.enter.new.self.places c.args.changes.now beside
    (c.enter.ensures.holds here) (c.enter.ensures.entered here))
