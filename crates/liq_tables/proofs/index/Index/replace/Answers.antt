use Rattle.std.proofs.Common.{◌≡◌, ℕ, Option, Some, cond, ap, ◌∙◌, sym, refl, subst, set}
use Rattle.std.specs.Prelude.{is_some, option_map}
use Rattle.std.proofs.lemmas.Option.{slice_get_within}
use Rattle.liq_types.specs.Tables.{Table, at, put}
use Rattle.liq_types.specs.WellFormed.{Ascends}
use Rattle.liq_tables.specs.Pages.{place, entries}
use Rattle.liq_tables.proofs.Pages.{at-entries, at-index, ascends-entries, entries-set}
use Rattle.liq_tables.proofs.index.Index.replace.Goals as goal

pub returns-in_err-place-clause-before : goal.returns-in_err-place-clause-before
returns-in_err-place-clause-before g c =
    let read =
    at-index (λ x. x.now) c.get_mut.result c.self.inside.rows.items c.args.self.now c.self.inside.places
    c.self.inside.rows.items c.read.result c.args.key refl c.self.view_is c.self.invariant.few c.read.ensures
    c.get_mut.ensures.item.0 c.get_mut.ensures.item.1 in
    c.from_residual.ensures ∙ sym (sym read ∙ ap (option_map (λ x. x.now)) c.in_err-place.was)

pub returns-in_err-place-clause-rows : goal.returns-in_err-place-clause-rows
returns-in_err-place-clause-rows g c =
    let read =
    at-index (λ x. x.now) c.get_mut.result c.self.inside.rows.items c.args.self.now c.self.inside.places
    c.self.inside.rows.items c.read.result c.args.key refl c.self.view_is c.self.invariant.few c.read.ensures
    c.get_mut.ensures.item.0 c.get_mut.ensures.item.1 in
    c.self.view_is
    ∙ sym (ap (λ (o : Option g.row.X.Denot). cond (is_some o) (put c.args.self.now c.args.key c.args.row)
    c.args.self.now) (sym read ∙ ap (option_map (λ x. x.now)) c.in_err-place.was))

pub returns-in_err-place-clause-ascend : goal.returns-in_err-place-clause-ascend
returns-in_err-place-clause-ascend g c =
    subst (λ (t : Table g.row.X.Denot). Ascends t) c.self.view_is
    (ascends-entries c.self.inside.places c.self.inside.rows.items)

pub returns-clause-before : goal.returns-clause-before
returns-clause-before g c =
    let read =
    at-index (λ x. x.now) c.get_mut.result c.self.inside.rows.items c.args.self.now c.self.inside.places
    c.self.inside.rows.items c.read.result c.args.key refl c.self.view_is c.self.invariant.few c.read.ensures
    c.get_mut.ensures.item.0 c.get_mut.ensures.item.1 in
    sym (sym read ∙ ap (option_map (λ x. x.now)) c.in_ok-place.was)

pub returns-clause-rows : goal.returns-clause-rows
returns-clause-rows g c =
    let rows = c.self.inside.rows.items in
    let read =
    at-index (λ x. x.now) c.get_mut.result rows c.args.self.now c.self.inside.places rows c.read.result c.args.key refl
    c.self.view_is c.self.invariant.few c.read.ensures c.get_mut.ensures.item.0 c.get_mut.ensures.item.1 in
    let some : at c.args.self.now c.args.key ≡ Some c.in_ok-place.place.now = sym read
    ∙ ap (option_map (λ x. x.now)) c.in_ok-place.was in
    let there =
    slice_get_within rows (place c.self.inside.places c.args.key) c.in_ok-place.place.now
    (sym (at-entries c.self.inside.places rows c.self.invariant.few c.args.key)
    ∙ ap (λ (t : Table g.row.X.Denot). at t c.args.key) c.self.view_is ∙ some) in
    ap (λ (n : ℕ). entries c.self.inside.places (set rows n c.args.row)) c.read.ensures
    ∙ entries-set c.self.inside.places rows c.args.key c.args.row c.self.invariant there
    ∙ ap (λ (t : Table g.row.X.Denot). put t c.args.key c.args.row) c.self.view_is
    ∙ sym (ap (λ (o : Option g.row.X.Denot). cond (is_some o) (put c.args.self.now c.args.key c.args.row)
    c.args.self.now) some)

pub returns-clause-ascend : goal.returns-clause-ascend
returns-clause-ascend g c =
    subst (λ (t : Table g.row.X.Denot). Ascends t) c.self.view_is
    (ascends-entries c.self.inside.places c.self.inside.rows.items)
