use Rattle.std.proofs.Common.{◌≡◌, ℤ, Bool, true, false, cond, List, refl, Some, sym, ap, ◌∙◌, rules, Option}
use Rattle.std.proofs.lemmas.Cmp.{int_cmp_total, tied_itself}
use Rattle.std.proofs.lemmas.Int.{to_z-of_z}
use Rattle.std.specs.Ordering.{is_eq}
use Rattle.liq_types.specs.Ranked.{Ranked, rank_order}
use Rattle.liq_types.proofs.RankedLists.{rank_total}
use Rattle.liq_list_chunks.specs.Entries.{with_entry}
use Rattle.liq_list_chunks.proofs.Lists.{entered_ascending, on_ok}
use Rattle.liq_list_index.specs.Rows.{Holds, is_in, is_key, key_at, next_at}
use Rattle.liq_list_keys.specs.declared.key_index.AccountKey.{AccountKey}
use Rattle.liq_list_index.proofs.Parts.{either}
use Rattle.liq_list_index.proofs.Holding as holding
use Rattle.liq_list_index.proofs.Holding.{own_entry}
use Rattle.liq_list_index.proofs.Members.{entered_is_in}
use Rattle.liq_list_index.proofs.rows.Rows.enter_one.Goals as goal
use mir.Syntax.{w128}
use mir.Val.{SFits}

next_is : (c : goal.After-insert) → next_at c.args.self.now.stands c.args.account ≡ Some c.in-Some.place
next_is c = ap (λ (s : AccountKey). s.next) (sym c.account_key-key.ensures) ∙ c.in-Some.is

pub returns-in-Some-clause-holds : goal.returns-in-Some-clause-holds
returns-in-Some-clause-holds c h =
    let stands = c.args.self.now.stands in
    let places = c.args.self.now.places in
    let place = c.in-Some.place in
    let f : Ranked = (place, c.args.account) in
    let fits : SFits w128 place = search rules in
    let ok = simp to_z-of_z at c.insert.ensures.entered in
    let will : is_key (next_at stands c.args.account) place ≡ true = ap (λ (o : Option ℤ). is_key o place) (next_is c)
    ∙ ap is_eq (tied_itself int_cmp_total place) in
    either (Holds (key_at stands) (next_at stands)) c.insert.result places (with_entry places f) c.insert.new.self ok
    c.insert.ensures.err h
    (holding.entered (key_at stands) (next_at stands) places (with_entry places f) f
    (entered_ascending places f h.ascending) (λ e. entered_is_in places f e) will h)

pub returns-in-Some-clause-kept : goal.returns-in-Some-clause-kept
returns-in-Some-clause-kept c e there =
    let places = c.args.self.now.places in
    let f : Ranked = (c.in-Some.place, c.args.account) in
    let fits : SFits w128 c.in-Some.place = search rules in
    let ok = simp to_z-of_z at c.insert.ensures.entered in
    either (λ (l : List Ranked). is_in l e ≡ true) c.insert.result places (with_entry places f) c.insert.new.self ok
    c.insert.ensures.err there
    (entered_is_in places f e ∙ by (is_eq (rank_order f e))) where
      by : (b : Bool) → cond b true (is_in c.args.self.now.places e) ≡ true
      by true = refl
      by false = there

pub returns-in-Some-clause-entered : goal.returns-in-Some-clause-entered
returns-in-Some-clause-entered c h =
    let places = c.args.self.now.places in
    let f : Ranked = (c.in-Some.place, c.args.account) in
    let fits : SFits w128 c.in-Some.place = search rules in
    let ok = simp to_z-of_z at c.insert.ensures.entered in
    on_ok c.insert.result
    (λ (is : c.insert.new.self ≡ with_entry places f) (e : Ranked) own its. ap (λ (l : List Ranked). is_in l e) is
    ∙ entered_is_in places f e ∙ ap (λ o. cond (is_eq o) true (is_in places e)) (ap (λ (g : Ranked). rank_order g e)
    (own_entry (next_at c.args.self.now.stands) c.in-Some.place c.args.account e (next_is c) own its)
    ∙ tied_itself rank_total e))
    ok
