use Rattle.std.proofs.Common.{ap, sym, ◌∙◌, ◌++◌, List}
use Rattle.liq_types.specs.declared.events.ListChange.{ListChange}
use Rattle.liq_types.specs.Ranked.{Ranked}
use Rattle.liq_list_index.specs.Followed.{all_listed, hint_of_last}
use Rattle.liq_core_hinted.proofs.Listing.{followed_on}
use Rattle.liq_core_hinted.proofs.list_guide.ListGuide.follow.Goals as goal

pub returns-in-Ok-clause-same : goal.returns-in-Ok-clause-same
returns-in-Ok-clause-same c fresh =
    followed_on c.catch_up.new.self.guide c.follow.new.self c.args.changes.now c.in-Ok.ensures.list
    ∙ ap (λ (l : List Ranked). all_listed l c.args.changes.now) c.in_ok-catch_up.ensures.ok.0
    ∙ ap (all_listed c.args.protocol.now.list)
    (sym (c.in_ok-extend_from_slice.ensures.items
    ∙ ap (λ (cs : List ListChange). cs ++ c.args.changes.now) c.in_ok-catch_up.ensures.ok.1))

pub returns-in-Ok-clause-exact : goal.returns-in-Ok-clause-exact
returns-in-Ok-clause-exact c =
    c.hint.ensures
    ∙ ap (λ (l : List Ranked). hint_of_last l c.args.changes.now)
    (followed_on c.catch_up.new.self.guide c.follow.new.self c.args.changes.now c.in-Ok.ensures.list
    ∙ ap (λ (l : List Ranked). all_listed l c.args.changes.now) c.in_ok-catch_up.ensures.ok.0)
