use Rattle.std.proofs.Common.{ℕ, List, ◌<◌, ◌/◌, ap, ◌∙◌, arith, length, Vec, Global}
use Rattle.std.proofs.lemmas.List.{length-map}
use Rattle.std.proofs.lemmas.Result.{on_ok_weaker}
use Rattle.liq_tables.specs.Pages.{place}
use Rattle.liq_tables.specs.declared.places.TheConstants.{KEYS}
use Rattle.liq_tables.proofs.Numbers.{place-filled, page-filled}
use Rattle.liq_tables.proofs.places.Places.make_page.Goals as goal

abbrev items : Vec ℕ Global → List ℕ
items page = page.items

there : (c : goal.After-self-1) → c.args.key / KEYS < length c.self.inside.pages.items
there c = omega (
  arith,
  c.in_ok-reach.ensures.there,
  ap length c.self.view_is,
  length-map c.self.inside.pages.items items,
)

pub returns-clause-kept : goal.returns-clause-kept
returns-clause-kept c k =
    place-filled items c.self.inside.pages.items (c.args.key / KEYS) c.index_mut.result.now c.fill.new.page
    (there c) c.index_mut.ensures.value c.fill.ensures.kept k
    ∙ ap (λ t. place t k) c.self.view_is ∙ c.in_ok-reach.ensures.kept k

pub returns-clause-made : goal.returns-clause-made
returns-clause-made c =
    on_ok_weaker c.fill.result (λ long. page-filled items c.self.inside.pages.items c.args.key c.fill.new.page
    (there c) long) c.fill.ensures.filled
