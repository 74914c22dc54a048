use Rattle.std.proofs.Common.{◌≡◌, ℕ, List, ◌/◌, ◌%◌, ap, ◌∙◌, sym, arith, refl, subst, map, set, Vec, Global}
use Rattle.std.specs.Vec.{with_item}
use Rattle.std.proofs.lemmas.List.{length-map}
use Rattle.liq_tables.specs.Pages.{place, HasPage}
use Rattle.liq_tables.specs.declared.places.TheConstants.{KEYS}
use Rattle.liq_tables.proofs.Numbers.{place-written, place-other, page_there, numbered, numbered-through}
use Rattle.liq_tables.proofs.places.Places.write.Goals as goal

abbrev items : Vec ℕ Global → List ℕ
items page = page.items

has : (c : goal.After-self-1) → HasPage (map items c.self.inside.pages.items) c.args.key
has c = subst (λ t. HasPage t c.args.key) (sym c.self.view_is) c.requires

new : (c : goal.After-self-1)
    → map items (set c.self.inside.pages.items (c.args.key / KEYS) (with_item c.index_mut-page.result.now
    (c.args.key % KEYS) c.args.number)) ≡ numbered (map items c.self.inside.pages.items) c.args.key c.args.number
new c =
    numbered-through items c.self.inside.pages.items c.args.key c.args.number c.index_mut-page.result.now
    (with_item c.index_mut-page.result.now (c.args.key % KEYS) c.args.number)
    (omega (
      arith,
      page_there (map items c.self.inside.pages.items) c.args.key (has c),
      length-map c.self.inside.pages.items items,
    )) c.index_mut-page.ensures.value refl

pub returns-clause-written : goal.returns-clause-written
returns-clause-written c =
    ap (λ t. place t c.args.key) (new c) ∙ place-written (map items c.self.inside.pages.items) c.args.key
    c.args.number (has c)

pub returns-clause-others : goal.returns-clause-others
returns-clause-others c k apart =
    ap (λ t. place t k) (new c) ∙ place-other (map items c.self.inside.pages.items) c.args.key c.args.number
    (has c) k apart
    ∙ ap (λ t. place t k) c.self.view_is
