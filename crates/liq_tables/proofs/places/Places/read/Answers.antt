use Rattle.std.proofs.Common.{◌≡◌, ℕ, List, ◌<◌, ◌/◌, ◌%◌, ap, ◌∙◌, sym, arith, get_or, length, map, Vec, Global}
use Rattle.std.proofs.lemmas.List.{get_or_past}
use Rattle.liq_tables.specs.Pages.{place}
use Rattle.liq_tables.specs.declared.places.TheConstants.{KEYS, NONE}
use Rattle.liq_tables.proofs.Numbers.{place-past, place-in}
use Rattle.liq_tables.proofs.places.Places.read.Goals as goal

abbrev items : Vec ℕ Global → List ℕ
items page = page.items

pub returns-in_default : goal.returns-in_default
returns-in_default c =
    sym (ap (λ t. place t c.args.key) (sym c.self.view_is)
    ∙ place-past items c.self.inside.pages.items c.args.key (omega (
      arith,
      c.in_default.ensures.lookup.3,
      ap length c.deref.ensures.value,
    )))

-- the page is where the key's place is read
paged : (table : List (List ℕ)) (pages seen : List (Vec ℕ Global)) (key : ℕ) (page : Vec ℕ Global)
    → map items pages ≡ table → seen ≡ pages → key / KEYS < length seen → page ≡ get_or seen (key / KEYS) page
    → place table key ≡ get_or page.items (key % KEYS) NONE
paged table pages seen key page view same less read =
    ap (λ t. place t key) (sym view)
    ∙ place-in items pages key page (omega (arith, less, ap length same)) (read
    ∙ ap (λ (l : List (Vec ℕ Global)). get_or l (key / KEYS) page) same)

pub returns-in-Some-get : goal.returns-in-Some-get
returns-in-Some-get c =
    c.in-Some-get.ensures.lookup.3.1 NONE
    ∙ ap (λ (l : List ℕ). get_or l (c.args.key % KEYS) NONE) c.deref-2.ensures.value
    ∙ sym (paged c.args.self.now c.self.inside.pages.items c.deref.result.now c.args.key c.in-Some.page.now
    c.self.view_is c.deref.ensures.value c.in-Some.ensures.lookup.3.0 c.in-Some.ensures.lookup.1)

pub returns-in-None : goal.returns-in-None
returns-in-None c =
    sym (paged c.args.self.now c.self.inside.pages.items c.deref.result.now c.args.key c.in-Some.page.now c.self.view_is
    c.deref.ensures.value c.in-Some.ensures.lookup.3.0 c.in-Some.ensures.lookup.1
    ∙ get_or_past c.in-Some.page.now.items (c.args.key % KEYS) NONE (omega (
      arith,
      c.in-None.ensures.lookup.3,
      ap length c.deref-2.ensures.value,
    )))
