use Rattle.std.proofs.Common.{ℕ, List, ap, ◌∙◌, arith, map, Vec, Global}
use Rattle.liq_tables.specs.Pages.{place}
use Rattle.liq_tables.proofs.Numbers.{place-pushed}
use Rattle.liq_tables.proofs.places.Places.reach.Goals as goal

abbrev items : Vec ℕ Global → List ℕ
items page = page.items

pub loop-self-preserved : goal.loop-self-preserved
loop-self-preserved c = (
  λ k.
      ap (λ (l : List (Vec ℕ Global)). place (map items l) k) c.in-Ok.ensures.items
      ∙ place-pushed items c.loop-self.self-inside.pages.items c.new-page.result c.new-page.ensures.items k
      ∙ c.loop-self.invariant.0 k,
  omega (arith, c.in-Ok.ensures.len, c.loop-self-test.true, c.len.ensures, c.requires.few),
)

pub invariant_of-self : goal.invariant_of-self
invariant_of-self c = c.loop-self.invariant.1
