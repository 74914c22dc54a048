-- What a header leads to.
use Rattle.std.proofs.Common.{◌≡◌, ℕ, ◌<◌, ◌≤◌, List, length, get_or, None, Bool, true, false, if◌then◌else◌, refl, sym, ◌∙◌, ap, subst, arith}
use Rattle.std.specs.Prelude.{◌&&◌, ◌==◌, nat_lt, nat_le}
use Rattle.std.specs.Str.{bytes_eq}
use Rattle.std.proofs.lemmas.Bool.Decides.{nat_tests}
use Rattle.liq_types.specs.declared.amounts.TheConstants.{LIM, LIM_OF_VERSION_1}
use Rattle.liq_types.specs.State.{opening, opening_with}
use Rattle.liq_journal.specs.declared.damage.Damage.{Damage}
use Rattle.liq_disk_header.specs.Layout.{generation_on, header_size, layout_on, name_on, version_1}
use Rattle.liq_journal.specs.Written.{first_fault, header_tests}
use Rattle.liq_disk_pair.specs.Pair.{Holding, standing}
use Rattle.liq_disk_pair.proofs.Basing.{ends_in, outcome_first}
use Rattle.liq_disk_pair.proofs.Replaying.{replay_none}
use Rattle.liq_disk_pair.proofs.Standings.{standing_damaged}
use Rattle.liq_follower.specs.Fed.{AreDamagedAt, EndsWhole, LeadTo, begun_limit, fed, has_header, is_turned}
use Rattle.liq_follower.proofs.Found.{turned_by}
use Rattle.liq_follower.proofs.Fronts.{fed_behind}
use Rattle.liq_follower.proofs.Headed as headed

-- bytes without a whole header stand for the opening
pub no_header : (bytes : List ℕ) → has_header bytes ≡ false → LeadTo bytes (opening_with (begun_limit bytes))
unfolding fed
no_header bytes none = (
  turned_by bytes
      ∙ ap (λ (b : Bool). b && (bytes_eq (name_on bytes) (layout_on bytes).name && nat_lt 1
      (generation_on bytes))) none,
  ap (λ (b : Bool). if b then standing true bytes else Holding 1 (opening_with (begun_limit bytes))) none,
)

-- fewer bytes than those of a header hold none
pub too_short : (gate n m : ℕ) → m < n → ((gate == 1) && nat_le n m) ≡ false
too_short gate n m less = grind (arith, nat_tests)

isnt_one : (gate : ℕ) → (gate ≡ 1 → ⊥) → (gate == 1) ≡ false
isnt_one gate isnt = grind (arith, nat_tests)

pub shut_leads : (bytes : List ℕ) → (get_or bytes 0 0 ≡ 1 → ⊥) → LeadTo bytes opening
shut_leads bytes isnt =
    let shut = isnt_one (get_or bytes 0 0) isnt in
    let none : has_header bytes ≡ false = ap (λ (b : Bool). b && nat_le (header_size (layout_on bytes))
    (length bytes)) shut in
    let limit : begun_limit bytes ≡ LIM = ap (λ (b : Bool). if b && bytes_eq (name_on bytes) version_1.name
    then LIM_OF_VERSION_1 else LIM) shut in
    subst (λ (n : ℕ). LeadTo bytes (opening_with n)) limit (no_header bytes none)

module _ (bytes : List ℕ) (gate : get_or bytes 0 0 ≡ 1) (whole : length bytes ≡ header_size (layout_on bytes)) where
  pub wrong : (first_fault (header_tests (layout_on bytes) true bytes) ≡ None → ⊥) → (is_turned bytes ≡ true → ⊥)
      → AreDamagedAt 0 bytes
  wrong isnt none =
      let found = headed.found_wrong bytes gate whole isnt in
      let damage : Damage = record { index = 0; what = found.0 } in (
        is_false (is_turned bytes) none,
        (damage, fed_behind bytes (headed.has bytes gate whole) ∙ standing_damaged true bytes damage found.1, refl),
      )
    where
      is_false : (b : Bool) → (b ≡ true → ⊥) → b ≡ false
      is_false true is = absurd (is refl)
      is_false false is = refl

  pub whole_header : first_fault (header_tests (layout_on bytes) true bytes) ≡ None → generation_on bytes ≡ 1
      → EndsWhole bytes (opening_with (begun_limit bytes))
  whole_header right first =
      let name = headed.name bytes gate whole right first in
      let w = headed.written bytes gate whole right first in
      record {
        written = w;
        found = headed.found_right bytes gate whole right first;
        first = refl;
        came = outcome_first w refl ∙ replay_none 1 (opening_with (layout_on bytes).limit)
            ∙ ap (λ (n : ℕ). ends_in (opening_with n)) (sym name.limit);
        counted = refl;
        few = let most : 0 ≤ 1000000 = omega arith in most;
        ends = let l = ap header_size name.by_limit in omega arith;
      }
