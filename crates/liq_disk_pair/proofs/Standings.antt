-- What two disks stand for, by what each of them is.
use Rattle.std.proofs.Common.{◌≡◌, ℕ, ◌<◌, List, Result, Ok, Err, Bool, true, false, nat_lt, refl, sym, ◌∙◌, ap, arith, if◌then◌else◌}
use Rattle.std.proofs.lemmas.Bool.Decides.{nat_tests}
use Rattle.liq_types.specs.State.{State, opening}
use Rattle.liq_journal.specs.declared.damage.Damage.{Damage}
use Rattle.liq_journal.specs.Written.{Absent, Damaged, Open, Written, found_on}
use Rattle.liq_disk_pair.specs.declared.side.Side.{Side}
use Rattle.liq_disk_pair.specs.declared.side.Side.TheVariants.{Left, Right}
use Rattle.liq_disk_pair.specs.Pair.{Standing, Nothing, Faulty, Holding, pair_state, standing, standing_after, standing_of, state_on}
use Rattle.liq_disk_pair.specs.Replay.{outcome}
use Rattle.liq_disk_pair.specs.Sides.{beside, has_odd, on, other}

-- ---- one disk

pub standing_alike : (odd : Bool) (a b : List ℕ) → found_on odd a ≡ found_on odd b → standing odd a ≡ standing odd b
unfolding standing
standing_alike odd a b same = ap standing_of same

pub standing_absent : (odd : Bool) (bytes : List ℕ) → found_on odd bytes ≡ Absent → standing odd bytes ≡ Nothing
unfolding standing
standing_absent odd bytes found = ap standing_of found

pub standing_damaged : (odd : Bool) (bytes : List ℕ) (damage : Damage) → found_on odd bytes ≡ Damaged damage
    → standing odd bytes ≡ Faulty damage
unfolding standing
standing_damaged odd bytes damage found = ap standing_of found

pub standing_faulty : (odd : Bool) (bytes : List ℕ) (w : Written) (damage : Damage) → found_on odd bytes ≡ Open w
    → outcome w ≡ Err damage → standing odd bytes ≡ Faulty damage
unfolding standing
standing_faulty odd bytes w damage found came = ap standing_of found ∙ ap (standing_after w.generation) came

pub standing_open : (odd : Bool) (bytes : List ℕ) (w : Written) (s : State) → found_on odd bytes ≡ Open w
    → outcome w ≡ Ok s → standing odd bytes ≡ Holding w.generation s
unfolding standing
standing_open odd bytes w s found came = ap standing_of found ∙ ap (standing_after w.generation) came

-- ---- two

-- what is found on both decides it
pub state_alike : (l r a b : List ℕ) → found_on true a ≡ found_on true l → found_on false b ≡ found_on false r
    → state_on a b ≡ state_on l r
unfolding state_on
state_alike l r a b left right = λ i. pair_state (standing_alike true a l left i) (standing_alike false b r right i)

pub state_by : (l r : List ℕ) (left right : Standing) → standing true l ≡ left → standing false r ≡ right
    → state_on l r ≡ pair_state left right
unfolding state_on
state_by l r left right is_left is_right = λ i. pair_state (is_left i) (is_right i)

pub state_none : (l r : List ℕ) → found_on true l ≡ Absent → found_on false r ≡ Absent → state_on l r ≡ Ok opening
state_none l r left right = state_by l r Nothing Nothing (standing_absent true l left) (standing_absent false r right)

-- What the disk beside is: it holds no journal, or an undamaged one of a smaller generation.
pub data IsBehind (generation : ℕ) (standing : Standing) : Type 0 where
  nothing : standing ≡ Nothing → IsBehind generation standing
  older : (earlier : ℕ) (s : State) → earlier < generation → standing ≡ Holding earlier s → IsBehind generation standing

-- the state is that of the disk of this side, beside which none or an older one is
pub state_taken : (side : Side) (l r : List ℕ) (w : Written) (s : State) → found_on (has_odd side) (on side l r)
    ≡ Open w → outcome w ≡ Ok s
    → IsBehind w.generation (standing (has_odd (other side)) (beside side l r)) → state_on l r ≡ Ok s
state_taken Left l r w s found came (nothing is) = state_by l r (Holding w.generation s) Nothing
    (standing_open true l w s found came) is
state_taken Left l r w s found came (older earlier t less is) =
    state_by l r (Holding w.generation s) (Holding earlier t) (standing_open true l w s found came) is
    ∙ ap (λ (b : Bool). Ok (if b then t else s)) (not_less w.generation earlier less)
  where
    not_less : (n m : ℕ) → m < n → nat_lt n m ≡ false
    not_less n m less = grind (arith, nat_tests)
state_taken Right l r w s found came (nothing is) = state_by l r Nothing (Holding w.generation s) is
    (standing_open false r w s found came)
state_taken Right l r w s found came (older earlier t less is) =
    state_by l r (Holding earlier t) (Holding w.generation s) is (standing_open false r w s found came)
    ∙ ap (λ (b : Bool). Ok (if b then s else t)) (is_less earlier w.generation less)
  where
    is_less : (n m : ℕ) → n < m → nat_lt n m ≡ true
    is_less n m less = grind (arith, nat_tests)

-- ---- from the state back to the journal

abbrev pub pair_ends : State → Result State (Side × Damage)
pair_ends s = Ok s

abbrev replay_ends : State → Result State Damage
replay_ends s = Ok s

no_damage : (side : Side) (came : Result State Damage) (w : Written) (l r : List ℕ) (t : State) → outcome w ≡ came
    → found_on (has_odd side) (on side l r) ≡ Open w
    → IsBehind w.generation (standing (has_odd (other side)) (beside side l r)) → state_on l r ≡ Ok t → outcome w ≡ Ok t
no_damage side (Ok s) w l r t came found behind is =
    let both : pair_ends s ≡ Ok t = sym (state_taken side l r w s found came behind) ∙ is in
    let same : s ≡ t = cc (both) in
    came ∙ ap replay_ends same
no_damage Left (Err damage) w l r t came found behind is =
    let e = state_by l r (Faulty damage) (standing false r) (standing_faulty true l w damage found came) refl in
    absurd (let no = sym e ∙ is in cc (no))
no_damage Right (Err damage) w l r t came found (nothing none) is =
    let e = state_by l r Nothing (Faulty damage) none (standing_faulty false r w damage found came) in
    absurd (let no = sym e ∙ is in cc (no))
no_damage Right (Err damage) w l r t came found (older earlier s less holds) is =
    let e = state_by l r (Holding earlier s) (Faulty damage) holds (standing_faulty false r w damage found came) in
    absurd (let no = sym e ∙ is in cc (no))

-- the journal that is taken leads to the state for which the pair stands
pub outcome_taken : (side : Side) (l r : List ℕ) (w : Written) (t : State) → found_on (has_odd side) (on side l r)
    ≡ Open w
    → IsBehind w.generation (standing (has_odd (other side)) (beside side l r)) → state_on l r ≡ Ok t → outcome w ≡ Ok t
outcome_taken side l r w t found behind is = no_damage side (outcome w) w l r t refl found behind is
