-- What is told of the troves that a redemption cuts.
use Rattle.std.proofs.Common.{◌≡◌, ℕ, ◌+◌, ◌-◌, Bool, true, false, cond, List, [], ◌∷◌, length, take, refl, ap, sym, ◌∙◌, Some, None, Option}
use Rattle.std.specs.Prelude.{◌==◌, fold, map, option_map, sum_by}
use Rattle.std.specs.List.{AllByRecursion}
use Rattle.liq_types.specs.declared.events.ListChange.{ListChange}
use Rattle.liq_types.specs.declared.events.ListChange.TheVariants.{Put, Gone}
use Rattle.liq_types.specs.declared.figures.Trove.{Trove}
use Rattle.liq_types.specs.declared.image.Image.{Image}
use Rattle.liq_types.specs.State.{State, TroveEntry, Redistribution}
use Rattle.liq_types.specs.Tables.{Table, at}
use Rattle.liq_types.specs.Totals.{market_of, or_nothing, trove_count}
use Rattle.liq_types.specs.WellFormed.{Ascends}
use Rattle.liq_troves.specs.Own.{lifted_entry, lifted, set_trove}
use Rattle.liq_troves.specs.Rows.{key_by, set_row, stake_by, pending}
use Rattle.liq_troves.specs.StakeSums.{coll_growth, debt_growth, entire_of, sums_words, trove_rows}
use Rattle.liq_redemption.specs.declared.cut.Cut.{Cut}
use Rattle.liq_redemption.specs.Redemption.{Visit, cuts, cut_of, cuts_in, stops_before, troves_after, visited, redeeming_terms, cut_entire, cut_down, closed_by, redeemed_by}
use Rattle.liq_rule_step.specs.ListChanges.{stands}
use Rattle.liq_rule_step.specs.Redemption.{cut_told}
use Rattle.liq_rule_sound.specs.SoundState.{CutIsCovered}
use Rattle.liq_rule_step.proofs.AlikeFollowed.{told, stands-image}
use Rattle.liq_rule_step.proofs.Ascending.{Ordered, cut_entire-ascends}
use Rattle.liq_rule_step.proofs.Following.{IsAway, accounts_of, all_cut_changes, cut_changes_entire, lifted-troves, troves-ascend}
use Rattle.liq_core.proofs.Reading.{set_told}
use Rattle.liq_rule_step.proofs.Rows.{differ, at-without_same}
use Rattle.liq_rule_sound.proofs.SoundFacts.{Finds, in_order}
use Rattle.liq_rule_sound.proofs.SoundRedeem.{IsOther, AreVisits, visited_are, cuts_covered}

-- ---- no trove is cut twice

abbrev AreApart : List Cut → Type 0
AreApart [] = Unit {0}
AreApart (cut ∷ more) = AllByRecursion (λ (d : Cut). IsOther cut.account d.account) more × AreApart more

cuts_all : (P : ℕ → Type 0) (price : ℕ) (vs : List Visit) (troves wanted : ℕ)
    → AllByRecursion (λ (v : Visit). P v.account) vs
    → AllByRecursion (λ (c : Cut). P c.account) (cuts price troves wanted vs)
cuts_all P price [] troves wanted h = tt
cuts_all P price (v ∷ vs) troves wanted h = by (wanted == 0) (stops_before v (cut_of price v wanted) troves)
    (cuts_all P price vs (troves_after (cut_of price v wanted) troves) (wanted - (cut_of price v wanted).lot) h.1) where
      by : (done stops : Bool)
          → AllByRecursion (λ (c : Cut). P c.account) (cuts price (troves_after (cut_of price v wanted) troves)
          (wanted - (cut_of price v wanted).lot) vs)
          → AllByRecursion (λ (c : Cut). P c.account) (cond done [] (cond stops [] (cut_of price v wanted
          ∷ cuts price (troves_after (cut_of price v wanted) troves) (wanted - (cut_of price v wanted).lot) vs)))
      by true stops later = tt
      by false true later = tt
      by false false later = (h.0, later)

cuts_apart : (s : State) (price : ℕ) (vs : List Visit) (troves wanted : ℕ) → AreVisits s price vs
    → AreApart (cuts price troves wanted vs)
cuts_apart s price [] troves wanted h = tt
cuts_apart s price (v ∷ vs) troves wanted h = by (wanted == 0) (stops_before v (cut_of price v wanted) troves)
    (cuts_all (IsOther v.account) price vs (troves_after (cut_of price v wanted) troves)
    (wanted - (cut_of price v wanted).lot) h.1) (cuts_apart s price vs (troves_after (cut_of price v wanted) troves)
    (wanted - (cut_of price v wanted).lot) h.2) where
      by : (done stops : Bool) → AllByRecursion (λ (c : Cut). IsOther v.account c.account)
          (cuts price (troves_after (cut_of price v wanted) troves) (wanted - (cut_of price v wanted).lot) vs)
          → AreApart
          (cuts price (troves_after (cut_of price v wanted) troves) (wanted - (cut_of price v wanted).lot) vs)
          → AreApart (cond done [] (cond stops [] (cut_of price v wanted
          ∷ cuts price (troves_after (cut_of price v wanted) troves) (wanted - (cut_of price v wanted).lot) vs)))
      by true stops others later = tt
      by false true others later = tt
      by false false others later = (others, later)

-- ---- what cuts leave of the sums

record SameSums (s t : State) : Type 0 where
  start : t.start ≡ s.start
  redistributions : t.redistributions ≡ s.redistributions
  snap_stakes : t.snap_stakes ≡ s.snap_stakes
  snap_coll : t.snap_coll ≡ s.snap_coll

lifted_sums : (s : State) (account : ℕ) (o : Option TroveEntry) → SameSums s (lifted_entry s account o)
lifted_sums s account None = record { start = refl; redistributions = refl; snap_stakes = refl; snap_coll = refl }
lifted_sums s account (Some t) = record { start = refl; redistributions = refl; snap_stakes = refl; snap_coll = refl }

cut_sums : (s : State) (cut : Cut) (o : Option (ℕ × ℕ)) → SameSums s (cut_entire s cut o)
cut_sums s cut None = record { start = refl; redistributions = refl; snap_stakes = refl; snap_coll = refl }
cut_sums s cut (Some own) = by cut.full (lifted_sums s cut.account (at s.troves cut.account)) where
  by : (b : Bool) → SameSums s (lifted s cut.account)
      → SameSums s (cond b (closed_by s cut own) (set_trove s cut.account (own.0 - cut.draw) (own.1 - cut.lot)))
  by true h = record {
    start = h.start;
    redistributions = h.redistributions;
    snap_stakes = h.snap_stakes;
    snap_coll = h.snap_coll;
  }
  by false h = record {
    start = h.start;
    redistributions = h.redistributions;
    snap_stakes = h.snap_stakes;
    snap_coll = h.snap_coll;
  }

sums_then : (r s t : State) → SameSums r s → SameSums s t → SameSums r t
sums_then r s t a b =
    record {
      start = b.start ∙ a.start;
      redistributions = b.redistributions ∙ a.redistributions;
      snap_stakes = b.snap_stakes ∙ a.snap_stakes;
      snap_coll = b.snap_coll ∙ a.snap_coll;
    }

-- the row that an own operation writes, and a trove's entire amounts, from the image and the redistributions on which
-- the sums rest
abbrev row_by : Image → List Redistribution → ℕ → ℕ → ℕ → ℕ → Trove
row_by i rs snap_stakes snap_coll coll debt =
    record {
      coll = coll;
      debt = debt;
      stake = stake_by snap_stakes snap_coll coll;
      mark_coll = i.sum_coll + sum_by coll_growth (take (length rs) rs);
      mark_debt = i.sum_debt + sum_by debt_growth (take (length rs) rs);
    }

row_same : (s t : State) → SameSums s t → (coll debt : ℕ) → set_row (sums_words t) coll debt
    ≡ set_row (sums_words s) coll debt
row_same s t h coll debt =
    ap (λ (i : Image). row_by i t.redistributions t.snap_stakes t.snap_coll coll debt) h.start
    ∙ ap (λ (rs : List Redistribution). row_by s.start rs t.snap_stakes t.snap_coll coll debt) h.redistributions
    ∙ ap (λ n. row_by s.start s.redistributions n t.snap_coll coll debt) h.snap_stakes
    ∙ ap (λ n. row_by s.start s.redistributions s.snap_stakes n coll debt) h.snap_coll

abbrev own_by : Image → List Redistribution → Trove → ℕ × ℕ
own_by i rs t = (
  t.coll + pending t.stake (i.sum_coll + sum_by coll_growth (take (length rs) rs)) t.mark_coll,
  t.debt + pending t.stake (i.sum_debt + sum_by debt_growth (take (length rs) rs)) t.mark_debt,
)

entire_same : (s t : State) → SameSums s t → (account : ℕ) → at (trove_rows t) account ≡ at (trove_rows s) account
    → entire_of t account ≡ entire_of s account
entire_same s t h account row =
    ap (λ (i : Image). option_map (own_by i t.redistributions) (at (trove_rows t) account)) h.start
    ∙ ap (λ (rs : List Redistribution). option_map (own_by s.start rs) (at (trove_rows t) account)) h.redistributions
    ∙ ap (option_map (own_by s.start s.redistributions)) row

-- ---- a single cut

told_here : (s t : State) (cut : Cut) → SameSums s t → Ascends t.troves → at (trove_rows t) cut.account
    ≡ at (trove_rows s) cut.account → CutIsCovered s cut
    → told cut.account (at (trove_rows (cut_down t cut)) cut.account) ≡ cut_told s cut
told_here s t cut h asc row covered =
    let account = cut.account in
    let own = covered.own in
    let there : entire_of t account ≡ Some own = entire_same s t h account row ∙ covered.entire_is in
    ap (λ (o : Option (ℕ × ℕ)). told account (at (trove_rows (cut_entire t cut o)) account)) there ∙ by cut.full
  where
    by : (b : Bool)
        → told cut.account
        (at (trove_rows (cond b (closed_by t cut covered.own) (set_trove t cut.account (covered.own.0 - cut.draw)
        (covered.own.1 - cut.lot)))) cut.account)
        ≡ cond b (Gone cut.account) (Put (key_by (set_row (sums_words s) ((or_nothing (entire_of s cut.account)).0
        - cut.draw) ((or_nothing (entire_of s cut.account)).1 - cut.lot))) cut.account)
    by true =
        ap (λ (T : Table Trove). told cut.account (at T cut.account)) (lifted-troves t cut.account asc)
        ∙ ap (told cut.account) (at-without_same (trove_rows t) cut.account (troves-ascend t asc))
    by false =
        let account = cut.account in
        let own = covered.own in
        let same : or_nothing (entire_of s account) ≡ own = ap or_nothing covered.entire_is in
        sym (stands-image (set_trove t account (own.0 - cut.draw) (own.1 - cut.lot)) account)
        ∙ sym (set_told t account (own.0 - cut.draw) (own.1 - cut.lot))
        ∙ ap (λ (r : Trove). Put (key_by r) account) (row_same s t h (own.0 - cut.draw) (own.1 - cut.lot))
        ∙ ap (λ (o : ℕ × ℕ). Put (key_by (set_row (sums_words s) (o.0 - cut.draw) (o.1 - cut.lot))) account) (sym same)

-- ---- all of them

abbrev RowsSame : State → State → List Cut → Type 0
RowsSame s t made = AllByRecursion (λ (c : Cut). at (trove_rows t) c.account ≡ at (trove_rows s) c.account) made

all_other : (account : ℕ) (made : List Cut) → AllByRecursion (λ (d : Cut). IsOther account d.account) made
    → IsAway account (accounts_of made)
all_other account [] h = tt
all_other account (cut ∷ made) h = (differ account cut.account h.0, all_other account made h.1)

-- the rows of other accounts stay
rows_stay : (s t : State) (cut : Cut) (made : List Cut) → Ascends t.troves
    → AllByRecursion (λ (d : Cut). IsOther cut.account d.account) made → RowsSame s t made
    → RowsSame s (cut_down t cut) made
rows_stay s t cut [] asc apart h = tt
rows_stay s t cut (d ∷ made) asc apart h = (
  (cut_changes_entire t cut asc (entire_of t cut.account)).others d.account (
    λ e. differ cut.account d.account apart.0
        (sym e),
    tt,
  ) ∙ h.0,
  rows_stay s t cut made asc apart.1 h.1,
)

told_all : (made : List Cut) (s t : State) → Ordered t → SameSums s t → AllByRecursion (CutIsCovered s) made
    → AreApart made → RowsSame s t made
    → map (λ (c : Cut). told c.account (at (trove_rows (fold cut_down t made)) c.account)) made ≡ map (cut_told s) made
told_all [] s t o h covered apart rows = refl
told_all (cut ∷ made) s t o h covered apart rows =
    let next = cut_down t cut in
    let last = fold cut_down next made in
    let ordered = cut_entire-ascends t cut (entire_of t cut.account) o in
    let kept = (all_cut_changes made next ordered).others cut.account (all_other cut.account made apart.0) in
    let here = ap (told cut.account) kept ∙ told_here s t cut h o.tables.1 rows.0 covered.0 in
    let sums = sums_then s t next h (cut_sums t cut (entire_of t cut.account)) in
    let later = told_all made s next ordered sums covered.1 apart.1 (rows_stay s t cut made o.tables.1 apart.0 rows.1)
    in
    ap (λ (c : ListChange). c ∷ map (λ (d : Cut). told d.account (at (trove_rows last) d.account)) made) here
    ∙ ap (λ (cs : List ListChange). cut_told s cut ∷ cs) later

rows_itself : (s : State) (made : List Cut) → RowsSame s s made
rows_itself s [] = tt
rows_itself s (cut ∷ made) = (refl, rows_itself s made)

pub redeem_told : (s : State) → Finds s → (account amount : ℕ) → map (cut_told s) (cuts_in s amount)
    ≡ map (λ (cut : Cut). stands (redeemed_by s account (redeeming_terms (market_of s) (visited s) amount)) cut.account)
    (cuts_in s amount)
redeem_told s f account amount =
    let next = redeemed_by s account (redeeming_terms (market_of s) (visited s) amount) in
    let made = cuts_in s amount in
    let sums : SameSums s s = record { start = refl; redistributions = refl; snap_stakes = refl; snap_coll = refl } in
    let all = told_all made s s (record { tables = in_order s f.stands }) sums (cuts_covered s f amount)
    (cuts_apart s s.price (visited s) (trove_count s) amount (visited_are s f.stands.troves.ascend))
    (rows_itself s made) in
    let shown : (λ (cut : Cut). stands next cut.account)
    ≡ (λ (cut : Cut). told cut.account (at (trove_rows next) cut.account)) =
    λ i cut. stands-image next cut.account i in
    sym (ap (λ (g : Cut → ListChange). map g made) shown ∙ all)
