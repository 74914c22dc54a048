-- Fees that are shared one after the other: what they come to, and that all of it can happen.
use Rattle.std.proofs.Common.{◌≡◌, ℕ, ◌+◌, ◌<◌, ◌≤◌, Bool, true, false, cond, eqb, List, [], ◌∷◌, length, get_or, take, drop, refl, sym, ap, subst, ◌∙◌, arith}
use Rattle.std.specs.Prelude.{fold}
use Rattle.std.proofs.lemmas.Bool.{eqb-true}
use Rattle.std.proofs.lemmas.Bool.Decides.{nat_tests}
use Rattle.std.proofs.lemmas.List.{take-append-drop}
use Rattle.std.proofs.lemmas.List.Sums.{fold-append, fold_more, sum_by-cons}
use Rattle.liq_types.specs.declared.amounts.TheConstants.{LIM}
use Rattle.liq_fees.specs.Happened.{Happened, Fee, of_coll, of_lusd, staked_of, fees_of, changes_in, fees_in, AreStakedUpTo, IsLawful}
use Rattle.liq_fees.specs.Kept.{Kept, IsKeptOf}
use Rattle.liq_fees.specs.declared.changes.TheConstants.{STAKED_MOST, FEES_MOST}
use Rattle.liq_text_staking.specs.Paid.{Fees, coll_in, lusd_in}
use Rattle.liq_text_staking.specs.Asked.{shared}

-- ---- one fee

-- what a fee adds
record Adds (past : List Happened) (fee : Fees) (now : List Happened) : Type 0 where
  pub coll : fees_of of_coll now ≡ fees_of of_coll past + fee.0
  pub lusd : fees_of of_lusd now ≡ fees_of of_lusd past + fee.1
  pub few : fees_in now ≤ fees_in past + 1
  pub changes : changes_in now ≡ changes_in past

shared_adds : (past : List Happened) (fee : Fees) → Adds past fee (shared past fee)
shared_adds past fee = by (eqb (fee.0 + fee.1) 0) refl where
  by : (none : Bool) → eqb (fee.0 + fee.1) 0 ≡ none → Adds past fee (cond none past (Fee fee.0 fee.1 ∷ past))
  by true is =
      let zero : fee.0 + fee.1 ≡ 0 = eqb-true (fee.0 + fee.1) 0 is in
      record { coll = omega (arith, zero); lusd = omega (arith, zero); few = omega arith; changes = refl }
  by false is = record { coll = refl; lusd = refl; few = omega arith; changes = refl }

pub staked_least : (past : List Happened) → AreStakedUpTo STAKED_MOST past → staked_of past ≤ STAKED_MOST
staked_least [] h = omega arith
staked_least (e ∷ past) h = h.0

-- what was lawful before a fee is so behind it, if the fee is not too much
shared_lawful : (past : List Happened) (fee : Fees) → IsLawful past → fees_of of_coll past + fee.0 ≤ LIM
    → fees_of of_lusd past + fee.1 ≤ LIM → fees_in past + 1 ≤ FEES_MOST → IsLawful (shared past fee)
shared_lawful past fee h coll lusd few = by (eqb (fee.0 + fee.1) 0) where
  by : (none : Bool) → IsLawful (cond none past (Fee fee.0 fee.1 ∷ past))
  by true = h
  by false = record {
    covered = h.covered;
    staked = (staked_least past h.staked, h.staked);
    owners = h.owners;
    coll = coll;
    lusd = lusd;
    changes = h.changes;
    fees = few;
  }

-- and what is lawful behind it was so before
shared_before : (past : List Happened) (fee : Fees) → IsLawful (shared past fee) → IsLawful past
shared_before past fee = by (eqb (fee.0 + fee.1) 0) where
  by : (none : Bool) → IsLawful (cond none past (Fee fee.0 fee.1 ∷ past)) → IsLawful past
  by true h = h
  by false h = record {
    covered = h.covered;
    staked = h.staked.1;
    owners = h.owners;
    coll = let less = h.coll in omega (arith, less);
    lusd = let less = h.lusd in omega (arith, less);
    changes = h.changes;
    fees = let less = h.fees in omega (arith, less);
  }

-- ---- all of them

pub record AddsAll (past : List Happened) (fees : List Fees) (now : List Happened) : Type 0 where
  pub coll : fees_of of_coll now ≡ fees_of of_coll past + coll_in fees
  pub lusd : fees_of of_lusd now ≡ fees_of of_lusd past + lusd_in fees
  pub few : fees_in now ≤ fees_in past + length fees
  pub changes : changes_in now ≡ changes_in past

adds_more : (past mid now : List Happened) (fee : Fees) (fees : List Fees) → Adds past fee mid → AddsAll mid fees now
    → AddsAll past (fee ∷ fees) now
adds_more past mid now fee fees one more =
    let coll = sum_by-cons (λ (f : Fees). f.0) fee fees in
    let lusd = sum_by-cons (λ (f : Fees). f.1) fee fees in
    record {
      coll = omega (arith, coll, one.coll, more.coll);
      lusd = omega (arith, lusd, one.lusd, more.lusd);
      few = omega (arith, one.few, more.few);
      changes = more.changes ∙ one.changes;
    }

pub all_add : (fees : List Fees) (past : List Happened) → AddsAll past fees (fold shared past fees)
all_add [] past = record { coll = omega arith; lusd = omega arith; few = omega arith; changes = refl }
all_add (fee ∷ fees) past =
    adds_more past (shared past fee) (fold shared past (fee ∷ fees)) fee fees (shared_adds past fee)
    (all_add fees (shared past fee))

pub all_lawful : (fees : List Fees) (past : List Happened) → IsLawful past → fees_of of_coll past + coll_in fees ≤ LIM
    → fees_of of_lusd past + lusd_in fees ≤ LIM → fees_in past + length fees ≤ FEES_MOST
    → IsLawful (fold shared past fees)
all_lawful [] past h coll lusd few = h
all_lawful (fee ∷ fees) past h coll lusd few =
    let coll_more = sum_by-cons (λ (f : Fees). f.0) fee fees in
    let lusd_more = sum_by-cons (λ (f : Fees). f.1) fee fees in
    let one = shared_adds past fee in
    all_lawful fees (shared past fee)
    (shared_lawful past fee h (omega (arith, coll, coll_more)) (omega (arith, lusd, lusd_more)) (omega (arith, few)))
    (omega (arith, coll, coll_more, one.coll)) (omega (arith, lusd, lusd_more, one.lusd)) (omega (arith, few, one.few))

all_before : (fees : List Fees) (past : List Happened) → IsLawful (fold shared past fees) → IsLawful past
all_before [] past h = h
all_before (fee ∷ fees) past h = shared_before past fee (all_before fees (shared past fee) h)

-- ---- one more of a list

pub one_more_lawful : (fees : List Fees) (past : List Happened) (i : ℕ) (d : Fees) → i < length fees
    → IsLawful (fold shared past fees) → IsLawful (shared (fold shared past (take i fees)) (get_or fees i d))
one_more_lawful fees past i d lt h =
    let whole : fold shared past fees ≡ fold shared (fold shared past (take (i + 1) fees)) (drop (i + 1) fees) =
    ap (λ (fs : List Fees). fold shared past fs) (sym (take-append-drop (i + 1) fees))
    ∙ fold-append shared past (take (i + 1) fees) (drop (i + 1) fees) in
    subst IsLawful (fold_more shared past fees i d lt)
    (all_before (drop (i + 1) fees) (fold shared past (take (i + 1) fees)) (subst IsLawful whole h))

pub some_shared : (past : List Happened) (fee : Fees) → 1 ≤ fee.0 + fee.1 → shared past fee ≡ Fee fee.0 fee.1 ∷ past
some_shared past fee some = ap (λ none. cond none past (Fee fee.0 fee.1 ∷ past)) (not_none (fee.0 + fee.1) some) where
  not_none : (n : ℕ) → 1 ≤ n → eqb n 0 ≡ false
  not_none n h = grind (arith, nat_tests, h)

-- ---- a part of a list that is another list

pub part_lawful : (past : List Happened) (part whole : List Fees) → part ≡ whole → IsLawful (fold shared past whole)
    → IsLawful (fold shared past part)
part_lawful past part whole is h = subst (λ (fees : List Fees). IsLawful (fold shared past fees)) (sym is) h

pub part_shared : (kept : Kept) (past : List Happened) (part whole : List Fees) → part ≡ whole
    → IsLawful (fold shared past whole) → (IsLawful (fold shared past part) → IsKeptOf kept (fold shared past part))
    → IsKeptOf kept (fold shared past whole)
part_shared kept past part whole is h shares = subst (λ (fees : List Fees). IsKeptOf kept (fold shared past fees)) is
    (shares (part_lawful past part whole is h))
