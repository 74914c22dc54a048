-- What is asked line by line: which fees are shared by then, and how many changes there are.
use Rattle.std.proofs.Common.{◌≡◌, ℕ, ◌+◌, ◌-◌, ◌<◌, ◌≤◌, Bool, true, false, cond, ltb, List, [], ◌∷◌, length, get_or, take, drop, Option, Some, None, refl, sym, ap, subst, ◌∙◌, arith}
use Rattle.std.specs.Prelude.{◌||◌, ◌++◌, codes, sum_by}
use Rattle.std.proofs.lemmas.Bool.{ltb-false}
use Rattle.std.proofs.lemmas.List.{drop-drop, length-take}
use Rattle.std.proofs.lemmas.List.Sums.{fold_more, sum_by-take-drop}
use Rattle.liq_fees.specs.Happened.{changes_in, stake_of, staked_of, IsLawful}
use Rattle.liq_fees.specs.Kept.{change_by, refusal_of}
use Rattle.liq_fees.specs.declared.changes.StakeRefusal.{StakeRefusal}
use Rattle.liq_fees.specs.declared.lines.StakeLine.{StakeLine}
use Rattle.liq_text_staking.specs.Paid.{Fees}
use Rattle.liq_text_staking.specs.Asked.{Asked, nothing_asked, shared_up_to, refused, changed, in_place, answered, answered_all}
use Rattle.liq_text_staking.specs.declared.answering.Answering.{Answering}
use Rattle.liq_text_staking.specs.Answering.{CanBeShared, IsAsked, IsOnTheWay}
use Rattle.liq_text_staking.proofs.Sharing.{all_add, all_lawful}

pub begun : (fees : List Fees) → IsOnTheWay fees nothing_asked
begun fees = record { least = omega arith; coll = omega arith; lusd = omega arith; few = omega arith }

-- ---- up to a further record

-- what a list comes to from one place on, in two parts
sum_between : (f : Fees → ℕ) (fees : List Fees) (from to : ℕ) → from ≤ to
    → sum_by f (take (to - from) (drop from fees)) + sum_by f (drop to fees) ≡ sum_by f (drop from fees)
sum_between f fees from to le =
    let there : from + (to - from) ≡ to = omega arith in
    let rest : drop (to - from) (drop from fees) ≡ drop to fees = drop-drop (to - from) from fees
    ∙ ap (λ n. drop n fees) there in
    subst (λ (fs : List Fees). sum_by f (take (to - from) (drop from fees)) + sum_by f fs
    ≡ sum_by f (drop from fees)) rest
    (sum_by-take-drop f (drop from fees) (to - from))

module _ (fees : List Fees) (a : Asked) (h : IsOnTheWay fees a) (to : ℕ) (low : a.least ≤ to) (high : to
    ≤ length fees) where
  pub shared_way : IsOnTheWay fees (record a { past = shared_up_to fees a.past a.least to; least = to })
  shared_way =
      let more = all_add (take (to - a.least) (drop a.least fees)) a.past in
      let coll = sum_between (λ (f : Fees). f.0) fees a.least to low in
      let lusd = sum_between (λ (f : Fees). f.1) fees a.least to low in
      let some = length-take (to - a.least) (drop a.least fees) in
      record {
        least = high;
        coll = omega (arith, more.coll, coll, h.coll);
        lusd = omega (arith, more.lusd, lusd, h.lusd);
        few = omega (arith, more.few, some, h.few, low);
      }

  pub shared_count : changes_in (shared_up_to fees a.past a.least to) ≡ changes_in a.past
  shared_count = (all_add (take (to - a.least) (drop a.least fees)) a.past).changes

  pub shared_happens : IsLawful a.past → CanBeShared fees → IsLawful (shared_up_to fees a.past a.least to)
  shared_happens lawful all =
      let coll = sum_between (λ (f : Fees). f.0) fees a.least to low in
      let lusd = sum_between (λ (f : Fees). f.1) fees a.least to low in
      let some = length-take (to - a.least) (drop a.least fees) in
      all_lawful (take (to - a.least) (drop a.least fees)) a.past lawful
      (omega (arith, coll, h.coll, all.coll)) (omega (arith, lusd, h.lusd, all.lusd)) (omega (
        arith,
        some,
        h.few,
        high,
        low,
        all.few,
      ))

-- ---- a line

changed_way : (fees : List Fees) (a : Asked) (l : StakeLine) (o : Option StakeRefusal) → IsOnTheWay fees a
    → IsOnTheWay fees (changed a l o)
changed_way fees a l (Some refusal) h = record { least = h.least; coll = h.coll; lusd = h.lusd; few = h.few }
changed_way fees a l None h = by l.out where
  by : (out : Bool) → IsOnTheWay fees (record a {
    past = change_by l.account l.amount out ∷ a.past;
    replies = a.replies
        ++ codes "ok" ∷ [];
  })
  by true = record { least = h.least; coll = h.coll; lusd = h.lusd; few = h.few }
  by false = record { least = h.least; coll = h.coll; lusd = h.lusd; few = h.few }

changed_count : (a : Asked) (l : StakeLine) (o : Option StakeRefusal) → changes_in (changed a l o).past
    ≤ changes_in a.past + 1
changed_count a l (Some refusal) = omega arith
changed_count a l None = by l.out where
  by : (out : Bool) → changes_in (change_by l.account l.amount out ∷ a.past) ≤ changes_in a.past + 1
  by true = omega arith
  by false = omega arith

-- on the way still, with one change more at most
pub record GoesOn (fees : List Fees) (a b : Asked) : Type 0 where
  pub way : IsOnTheWay fees b
  pub count : changes_in b.past ≤ changes_in a.past + 1

module _ (fees : List Fees) (a : Asked) (l : StakeLine) (h : IsOnTheWay fees a) where
  out_goes : (replies : List (List ℕ)) → GoesOn fees a (record a { replies = replies })
  out_goes replies = record {
    way = record { least = h.least; coll = h.coll; lusd = h.lusd; few = h.few };
    count = omega arith;
  }

  in_goes : a.least ≤ l.at → l.at ≤ length fees → GoesOn fees a (in_place fees a l)
  in_goes low high =
      let past = shared_up_to fees a.past a.least l.at in
      let next : Asked = record a { past = past; least = l.at } in
      let o = refusal_of l.account l.amount l.out (staked_of past) (stake_of l.account past) in
      record {
        way = changed_way fees next l o (shared_way fees a h l.at low high);
        count = let more = changed_count next l o in omega (arith, more, shared_count fees a h l.at low high);
      }

  pub goes_on : GoesOn fees a (answered fees a l)
  goes_on = by (ltb l.at a.least) (ltb (length fees) l.at) refl refl where
    by : (early late : Bool) → ltb l.at a.least ≡ early → ltb (length fees) l.at ≡ late
        → GoesOn fees a (cond (early || late) (record a {
          replies = a.replies ++ refused (44 ∷ l.at ∷ a.least
              ∷ length fees ∷ []) ∷ [];
        }) (in_place fees a l))
    by true late e g = out_goes (a.replies ++ refused (44 ∷ l.at ∷ a.least ∷ length fees ∷ []) ∷ [])
    by false true e g = out_goes (a.replies ++ refused (44 ∷ l.at ∷ a.least ∷ length fees ∷ []) ∷ [])
    by false false e g = in_goes (ltb-false l.at a.least e) (ltb-false (length fees) l.at g)

-- ---- the lines

-- so many of the lines are answered
pub record IsUnderWay (fees : List Fees) (lines : List StakeLine) (i : ℕ) (kept : Answering) : Type 0 where
  pub asked : IsAsked kept (answered_all fees (take i lines))
  pub way : IsOnTheWay fees (answered_all fees (take i lines))
  pub few : changes_in (answered_all fees (take i lines)).past ≤ i

pub next_line : (fees : List Fees) (lines : List StakeLine) (i : ℕ) (kept now : Answering) (d : StakeLine)
    → i < length lines → IsUnderWay fees lines i kept
    → IsAsked now (answered fees (answered_all fees (take i lines)) (get_or lines i d))
    → IsUnderWay fees lines (i + 1) now
next_line fees lines i kept now d lt h asked =
    let next : answered fees (answered_all fees (take i lines)) (get_or lines i d)
    ≡ answered_all fees (take (i + 1) lines) = sym (fold_more (answered fees) nothing_asked lines i d lt) in
    let goes = goes_on fees (answered_all fees (take i lines)) (get_or lines i d) h.way in
    record {
      asked = subst (IsAsked now) next asked;
      way = subst (IsOnTheWay fees) next goes.way;
      few = subst (λ (a : Asked). changes_in a.past ≤ i + 1) next (omega (arith, goes.count, h.few));
    }
