-- What stakers are answered at a line, and at the end.
use Rattle.std.proofs.Common.{◌≡◌, ℕ, ◌-◌, ◌<◌, ◌≤◌, Bool, true, false, cond, ltb, leb, List, [], ◌∷◌, ◌++◌, length, take, drop, Option, Some, None, Result, Ok, Err, refl, sym, ap, subst, ◌∙◌, arith}
use Rattle.std.specs.Prelude.{fold, ◌||◌, IfOk, codes, decimal, map}
use Rattle.std.specs.List.{flat_map}
use Rattle.std.specs.BTreeSet.{insert_key}
use Rattle.std.specs.Ordering.{nat_cmp}
use Rattle.std.proofs.lemmas.Bool.{leb-false}
use Rattle.std.proofs.lemmas.Bool.Decides.{nat_tests}
use Rattle.liq_types.specs.declared.amounts.TheConstants.{ACCOUNTS}
use Rattle.liq_text.specs.Writing.{words_line}
use Rattle.liq_fees.specs.Happened.{Happened, of_coll, of_lusd, unshared_of, changes_in, stake_of, staked_of, IsLawful}
use Rattle.liq_fees.specs.Kept.{Kept, IsKeptOf, change_by, refusal_of}
use Rattle.liq_fees.specs.declared.changes.StakeRefusal.{StakeRefusal}
use Rattle.liq_fees.specs.declared.changes.StakeRefusal.TheVariants.{AccountRange}
use Rattle.liq_fees.specs.declared.lines.StakeLine.{StakeLine}
use Rattle.liq_text_staking.specs.declared.answering.Answering.{Answering}
use Rattle.liq_text_staking.specs.Paid.{Fees}
use Rattle.liq_text_staking.specs.Asked.{Asked, shared, shared_up_to, numbers_of, refused, changed, in_place, answered}
use Rattle.liq_text_staking.specs.Staked.{row_line, reply_lines, stakers, told, told_of}
use Rattle.liq_text_staking.specs.Answering.{CanBeShared, IsAsked, IsOnTheWay}
use Rattle.liq_text_staking.proofs.Lines.{reply_more}
use Rattle.liq_text_staking.proofs.Sharing.{all_add}
use Rattle.liq_text_staking.proofs.Stakers.{all_same_stakers, one_more_staker}
use Rattle.liq_text_staking.proofs.Ways.{shared_happens}

-- ---- what follows of a result

pub if_ok : {T E : Type 0} (P Q : T → Type 0) (r : Result T E) → ((x : T) → P x → Q x) → IfOk r P → IfOk r Q
if_ok P Q (Ok x) f h = f x h
if_ok P Q (Err e) f h = h

-- what is made is not refused
pub not_refused : (o : Option StakeRefusal) → ((refusal : StakeRefusal) → o ≡ Some refusal → ⊥) → o ≡ None
not_refused None h = refl
not_refused (Some refusal) h = absurd (h refusal refl)

-- ---- a change

in_range : (account amount : ℕ) (out : Bool) (staked stake : ℕ) → refusal_of account amount out staked stake ≡ None
    → account < ACCOUNTS
in_range account amount out staked stake = by (leb ACCOUNTS account) _ refl where
  by : (far : Bool) (rest : Option StakeRefusal) → leb ACCOUNTS account ≡ far
      → cond far (Some (AccountRange account)) rest ≡ None → account < ACCOUNTS
  by true rest is e = absurd cc
  by false rest is e = leb-false ACCOUNTS account is

module _ (kept next : Answering) (a : Asked) (l : StakeLine) (h : IsAsked kept a) where
  abbrev pub asked_for : Option StakeRefusal
  asked_for = refusal_of l.account l.amount l.out (staked_of a.past) (stake_of l.account a.past)

  abbrev pub moved : Asked
  moved = record a { least = l.at }

  pub made : asked_for ≡ None → IsKeptOf next.fees (change_by l.account l.amount l.out ∷ a.past)
      → next.stakers.keys ≡ insert_key nat_cmp kept.stakers.keys l.account
      → next.least ≡ l.at → next.text.items ≡ kept.text.items ++ words_line (codes "ok" ∷ [])
      → IsAsked next (changed moved l asked_for)
  made none fees keys least text =
      let low = in_range l.account l.amount l.out (staked_of a.past) (stake_of l.account a.past) none in
      subst (λ (o : Option StakeRefusal). IsAsked next (changed moved l o)) (sym none)
      (record {
        fees = fees;
        stakers = keys ∙ ap (λ (ks : List ℕ). insert_key nat_cmp ks l.account) h.stakers
            ∙ one_more_staker ACCOUNTS l.account l.amount l.out a.past low;
        least = least;
        text = text ∙ ap (λ (t : List ℕ). t ++ words_line (codes "ok" ∷ [])) h.text
            ∙ sym (reply_more a.replies (codes "ok"));
      })

  pub refused_only : (refusal : StakeRefusal) → asked_for ≡ Some refusal → next.fees ≡ kept.fees
      → next.stakers.keys ≡ kept.stakers.keys
      → next.least ≡ l.at → next.text.items ≡ kept.text.items ++ words_line (codes "no"
      ∷ map decimal (numbers_of refusal))
      → IsAsked next (changed moved l asked_for)
  refused_only refusal some fees keys least text =
      subst (λ (o : Option StakeRefusal). IsAsked next (changed moved l o)) (sym some)
      (record {
        fees = subst (λ (k : Kept). IsKeptOf k a.past) (sym fees) h.fees;
        stakers = keys ∙ h.stakers;
        least = least;
        text =
            text ∙ ap (λ (t : List ℕ). t ++ words_line (codes "no" ∷ map decimal (numbers_of refusal))) h.text
            ∙ sym (reply_more a.replies (refused (numbers_of refusal)));
      })

-- ---- a line

module _ (fees : List Fees) (kept : Answering) (a : Asked) (l : StakeLine) (h : IsAsked kept a) where
  abbrev pub now_past : List Happened
  now_past = fold shared a.past (take (l.at - kept.least) (drop kept.least fees))

  up_to : shared_up_to fees a.past a.least l.at ≡ now_past
  up_to = ap (λ n. fold shared a.past (take (l.at - n) (drop n fees))) (sym h.least)

  pub keys_now : kept.stakers.keys ≡ stakers now_past
  keys_now = h.stakers ∙ sym (all_same_stakers ACCOUNTS (take (l.at - kept.least) (drop kept.least fees)) a.past)

  -- a line that is in its place
  module _ (low : kept.least ≤ l.at) (high : l.at ≤ length fees) where
    pub answered_in : changed (record a { past = now_past; least = l.at }) l (refusal_of l.account l.amount l.out
        (staked_of now_past) (stake_of l.account now_past)) ≡ answered fees a l
    answered_in =
        let here : ltb l.at a.least ≡ false = not_less l.at a.least (omega (arith, low, h.least)) in
        let there : ltb (length fees) l.at ≡ false = not_less (length fees) l.at high in
        ap (λ (p : List Happened). changed (record a { past = p; least = l.at }) l (refusal_of l.account l.amount l.out
        (staked_of p) (stake_of l.account p))) (sym up_to)
        ∙ sym (
        ap (λ b. cond (b || ltb (length fees) l.at) (record a {
          replies = a.replies ++ refused (44 ∷ l.at ∷ a.least
              ∷ length fees ∷ []) ∷ [];
        }) (in_place fees a l)) here
        ∙ ap (λ b. cond b (record a { replies = a.replies ++ refused (44 ∷ l.at ∷ a.least ∷ length fees ∷ []) ∷ [] })
        (in_place fees a l)) there
        ) where
          not_less : (m n : ℕ) → n ≤ m → ltb m n ≡ false
          not_less m n le = grind (arith, nat_tests, le)

    pub can_share : IsOnTheWay fees a → CanBeShared fees → IsLawful now_past
    can_share way all = subst IsLawful up_to (shared_happens fees a way l.at (omega (arith, low, h.least)) high
        h.fees.lawful all)

  pub same_count : changes_in now_past ≡ changes_in a.past
  same_count = (all_add (take (l.at - kept.least) (drop kept.least fees)) a.past).changes

-- ---- the end

module _ (fees : List Fees) (kept : Answering) (a : Asked) (h : IsAsked kept a) where
  abbrev pub last_past : List Happened
  last_past = fold shared a.past (take (length fees - kept.least) (drop kept.least fees))

  up_to_last : last_past ≡ shared_up_to fees a.past a.least (length fees)
  up_to_last = ap (λ n. fold shared a.past (take (length fees - n) (drop n fees))) h.least

  pub can_share_last : IsOnTheWay fees a → CanBeShared fees → IsLawful last_past
  can_share_last way all = subst IsLawful (sym up_to_last) (shared_happens fees a way (length fees) way.least
      (omega arith) h.fees.lawful all)

  pub told_last : (rows whole : List ℕ) (coll lusd : ℕ)
      → rows ≡ kept.text.items ++ flat_map (row_line last_past) kept.stakers.keys
      → whole ≡ rows ++ words_line (codes "unshared" ∷ map decimal (coll ∷ lusd ∷ []))
      → coll ≡ unshared_of of_coll last_past → lusd ≡ unshared_of of_lusd last_past
      → whole ≡ told_of fees a
  told_last rows whole coll lusd first second same_coll same_lusd =
      second
      ∙ ap (λ n. rows ++ words_line (codes "unshared" ∷ map decimal (n ∷ lusd ∷ []))) same_coll
      ∙ ap (λ n. rows ++ words_line (codes "unshared" ∷ map decimal (unshared_of of_coll last_past ∷ n ∷ []))) same_lusd
      ∙ ap (λ (t : List ℕ). t ++ words_line (codes "unshared" ∷ map decimal (unshared_of of_coll last_past
      ∷ unshared_of of_lusd last_past ∷ []))) (
      first
      ∙ ap (λ (t : List ℕ). t ++ flat_map (row_line last_past) kept.stakers.keys) h.text
      ∙ ap (λ (ks : List ℕ). reply_lines a.replies ++ flat_map (row_line last_past) ks)
      (h.stakers ∙ sym (all_same_stakers ACCOUNTS (take (length fees - kept.least) (drop kept.least fees)) a.past))
      )
      ∙ ap (λ (p : List Happened). told a.replies p) up_to_last
