use Rattle.std.proofs.Common.{◌≡◌, ◌∙◌, ap, sym, subst, arith, inl, inr, slice_index_or}
use Rattle.std.proofs.lemmas.Bool.{cases_lt}
use Rattle.std.proofs.lemmas.List.{get_or_default}
use Rattle.std.specs.Prelude.{Result, Err, IsOk}
use Rattle.liq_tables.specs.WithRoom.{HasRoom}
use Rattle.liq_ledger.proofs.surplus.Surplus.reserve.Goals as goal

is_ok_not : {A B : Type 0} (r : Result A B) (e : B) → r ≡ Err e → IsOk r → ⊥
is_ok_not r e is ok = cc

pub loop-account-preserved : goal.loop-account-preserved
loop-account-preserved c = record {
  rows = c.in_ok-reserve.ensures.rows ∙ c.loop-account.invariant.rows;
  kept = λ key had. c.in_ok-reserve.ensures.kept key (c.loop-account.invariant.kept key had);
  room = λ k d below.
      elim (cases_lt k c.loop-account.account-index) [
        | inl less ↦ c.in_ok-reserve.ensures.kept (slice_index_or c.args.accounts.now k d)
            (c.loop-account.invariant.room k d less)
        | inr same ↦
            let here : k ≡ c.loop-account.account-index = omega arith in
            let read : slice_index_or c.args.accounts.now k d
            ≡ slice_index_or c.args.accounts.now c.loop-account.account-index 0 =
            ap (λ i. slice_index_or c.args.accounts.now i d) here
            ∙ get_or_default c.args.accounts.now c.loop-account.account-index d 0 (omega arith) in
            subst (λ account. HasRoom c.reserve.new.self account) (sym read) c.in_ok-reserve.ensures.room
      ];
}

pub returns-in_err-reserve-clause-had : goal.returns-in_err-reserve-clause-had
returns-in_err-reserve-clause-had c h =
    let here = h c.loop-account.account-index 0 c.loop-account-test.true in
    let still = c.loop-account.invariant.kept (slice_index_or c.args.accounts.now c.loop-account.account-index 0) here
    in
    absurd (is_ok_not c.reserve.result _ c.in_err-reserve.was (c.reserve.ensures.had still))
