-- What is conserved by the verbs that touch no trove.
use Rattle.std.proofs.Common.{◌≡◌, ℕ, ◌+◌, ◌-◌, ◌≤◌, true, false, [], ◌∷◌, refl, arith, Some, None, Option, nat_lt}
use Rattle.std.specs.Prelude.{unwrap_or, option_map, min, ◌==◌}
use Rattle.std.specs.BTreeMap.{is_at}
use Rattle.std.specs.Ordering.{nat_cmp}
use Rattle.std.proofs.lemmas.Bool.Decides.{nat_tests}
use Rattle.std.proofs.lemmas.Map.Entries.{sum_by-remove_entry}
use Rattle.liq_types.specs.declared.amounts.TheConstants.{LIM}
use Rattle.liq_types.specs.declared.replies.Refusal.TheVariants.{AmountZero, ShortTokens}
use Rattle.liq_types.specs.declared.requests.Call.{Call}
use Rattle.liq_types.specs.declared.requests.Call.TheVariants.{Price, Advance, Fund, Take, Send, Provide, Withdraw, Claim, Rotate}
use Rattle.liq_types.specs.Payments.{charged, surplus_taken}
use Rattle.liq_types.specs.Rules.{first_refusal}
use Rattle.liq_types.specs.State.{State, wallet_of, surplus_of}
use Rattle.liq_types.specs.Tables.{at}
use Rattle.liq_stability.specs.Own.{owned}
use Rattle.liq_stability.specs.Position.{balance_of, gain_of}
use Rattle.liq_rule_step.specs.Rules.{effect, rules}
use Rattle.liq_rule_step.specs.Identities.{IsConserved, touches_no_trove}
use Rattle.liq_types.specs.WellFormed.{IsWellFormed, TablesAscend}
use Rattle.liq_rule_step.proofs.Alike.{owned_total, owned_coll}
use Rattle.liq_rule_step.proofs.Allowed.{second_false, take_enough}
use Rattle.liq_types.proofs.Ascending.{wallet-ascends}
use Rattle.liq_rule_step.proofs.Moving.{paid_coll, paid_lusd, charged_coll, charged_lusd}
use Rattle.liq_stability.proofs.Pool.{balance_within, gain_within}

fund_conserves : (s : State) (account coll : ℕ) → TablesAscend s → IsConserved s
    → IsConserved (effect s (Fund account coll))
fund_conserves s account coll t h =
    let c = paid_coll s account coll 0 t.0 in
    let l = paid_lusd s account coll 0 t.0 in
    record {
      coll = omega (arith, c, h.coll);
      lusd = omega (arith, l, h.lusd);
      reserve = h.reserve;
      active_coll = h.active_coll;
      active_debt = h.active_debt;
      surplus = h.surplus;
    }

take_conserves : (s : State) (account coll : ℕ) → coll ≤ (wallet_of s account).coll → TablesAscend s → IsConserved s
    → IsConserved (effect s (Take account coll))
take_conserves s account coll enough t h =
    let c = charged_coll s account coll 0 t.0 enough in
    let l = charged_lusd s account coll 0 t.0 (omega arith) in
    record {
      coll = omega (arith, c, h.coll, enough);
      lusd = omega (arith, l, h.lusd);
      reserve = h.reserve;
      active_coll = h.active_coll;
      active_debt = h.active_debt;
      surplus = h.surplus;
    }

send_conserves : (s : State) (from to lusd : ℕ) → lusd ≤ (wallet_of s from).lusd → TablesAscend s → IsConserved s
    → IsConserved (effect s (Send from to lusd))
send_conserves s from to lusd enough t h =
    let mid = charged s from 0 lusd in
    let ordered = wallet-ascends s.wallets from (record {
      coll = (wallet_of s from).coll - 0;
      lusd = (wallet_of s from).lusd - lusd;
    }) t.0 in
    let c1 = charged_coll s from 0 lusd t.0 (omega arith) in
    let l1 = charged_lusd s from 0 lusd t.0 enough in
    let c2 = paid_coll mid to 0 lusd ordered in
    let l2 = paid_lusd mid to 0 lusd ordered in
    record {
      coll = omega (arith, c1, c2, h.coll);
      lusd = omega (arith, l1, l2, h.lusd);
      reserve = h.reserve;
      active_coll = h.active_coll;
      active_debt = h.active_debt;
      surplus = h.surplus;
    }

provide_conserves : (s : State) (account lusd : ℕ) → lusd ≤ (wallet_of s account).lusd → IsWellFormed s → TablesAscend s
    → IsConserved s → IsConserved (effect s (Provide account lusd))
provide_conserves s account lusd enough w t h =
    let gain = gain_of s account in
    let pooled = owned s account lusd 0 in
    let mid = charged pooled account 0 lusd in
    let ordered = wallet-ascends s.wallets account (record {
      coll = (wallet_of s account).coll - 0;
      lusd = (wallet_of s account).lusd - lusd;
    }) t.0 in
    let total = owned_total s w account lusd 0 in
    let coll = owned_coll s w account lusd 0 in
    let within = gain_within s (at s.deposits account) in
    let c1 = charged_coll pooled account 0 lusd t.0 (omega arith) in
    let l1 = charged_lusd pooled account 0 lusd t.0 enough in
    let c2 = paid_coll mid account gain 0 ordered in
    let l2 = paid_lusd mid account gain 0 ordered in
    record {
      coll = omega (arith, c1, c2, coll, within, h.coll);
      lusd = omega (arith, l1, l2, total, h.lusd);
      reserve = h.reserve;
      active_coll = h.active_coll;
      active_debt = h.active_debt;
      surplus = h.surplus;
    }

withdraw_conserves : (s : State) (account lusd : ℕ) → IsWellFormed s → TablesAscend s → IsConserved s
    → IsConserved (effect s (Withdraw account lusd))
withdraw_conserves s account lusd w t h =
    let gain = gain_of s account in
    let out = min lusd (balance_of s account) in
    let pooled = owned s account 0 out in
    let total = owned_total s w account 0 out in
    let coll = owned_coll s w account 0 out in
    let within = gain_within s (at s.deposits account) in
    let balance = balance_within s (at s.deposits account) in
    let part : out ≤ balance_of s account = omega arith in
    let c2 = paid_coll pooled account gain out t.0 in
    let l2 = paid_lusd pooled account gain out t.0 in
    record {
      coll = omega (arith, c2, coll, within, h.coll);
      lusd = omega (arith, l2, total, balance, part, h.lusd);
      reserve = h.reserve;
      active_coll = h.active_coll;
      active_debt = h.active_debt;
      surplus = h.surplus;
    }

surplus_read : (o : Option ℕ) → unwrap_or (option_map (λ (n : ℕ). n) o) 0 ≡ unwrap_or o 0
surplus_read None = refl
surplus_read (Some n) = refl

claim_conserves : (s : State) (account : ℕ) → TablesAscend s → IsConserved s → IsConserved (effect s (Claim account))
claim_conserves s account t h =
    let taken = surplus_taken s account in
    let left = sum_by-remove_entry (λ (n : ℕ). n) (is_at (nat_cmp account)) s.surplus_rows in
    let same = surplus_read (at s.surplus_rows account) in
    let c2 = paid_coll taken account (surplus_of s account) 0 t.0 in
    let l2 = paid_lusd taken account (surplus_of s account) 0 t.0 in
    record {
      coll = omega (arith, c2, left, same, h.surplus, h.coll);
      lusd = omega (arith, l2, h.lusd);
      reserve = h.reserve;
      active_coll = h.active_coll;
      active_debt = h.active_debt;
      surplus =
          omega (arith, left, same, h.surplus);
    }

tokens_enough : (s : State) (account lusd : ℕ)
    → first_refusal ((lusd == 0, AmountZero) ∷ (
      nat_lt (wallet_of s account).lusd lusd,
      ShortTokens lusd (wallet_of s account).lusd,
    ) ∷ []) ≡ None → lusd ≤ (wallet_of s account).lusd
tokens_enough s account lusd h =
    let have = (wallet_of s account).lusd in
    let enough : nat_lt have lusd ≡ false = second_false (lusd == 0, AmountZero) (
      nat_lt have lusd,
      ShortTokens lusd have,
    ) h in
    grind (arith, nat_tests, enough)

-- words that no sum reads
words_conserve : (s : State) (price minute generation limit : ℕ) → IsConserved s
    → IsConserved (record s { price = price; minute = minute; generation = generation; limit = limit })
words_conserve s price minute generation limit h =
    record {
      coll = h.coll;
      lusd = h.lusd;
      reserve = h.reserve;
      active_coll = h.active_coll;
      active_debt = h.active_debt;
      surplus = h.surplus;
    }

pub call_conserves : (s : State) (call : Call) → touches_no_trove call ≡ true → IsWellFormed s → TablesAscend s
    → first_refusal (rules s call) ≡ None → IsConserved s → IsConserved (effect s call)
call_conserves s (Price price) k w t r h = words_conserve s price s.minute s.generation s.limit h
call_conserves s (Advance minutes) k w t r h =
    words_conserve s s.price (s.minute + minutes) s.generation s.limit h
call_conserves s (Fund account coll) k w t r h = fund_conserves s account coll t h
call_conserves s (Take account coll) k w t r h = take_conserves s account coll (take_enough s account coll r) t h
call_conserves s (Send from to lusd) k w t r h = send_conserves s from to lusd (tokens_enough s from lusd r) t h
call_conserves s (Provide account lusd) k w t r h =
    provide_conserves s account lusd (tokens_enough s account lusd r) w t h
call_conserves s (Withdraw account lusd) k w t r h = withdraw_conserves s account lusd w t h
call_conserves s (Claim account) k w t r h = claim_conserves s account t h
call_conserves s Rotate k w t r h = words_conserve s s.price s.minute (s.generation + 1) LIM h
call_conserves s _ k w t r h = cc
