-- What a protocol tells of an account, by its state; and that a sound state's troves are in order.
use Rattle.std.proofs.Common.{◌≡◌, ℕ, ◌<◌, Bool, false, List, Option, Some, None, refl, sym, ap, subst, ◌∙◌, arith}
use Rattle.std.specs.Prelude.{nat_le, option_map, if◌then◌else◌}
use Rattle.std.specs.List.{AllByRecursion}
use Rattle.std.specs.List.Sorted.{IsStrictlySortedBy}
use Rattle.std.specs.Ordering.{nat_cmp}
use Rattle.std.proofs.lemmas.Bool.Decides.{nat_tests}
use Rattle.std.proofs.lemmas.Map.Made.{keys_of-map_values}
use Rattle.liq_types.specs.declared.amounts.TheConstants.{ACCOUNTS}
use Rattle.liq_types.specs.declared.figures.Trove.{Trove}
use Rattle.liq_types.specs.declared.replies.Refusal.TheVariants.{AccountRange}
use Rattle.liq_types.specs.declared.replies.Reply.TheVariants.{Told, No}
use Rattle.liq_types.specs.declared.requests.Query.TheVariants as query
use Rattle.liq_types.specs.State.{State, DepositEntry, TroveEntry}
use Rattle.liq_types.specs.Tables.{at}
use Rattle.liq_types.specs.WellFormed.{Ascends}
use Rattle.liq_types.proofs.MapRows.{at-map}
use Rattle.liq_troves.specs.StakeSums.{trove_row, trove_rows}
use Rattle.liq_rule_step.specs.Queries.{answer, deposit_info, trove_info}
use Rattle.liq_rule_sound.specs.SoundState.{IsSoundState}
use Rattle.liq_rule_sound.proofs.SoundFacts.{KeysBelow}
use Rattle.liq_rule_sound.proofs.SoundTests.{sound_facts}
use Rattle.liq_report.specs.Values.{deposit_at, deposit_in, position, standing, trove_at, trove_in}

below : (account : ℕ) → account < ACCOUNTS → nat_le ACCOUNTS account ≡ false
below account l = grind (arith, nat_tests, l)

deposit_by : (s : State) (account : ℕ) (o : Option DepositEntry) → deposit_in (Told (deposit_info s account o))
    ≡ option_map (λ (d : DepositEntry). position s account) o
deposit_by s account None = refl
deposit_by s account (Some d) = refl

pub deposit_told : (s : State) (account : ℕ) → account < ACCOUNTS → deposit_in (answer s (query.Deposit account))
    ≡ deposit_at s account
deposit_told s account range =
    ap (λ (b : Bool). deposit_in (if b then No (AccountRange account)
    else Told (deposit_info s account (at s.deposits account))))
    (below account range)
    ∙ deposit_by s account (at s.deposits account)

trove_by : (s : State) (o : Option TroveEntry) → trove_in (Told (trove_info s o))
    ≡ option_map (standing s) (option_map (trove_row s) o)
trove_by s None = refl
trove_by s (Some t) = refl

pub trove_told : (s : State) (account : ℕ) → account < ACCOUNTS → trove_in (answer s (query.Trove account))
    ≡ trove_at s account
trove_told s account range =
    ap (λ (b : Bool). trove_in (if b then No (AccountRange account) else Told (trove_info s (at s.troves account))))
    (below account range)
    ∙ trove_by s (at s.troves account)
    ∙ ap (λ (o : Option Trove). option_map (standing s) o) (sym (at-map (trove_row s) s.troves account))

module _ (s : State) (h : IsSoundState s) where
  pub troves_ascend : Ascends (trove_rows s)
  troves_ascend =
      subst (λ (ks : List ℕ). IsStrictlySortedBy nat_cmp ks) (sym (keys_of-map_values (trove_row s) s.troves))
      h.ordered.1

  pub trove_keys : KeysBelow (trove_rows s)
  trove_keys =
      subst (λ (ks : List ℕ). AllByRecursion (λ key. key < ACCOUNTS) ks)
      (sym (keys_of-map_values (trove_row s) s.troves)) (sound_facts s h).stands.trove_keys
