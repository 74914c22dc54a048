-- How long the text of a reply is.
use Rattle.std.proofs.Common.{zero, suc, true, leb, ◌≡◌, ℕ, ◌+◌, ◌*◌, ◌^◌, ◌<◌, ◌≤◌, List, [], ◌∷◌, length, get_or, take, refl, ap, ◌∙◌, length-append, arith, lit≤, lit<}
use Rattle.std.specs.Prelude.{map, codes, decimal, slice_index}
use Rattle.std.specs.List.{join_with_byte, AllByRecursion}
use Rattle.std.proofs.lemmas.Bool.{leb-true}
use Rattle.std.proofs.lemmas.Fmt.{length-decimal-le_wide}
use Rattle.std.proofs.lemmas.List.{length-take}
use Rattle.liq_types.specs.declared.replies.Reply.{Reply}
use Rattle.liq_types.specs.declared.replies.Reply.TheVariants.{Said, Told, No}
use Rattle.liq_types.specs.declared.replies.Info.{Info}
use Rattle.liq_types.specs.declared.replies.Info.TheVariants as infos
use Rattle.liq_types.specs.declared.replies.Refusal.{Refusal}
use Rattle.liq_types.specs.declared.replies.Refusal.TheVariants as refusals
use Rattle.liq_text.specs.Replies.{value_counts, shown_values, info_words, refusal_numbers, text, AreAmounts, HasAmounts, FitsTypes}
use Rattle.liq_text.specs.Writing.{spaced}
use Rattle.liq_text.proofs.WritingLaws.{join_spaced}

-- numbers of at most k digits
spaced_short : (k limit : ℕ) → 0 < k → limit ≤ 10 ^ k → limit ≤ 10 ^ 64 → (numbers : List ℕ)
    → AllByRecursion (λ n. n < limit) numbers → length (spaced (map decimal numbers)) ≤ length numbers * (k + 1)
spaced_short k limit some digits wide [] h = omega arith
spaced_short k limit some digits wide (n ∷ ns) h =
    let one : length (decimal n) ≤ k = length-decimal-le_wide k n some (omega (arith, h.0)) (omega (arith, h.0)) in
    let rest = spaced_short k limit some digits wide ns h.1 in
    let both = length-append (decimal n) (spaced (map decimal ns)) in
    let times : length (n ∷ ns) * (k + 1) ≡ length ns * (k + 1) + (k + 1) = grind arith in
    omega (arith, one, rest, both, times)

behind_short : (k limit : ℕ) → 0 < k → limit ≤ 10 ^ k → limit ≤ 10 ^ 64 → (word : List ℕ) (numbers : List ℕ)
    → AllByRecursion (λ n. n < limit) numbers
    → length (join_with_byte 32 (word ∷ map decimal numbers)) ≤ length word + length numbers * (k + 1)
behind_short k limit some digits wide word numbers h =
    let rest = spaced_short k limit some digits wide numbers h in
    let whole = ap (λ (x : List ℕ). length x) (join_spaced word (map decimal numbers))
    ∙ length-append word (spaced (map decimal numbers)) in
    omega (arith, rest, whole)

list_short : (numbers : List ℕ) → AreAmounts numbers → length (join_with_byte 32 (map decimal numbers)) ≤ 255
list_short [] h = lit≤ tt
list_short (n ∷ ns) h =
    let one : length (decimal n) ≤ 20 = length-decimal-le_wide 20 n (lit< tt) (omega (arith, h.1.0)) (omega (
      arith,
      h.1.0,
    )) in
    let rest = behind_short 20 (2 ^ 64) (lit< tt) (lit≤ tt) (lit≤ tt) (decimal n) ns h.1.1 in
    omega (arith, one, rest, h.0)

info_short : (info : Info) → HasAmounts info → length (join_with_byte 32 (info_words info)) ≤ 255
info_short (infos.Wallet coll lusd) h = list_short (coll ∷ lusd ∷ []) h
info_short (infos.Trove coll debt stake) h = list_short (coll ∷ debt ∷ stake ∷ []) h
info_short infos.NoTrove h = lit≤ tt
info_short (infos.Deposit balance gain) h = list_short (balance ∷ gain ∷ []) h
info_short infos.NoDeposit h = lit≤ tt
info_short (infos.Pools pools) h = list_short pools h
info_short (infos.System words) h = list_short words h
info_short (infos.Next number) h = list_short (number ∷ []) h

few_numbers : (r : Refusal) → length (refusal_numbers r) ≤ 6
few_numbers (refusals.PriceRange price) = lit≤ tt
few_numbers refusals.AmountZero = lit≤ tt
few_numbers (refusals.AmountLimit sum limit) = lit≤ tt
few_numbers (refusals.AccountRange value) = lit≤ tt
few_numbers (refusals.ShortCollateral need have) = lit≤ tt
few_numbers (refusals.ShortTokens need have) = lit≤ tt
few_numbers (refusals.TroveExists account) = lit≤ tt
few_numbers (refusals.NoTrove account) = lit≤ tt
few_numbers (refusals.FeeBound bound least) = lit≤ tt
few_numbers (refusals.FeeOver left right) = lit≤ tt
few_numbers (refusals.NetDebtLow net least) = lit≤ tt
few_numbers (refusals.RatioLow left right) = lit≤ tt
few_numbers (refusals.SystemRatioLow left right) = lit≤ tt
few_numbers (refusals.RecoveryForbids left right) = lit≤ tt
few_numbers (refusals.RatioFalls left right) = lit≤ tt
few_numbers (refusals.BothWays first second) = lit≤ tt
few_numbers refusals.NoChange = lit≤ tt
few_numbers (refusals.LastTrove troves) = lit≤ tt
few_numbers (refusals.NoDeposit account) = lit≤ tt
few_numbers (refusals.TroveUnder account left right) = lit≤ tt
few_numbers (refusals.NoGain account) = lit≤ tt
few_numbers (refusals.NotLiquidatable coll debt price total_coll total_debt) = lit≤ tt
few_numbers (refusals.PoolTooSmall total debt) = lit≤ tt
few_numbers (refusals.SumLimit sum) = lit≤ tt
few_numbers (refusals.Bootstrap minute limit) = lit≤ tt
few_numbers (refusals.SystemUnder left right) = lit≤ tt
few_numbers (refusals.NothingRedeemed amount net) = lit≤ tt
few_numbers (refusals.FeeEatsAll fee drawn) = lit≤ tt
few_numbers (refusals.NoSurplus account) = lit≤ tt
few_numbers (refusals.OutOfTurn expected) = lit≤ tt
few_numbers (refusals.JournalFull records) = lit≤ tt

-- a part of numbers in a range is in it
taken_fits : (limit k : ℕ) (numbers : List ℕ) → AllByRecursion (λ n. n < limit) numbers
    → AllByRecursion (λ n. n < limit) (take k numbers)
taken_fits limit zero numbers h = tt
taken_fits limit (suc k) [] h = tt
taken_fits limit (suc k) (n ∷ ns) h = (h.0, taken_fits limit k ns h.1)

each_below : (most : ℕ) (xs : List ℕ) → AllByRecursion (λ x. leb x most ≡ true) xs → (k : ℕ) → get_or xs k 0 ≤ most
each_below most [] h k = omega arith
each_below most (x ∷ xs) h zero = leb-true x most h.0
each_below most (x ∷ xs) h (suc k) = each_below most xs h.1 k

few_values : (kind : ℕ) → slice_index value_counts kind ≤ 6
few_values kind = each_below 6 value_counts (
  refl,
  (
    refl,
    (
      refl,
      (
        refl,
        (
          refl,
          (refl, (refl, (refl, (refl, (refl, (refl, (refl, (refl, (refl, (refl, (refl, (refl, tt)))))))))))),
        ),
      ),
    ),
  ),
) kind

pub text_short : (reply : Reply) → FitsTypes reply → length (text reply) ≤ 255
text_short (Said d) h =
    let few : length (shown_values d) ≤ 6 = omega (
      arith,
      length-take (slice_index value_counts d.kind) d.values,
      few_values d.kind,
    ) in
    let rest = behind_short 20 (2 ^ 64) (lit< tt) (lit≤ tt) (lit≤ tt) (codes "ok") (shown_values d) (taken_fits (2 ^ 64)
    (slice_index value_counts d.kind) d.values h) in
    omega (arith, few, rest)
text_short (Told info) h = info_short info h
text_short (No refusal) h =
    let rest = behind_short 39 (2 ^ 128) (lit< tt) (lit≤ tt) (lit≤ tt) (codes "no") (refusal_numbers refusal) h in
    omega (arith, rest, few_numbers refusal)
