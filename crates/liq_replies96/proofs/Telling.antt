-- A reply by what its 96 bytes tell.
use Rattle.std.proofs.Common.{◌≡◌, ℕ, List, [], ◌∷◌, get_or, drop, refl, ap, sym, ◌∙◌, arith}
use Rattle.std.specs.Prelude.{◌*◌, ◌==◌, if◌then◌else◌}
use Rattle.std.specs.List.{flat_map}
use Rattle.liq_types.specs.declared.replies.Info.{Info}
use Rattle.liq_types.specs.declared.replies.Info.TheVariants as infos
use Rattle.liq_types.specs.declared.replies.Refusal.{Refusal}
use Rattle.liq_types.specs.declared.replies.Refusal.TheVariants as refusals
use Rattle.liq_types.specs.declared.replies.Reply.{Reply}
use Rattle.liq_types.specs.declared.replies.Reply.TheVariants.{Said, Told, No}
use Rattle.liq_types.specs.Codes.{shown_values, refusal_numbers, code_of}
use Rattle.liq_replies96.specs.declared.reply.Reply96.{Reply96}
use Rattle.liq_replies96.specs.Replies.{reply96, shown, topic_of, info_numbers, halves}
use Rattle.liq_replies96.proofs.Halving.{same_front, same_halves, length-halves}

-- ---- what a query is told, by its topic and its numbers

abbrev there : List ℕ → Info → Info → Info
there [] none some = none
there (n ∷ ns) none some = some

abbrev info_by : ℕ → List ℕ → Info
info_by topic ns =
    if topic == 1 then infos.Wallet (get_or ns 0 0) (get_or ns 1 0)
    else if topic == 2 then there ns infos.NoTrove (infos.Trove (get_or ns 0 0) (get_or ns 1 0) (get_or ns 2 0))
    else if topic == 3 then there ns infos.NoDeposit (infos.Deposit (get_or ns 0 0) (get_or ns 1 0))
    else if topic == 4 then infos.Pools ns
    else if topic == 5 then infos.System ns
    else infos.Next (get_or ns 0 0)

info_back : (info : Info) → info_by (topic_of info) (info_numbers info) ≡ info
info_back (infos.Wallet coll lusd) = refl
info_back (infos.Trove coll debt stake) = refl
info_back infos.NoTrove = refl
info_back (infos.Deposit balance gain) = refl
info_back infos.NoDeposit = refl
info_back (infos.Pools pools) = refl
info_back (infos.System words) = refl
info_back (infos.Next number) = refl

-- ---- a refusal, by its code and its values

abbrev refusal_by : ℕ → List ℕ → Refusal
refusal_by code ns =
    if code == 10 then refusals.PriceRange (get_or ns 0 0)
    else if code == 11 then refusals.AmountZero
    else if code == 12 then refusals.AmountLimit (get_or ns 0 0) (get_or ns 1 0)
    else if code == 13 then refusals.AccountRange (get_or ns 0 0)
    else if code == 14 then refusals.ShortCollateral (get_or ns 0 0) (get_or ns 1 0)
    else if code == 15 then refusals.ShortTokens (get_or ns 0 0) (get_or ns 1 0)
    else if code == 20 then refusals.TroveExists (get_or ns 0 0)
    else if code == 21 then refusals.NoTrove (get_or ns 0 0)
    else if code == 22 then refusals.FeeBound (get_or ns 0 0) (get_or ns 1 0)
    else if code == 23 then refusals.FeeOver (get_or ns 0 0) (get_or ns 1 0)
    else if code == 24 then refusals.NetDebtLow (get_or ns 0 0) (get_or ns 1 0)
    else if code == 25 then refusals.RatioLow (get_or ns 0 0) (get_or ns 1 0)
    else if code == 26 then refusals.SystemRatioLow (get_or ns 0 0) (get_or ns 1 0)
    else if code == 27 then refusals.RecoveryForbids (get_or ns 0 0) (get_or ns 1 0)
    else if code == 28 then refusals.RatioFalls (get_or ns 0 0) (get_or ns 1 0)
    else if code == 29 then refusals.BothWays (get_or ns 0 0) (get_or ns 1 0)
    else if code == 30 then refusals.NoChange
    else if code == 31 then refusals.LastTrove (get_or ns 0 0)
    else if code == 40 then refusals.NoDeposit (get_or ns 0 0)
    else if code == 41 then refusals.TroveUnder (get_or ns 0 0) (get_or ns 1 0) (get_or ns 2 0)
    else if code == 42 then refusals.NoGain (get_or ns 0 0)
    else if code == 50
    then refusals.NotLiquidatable (get_or ns 0 0) (get_or ns 1 0) (get_or ns 2 0) (get_or ns 3 0) (get_or ns 4 0)
    else if code == 51 then refusals.PoolTooSmall (get_or ns 0 0) (get_or ns 1 0)
    else if code == 52 then refusals.SumLimit (get_or ns 0 0)
    else if code == 60 then refusals.Bootstrap (get_or ns 0 0) (get_or ns 1 0)
    else if code == 61 then refusals.SystemUnder (get_or ns 0 0) (get_or ns 1 0)
    else if code == 62 then refusals.NothingRedeemed (get_or ns 0 0) (get_or ns 1 0)
    else if code == 63 then refusals.FeeEatsAll (get_or ns 0 0) (get_or ns 1 0)
    else if code == 64 then refusals.NoSurplus (get_or ns 0 0)
    else if code == 70 then refusals.OutOfTurn (get_or ns 0 0)
    else refusals.JournalFull (get_or ns 0 0)

refusal_back : (refusal : Refusal) → refusal_by (code_of refusal) (drop 1 (refusal_numbers refusal)) ≡ refusal
refusal_back (refusals.PriceRange price) = refl
refusal_back refusals.AmountZero = refl
refusal_back (refusals.AmountLimit sum limit) = refl
refusal_back (refusals.AccountRange value) = refl
refusal_back (refusals.ShortCollateral need have) = refl
refusal_back (refusals.ShortTokens need have) = refl
refusal_back (refusals.TroveExists account) = refl
refusal_back (refusals.NoTrove account) = refl
refusal_back (refusals.FeeBound bound least) = refl
refusal_back (refusals.FeeOver left right) = refl
refusal_back (refusals.NetDebtLow net least) = refl
refusal_back (refusals.RatioLow left right) = refl
refusal_back (refusals.SystemRatioLow left right) = refl
refusal_back (refusals.RecoveryForbids left right) = refl
refusal_back (refusals.RatioFalls left right) = refl
refusal_back (refusals.BothWays first second) = refl
refusal_back refusals.NoChange = refl
refusal_back (refusals.LastTrove troves) = refl
refusal_back (refusals.NoDeposit account) = refl
refusal_back (refusals.TroveUnder account left right) = refl
refusal_back (refusals.NoGain account) = refl
refusal_back (refusals.NotLiquidatable coll debt price total_coll total_debt) = refl
refusal_back (refusals.PoolTooSmall total debt) = refl
refusal_back (refusals.SumLimit sum) = refl
refusal_back (refusals.Bootstrap minute limit) = refl
refusal_back (refusals.SystemUnder left right) = refl
refusal_back (refusals.NothingRedeemed amount net) = refl
refusal_back (refusals.FeeEatsAll fee drawn) = refl
refusal_back (refusals.NoSurplus account) = refl
refusal_back (refusals.OutOfTurn expected) = refl
refusal_back (refusals.JournalFull records) = refl

-- ---- a reply

pub one : (a b : Reply) → reply96 a ≡ reply96 b → shown a ≡ shown b
unfolding reply96
one (Said d) (Said e) same =
    let kind = ap (λ (r : Reply96). r.which) same in
    let values = same_front (shown_values d) (shown_values e) _ _
    (ap (λ (r : Reply96). r.count) same) (ap (λ (r : Reply96). r.values) same) in
    λ i. Said (record { kind = kind i; values = values i })
one (Told info) (Told other) same =
    let numbers = same_front (info_numbers info) (info_numbers other) _ _
    (ap (λ (r : Reply96). r.count) same) (ap (λ (r : Reply96). r.values) same) in
    let is : info ≡ other =
    sym (info_back info)
    ∙ (λ i. info_by ((ap (λ (r : Reply96). r.which) same) i) (numbers i)) ∙ info_back other in
    λ i. Told (is i)
one (No refusal) (No other) same =
    let few = ap (λ (r : Reply96). r.count) same in
    let words =
    same_front
    (flat_map halves (drop 1 (refusal_numbers refusal))) (flat_map halves (drop 1 (refusal_numbers other))) _ _
    (length-halves (drop 1 (refusal_numbers refusal))
    ∙ ap (λ (n : ℕ). 2 * n) few ∙ sym (length-halves (drop 1 (refusal_numbers other))))
    (ap (λ (r : Reply96). r.values) same) in
    let values = same_halves (drop 1 (refusal_numbers refusal)) (drop 1 (refusal_numbers other)) few words in
    let is : refusal ≡ other =
    sym (refusal_back refusal)
    ∙ (λ i. refusal_by ((ap (λ (r : Reply96). r.which) same) i) (values i)) ∙ refusal_back other in
    λ i. No (is i)
one (Said d) (Told info) same = absurd (omega (arith, ap (λ (r : Reply96). r.kind) same))
one (Said d) (No refusal) same = absurd (omega (arith, ap (λ (r : Reply96). r.kind) same))
one (Told info) (Said d) same = absurd (omega (arith, ap (λ (r : Reply96). r.kind) same))
one (Told info) (No refusal) same = absurd (omega (arith, ap (λ (r : Reply96). r.kind) same))
one (No refusal) (Said d) same = absurd (omega (arith, ap (λ (r : Reply96). r.kind) same))
one (No refusal) (Told info) same = absurd (omega (arith, ap (λ (r : Reply96). r.kind) same))
