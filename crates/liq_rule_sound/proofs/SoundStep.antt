-- Every step keeps a sound state.
use Rattle.std.proofs.Common.{◌≡◌, ℕ, ◌+◌, ◌*◌, ◌≤◌, ◌<◌, Bool, true, false, cond, inr, List, [], ◌∷◌, ◌++◌, refl, sym, subst, arith, length, nat_le, Some, None, Option, length-append, length-take}
use Rattle.std.specs.Prelude.{map, replicate, Result, Ok, Err}
use Rattle.std.specs.List.{AllByRecursion}
use Rattle.std.proofs.lemmas.Bool.Decides.{nat_tests}
use Rattle.liq_types.specs.declared.amounts.TheConstants.{ACCOUNTS, LIM, LOWEST_MOST, RECORDS_MOST, GENERATIONS_MOST, PLACES_A_RECORD, CHECKPOINT_BYTES_MOST}
use Rattle.liq_types.specs.declared.figures.Client.{Client}
use Rattle.liq_types.specs.declared.replies.Done.{Done}
use Rattle.liq_types.specs.declared.replies.Refusal.{Refusal}
use Rattle.liq_types.specs.declared.replies.Refusal.TheVariants.{AmountLimit, JournalFull}
use Rattle.liq_types.specs.declared.requests.Call.{Call}
use Rattle.liq_types.specs.declared.requests.Call.TheVariants.{Price, Advance, Fund, Take, Send, Open, Adjust, Close, Provide, Withdraw, GainToTrove, Liquidate, LiquidateLowest, Redeem, Claim, Rotate}
use Rattle.liq_types.specs.declared.requests.Command.{Command}
use Rattle.liq_types.specs.declared.requests.Request.{Request}
use Rattle.liq_types.specs.declared.requests.Request.TheVariants.{Do, Ask}
use Rattle.liq_types.specs.Rules.{Rule, first_refusal, where_above}
use Rattle.liq_types.specs.Soundness.{is_sound_client, places_most}
use Rattle.liq_types.specs.State.{State, client_of}
use Rattle.liq_types.specs.Tables.{put}
use Rattle.liq_types.proofs.Ascending.{put-ascends}
use Rattle.liq_types.proofs.MapRows.{all-put}
use Rattle.liq_stability.specs.Position.{words_of}
use Rattle.liq_liquidation.specs.declared.one.One.{One}
use Rattle.liq_liquidation.specs.One.{one}
use Rattle.liq_rule_step.specs.Image.{image}
use Rattle.liq_types.specs.Length.{checkpoint_length}
use Rattle.liq_rule_step.specs.Liquidation.{one_values}
use Rattle.liq_rule_step.specs.Rules.{rules, effect, values, done_of, six}
use Rattle.liq_rule_sound.specs.SoundState.{IsSoundState}
use Rattle.liq_rule_step.specs.Step.{Ruling, Refused, Repeated, Allowed, unless_refused, ruling, after_ruling, accounts, in_range, is_repeated, room_rules, tests, after, step, run}
use Rattle.liq_types.specs.Verbs.{is_rotate}
use Rattle.liq_rule_step.specs.Verbs.{kind}
use Rattle.liq_rule_step.proofs.Allowed.{allowed_number, allowed_rules}
use Rattle.liq_rule_sound.proofs.SoundBorrow.{open_leaves, adjust_leaves, close_leaves, gain_allows, gain_leaves}
use Rattle.liq_rule_sound.proofs.SoundCalls.{price_leaves, advance_leaves, fund_leaves, take_leaves, send_leaves, claim_leaves, provide_leaves, withdraw_leaves}
use Rattle.liq_rule_sound.proofs.SoundFacts.{Finds, Leaves, ClientStands, keys_put, leaves_more, finds_after}
use Rattle.liq_rule_sound.proofs.SoundLiquidate.{liquidate_leaves, lowest_leaves}
use Rattle.liq_rule_sound.proofs.SoundRedeem.{redeem_leaves}
use Rattle.liq_rule_sound.proofs.SoundTests.{SoundFacts, sound_facts, facts_sound}
use Rattle.liq_types.proofs.Tests.{all_false}
use Rattle.std.proofs.lemmas.Bool.{ltb-false}

-- ---- the effect of an allowed call

wide : (few : ℕ) (s t : State) → few ≤ PLACES_A_RECORD → Leaves few s t → Leaves PLACES_A_RECORD s t
wide few s t k h = leaves_more few PLACES_A_RECORD s t k h

pub effect_leaves : (s : State) → Finds s → (call : Call) → is_rotate call ≡ false
    → AllByRecursion (λ a. a < ACCOUNTS) (accounts call) → first_refusal (rules s call) ≡ None
    → Leaves PLACES_A_RECORD s (effect s call)
effect_leaves s f (Price price) r k h = wide 0 s _ (omega arith) (price_leaves s f price h)
effect_leaves s f (Advance minutes) r k h = wide 0 s _ (omega arith) (advance_leaves s f minutes h)
effect_leaves s f (Fund account coll) r k h = wide 0 s _ (omega arith) (fund_leaves s f account coll k.0 h)
effect_leaves s f (Take account coll) r k h = wide 0 s _ (omega arith) (take_leaves s f account coll k.0 h)
effect_leaves s f (Send from to lusd) r k h = wide 0 s _ (omega arith) (send_leaves s f from to lusd k.0 k.1.0 h)
effect_leaves s f (Open account coll borrow bound hint) r k h =
    wide 0 s _ (omega arith) (open_leaves s f account coll borrow bound hint k.0 h)
effect_leaves s f (Adjust account coll_in coll_out borrow repay bound hint) r k h =
    wide 0 s _ (omega arith) (adjust_leaves s f account bound (record {
      coll_in = coll_in;
      coll_out = coll_out;
      borrow = borrow;
      repay = repay;
    }) k.0 h)
effect_leaves s f (Close account) r k h = wide 0 s _ (omega arith) (close_leaves s f account k.0 h)
effect_leaves s f (Provide account lusd) r k h = wide 0 s _ (omega arith) (provide_leaves s f account lusd k.0 h)
effect_leaves s f (Withdraw account lusd) r k h = wide 0 s _ (omega arith) (withdraw_leaves s f account lusd k.0 h)
effect_leaves s f (GainToTrove account hint) r k h =
    wide 0 s _ (omega arith) (gain_leaves s f account k.0 (gain_allows s account hint h).there)
effect_leaves s f (Liquidate liquidator account) r k h =
    wide 3 s _ (omega arith) (liquidate_leaves s f liquidator account k.0)
effect_leaves s f (LiquidateLowest liquidator count) r k h =
    let few = ltb-false LOWEST_MOST count (all_false (rules s (LiquidateLowest liquidator count)) h).1.0 in
    wide (3 * count) s _ (omega (arith, few)) (lowest_leaves count s f liquidator k.0)
effect_leaves s f (Redeem account lusd bound hint) r k h =
    wide 0 s _ (omega arith) (redeem_leaves s f account lusd bound h k.0)
effect_leaves s f (Claim account) r k h = wide 0 s _ (omega arith) (claim_leaves s f account k.0 h)
effect_leaves s f Rotate r k h = cc

-- ---- the kept reply

pub kind_range : (call : Call) → (1 ≤ kind call) × (kind call ≤ 16)
kind_range (Price price) = (omega arith, omega arith)
kind_range (Advance minutes) = (omega arith, omega arith)
kind_range (Fund account coll) = (omega arith, omega arith)
kind_range (Take account coll) = (omega arith, omega arith)
kind_range (Send from to lusd) = (omega arith, omega arith)
kind_range (Open account coll borrow bound hint) = (omega arith, omega arith)
kind_range (Adjust account coll_in coll_out borrow repay bound hint) = (omega arith, omega arith)
kind_range (Close account) = (omega arith, omega arith)
kind_range (Provide account lusd) = (omega arith, omega arith)
kind_range (Withdraw account lusd) = (omega arith, omega arith)
kind_range (GainToTrove account hint) = (omega arith, omega arith)
kind_range (Liquidate liquidator account) = (omega arith, omega arith)
kind_range (LiquidateLowest liquidator count) = (omega arith, omega arith)
kind_range (Redeem account lusd bound hint) = (omega arith, omega arith)
kind_range (Claim account) = (omega arith, omega arith)
kind_range Rotate = (omega arith, omega arith)

-- what a reply does not show is 0
kept_clear : (s : State) (call : Call) (n : ℕ) → is_sound_client (record { last = n; kept = done_of s call }) ≡ true
kept_clear s (Price price) n = refl
kept_clear s (Advance minutes) n = refl
kept_clear s (Fund account coll) n = refl
kept_clear s (Take account coll) n = refl
kept_clear s (Send from to lusd) n = refl
kept_clear s (Open account coll borrow bound hint) n = refl
kept_clear s (Adjust account coll_in coll_out borrow repay bound hint) n = refl
kept_clear s (Close account) n = refl
kept_clear s (Provide account lusd) n = refl
kept_clear s (Withdraw account lusd) n = refl
kept_clear s (GainToTrove account hint) n = refl
kept_clear s (Liquidate liquidator account) n = by (one s account) where
  by : (r : Result One Refusal)
      → is_sound_client (record { last = n; kept = record { kind = 12; values = six (one_values r) } }) ≡ true
  by (Ok made) = refl
  by (Err refusal) = refl
kept_clear s (LiquidateLowest liquidator count) n = refl
kept_clear s (Redeem account lusd bound hint) n = refl
kept_clear s (Claim account) n = refl
kept_clear s Rotate n = refl

six_values : (used : List ℕ) → length (six used) ≡ 6
six_values used =
    let all = length-append used (replicate 6 0) in
    let few = length-take 6 (used ++ replicate 6 0) in
    omega (arith, all, few)

client_stands : (s : State) (c : Command) → 1 ≤ c.number
    → ClientStands (record { last = c.number; kept = done_of s c.call })
client_stands s c some =
    record {
      row = record { last = some; kind = kind_range c.call; values = six_values (values s c.call) };
      kept = kept_clear s c.call c.number;
    }

-- ---- what an allowed command has

all_left : {X : Type 0} (P : X → Type 0) (xs ys : List X) → AllByRecursion P (xs ++ ys) → AllByRecursion P xs
all_left P [] ys h = tt
all_left P (x ∷ xs) ys h = (h.0, all_left P xs ys h.1)

all_right : {X : Type 0} (P : X → Type 0) (xs ys : List X) → AllByRecursion P (xs ++ ys) → AllByRecursion P ys
all_right P [] ys h = h
all_right P (x ∷ xs) ys h = all_right P xs ys h.1

below_all : (numbers : List ℕ) → AllByRecursion (λ (rule : Rule). rule.0 ≡ false) (map in_range numbers)
    → AllByRecursion (λ a. a < ACCOUNTS) numbers
below_all [] h = tt
below_all (n ∷ ns) h = (below n h.0, below_all ns h.1) where
  below : (m : ℕ) → nat_le ACCOUNTS m ≡ false → m < ACCOUNTS
  below m e = grind (arith, nat_tests, e)

pub record IsAllowed (s : State) (c : Command) : Type 0 where
  pub client : c.client < ACCOUNTS
  pub number : 1 ≤ c.number
  pub accounts : AllByRecursion (λ a. a < ACCOUNTS) (accounts c.call)
  pub rules : first_refusal (rules s c.call) ≡ None
  pub room : AllByRecursion (λ (rule : Rule). rule.0 ≡ false) (room_rules s c)

pub allowed_has : (s : State) (c : Command) → ruling s c ≡ Allowed → IsAllowed s c
allowed_has s c h =
    let first = unless (first_refusal (in_range c.client ∷ [])) _ h in
    let rest = unless (first_refusal (tests s c)) Allowed (not_again (is_repeated s c) (client_of s c.client).kept _
    first.1) in
    let all = all_false (tests s c) rest.0 in
    let falses : Rule → Type 0 = λ (rule : Rule). rule.0 ≡ false in
    let verb = all_left falses (map in_range (accounts c.call) ++ rules s c.call) (room_rules s c) all.1 in
    let number = allowed_number s c h in
    record {
      client = (below_all (c.client ∷ []) (all_false (in_range c.client ∷ []) first.0)).0;
      number = omega (arith, number);
      accounts = below_all (accounts c.call) (all_left falses (map in_range (accounts c.call)) (rules s c.call) verb);
      rules = allowed_rules s c h;
      room = all_right falses (map in_range (accounts c.call) ++ rules s c.call) (room_rules s c) all.1;
    }
  where
    unless : (o : Option Refusal) (r : Ruling) → unless_refused o r ≡ Allowed → (o ≡ None) × (r ≡ Allowed)
    unless None r e = (refl, e)
    unless (Some refusal) r e = cc

    not_again : (b : Bool) (kept : Done) (r : Ruling) → cond b (Repeated kept) r ≡ Allowed → r ≡ Allowed
    not_again true kept r e = cc
    not_again false kept r e = e

-- ---- a command is noted

noted_facts : (s t : State) (c : Command) (records : ℕ) → Finds t → c.client < ACCOUNTS → 1 ≤ c.number
    → records ≤ RECORDS_MOST → (words_of t).scale ≤ places_most t.generation records
    → (words_of t).epoch ≤ places_most t.generation records
    → SoundFacts (record t {
      records = records;
      clients = put t.clients c.client (record {
        last = c.number;
        kept = done_of s c.call;
      });
    })
noted_facts s t c records f client number few scale epoch =
    let h = f.stands in
    let k = f.balanced.homes in
    let row : Client = record { last = c.number; kept = done_of s c.call } in
    record {
      stands = record {
        formed = h.formed;
        troves = h.troves;
        pool = h.pool;
        trove_keys = h.trove_keys;
        rows = record {
          spread = h.spread;
          wallets = h.wallets;
          surplus = h.surplus;
          deposit_keys = h.deposit_keys;
          clients = record {
            ascend = put-ascends t.clients c.client row h.clients.ascend;
            keys = keys_put t.clients c.client row client h.clients.keys;
            stand = all-put ClientStands t.clients c.client row (client_stands s c number) h.clients.stand;
          };
        };
      };
      balanced = record {
        homes = record { coll = k.coll; lusd = k.lusd; reserve = k.reserve; surplus = k.surplus };
        coll_limit = f.balanced.coll_limit;
        debt_limit = f.balanced.debt_limit;
      };
      limited = record { coll = f.limited.coll; debt = f.limited.debt };
      ranges = f.ranges;
      records = few;
      scale = scale;
      epoch = epoch;
    }

pub finds : (s : State) → SoundFacts s → Finds s
finds s h = record { stands = h.stands; balanced = h.balanced; limited = h.limited; ranges = h.ranges }

-- the journal begins anew
pub rotate_of : (call : Call) → is_rotate call ≡ true → call ≡ Rotate
rotate_of Rotate h = refl
rotate_of _ h = cc

rotated : (s : State) → SoundFacts s → s.generation + 1 ≤ GENERATIONS_MOST
    → Finds (record s { generation = s.generation + 1; limit = LIM })
rotated s h room =
    let k = h.balanced.homes in
    let r = h.ranges in
    let g = h.stands in
    record {
      stands = record {
        formed = g.formed;
        troves = g.troves;
        pool = g.pool;
        trove_keys = g.trove_keys;
        rows = g.rows;
      };
      balanced = record {
        homes = record { coll = k.coll; lusd = k.lusd; reserve = k.reserve; surplus = k.surplus };
        coll_limit = h.balanced.coll_limit;
        debt_limit = h.balanced.debt_limit;
      };
      limited = record { coll = h.balanced.coll_limit; debt = h.balanced.debt_limit };
      ranges = record {
        price_least = r.price_least;
        price_most = r.price_most;
        minute = r.minute;
        fee_minute = r.fee_minute;
        base = r.base;
        first_generation = omega arith;
        last_generation = room;
        limit =
            inr refl;
      };
    }

abbrev noted_as : State → Command → Bool → Call → State
noted_as s c b call = record (effect s call) {
  records = cond b 0 ((effect s call).records + 1);
  clients = put (effect s call).clients c.client (record { last = c.number; kept = done_of s c.call });
}

abbrev room_as : State → Command → Bool → List Rule
room_as s c b = cond b (where_above (s.generation + 1) GENERATIONS_MOST AmountLimit
    ∷ where_above (checkpoint_length (image (after s c))) CHECKPOINT_BYTES_MOST AmountLimit ∷ [])
    ((nat_le RECORDS_MOST s.records, JournalFull RECORDS_MOST) ∷ [])

after_by : (s : State) → SoundFacts s → (c : Command) → IsAllowed s c → (b : Bool) → is_rotate c.call ≡ b
    → AllByRecursion (λ (rule : Rule). rule.0 ≡ false) (room_as s c b) → SoundFacts (noted_as s c b c.call)
after_by s h c a true e room =
    let generation = ltb-false GENERATIONS_MOST (s.generation + 1) room.0 in
    let first = h.ranges.first_generation in
    let next : State = record s { generation = s.generation + 1; limit = LIM } in
    subst (λ (call : Call). SoundFacts (noted_as s c true call)) (sym (rotate_of c.call e))
    (noted_facts s next c 0 (rotated s h generation) a.client a.number (omega arith) (omega (
      arith,
      h.scale,
      h.records,
      first,
    )) (omega (arith, h.epoch, h.records, first)))
after_by s h c a false e room =
    let left = effect_leaves s (finds s h) c.call e a.accounts a.rules in
    let few : s.records < RECORDS_MOST = less s.records room.0 in
    let r = left.rest in
    noted_facts s (effect s c.call) c ((effect s c.call).records + 1) (finds_after s (effect s c.call) left) a.client
    a.number
    (omega (arith, few, r.records))
    (omega (arith, h.scale, r.scale, r.generation, r.records))
    (omega (arith, h.epoch, r.epoch, r.generation, r.records))
  where
    less : (n : ℕ) → nat_le RECORDS_MOST n ≡ false → n < RECORDS_MOST
    less n q = grind (arith, nat_tests, q)

pub after_sound : (s : State) → IsSoundState s → (c : Command) → ruling s c ≡ Allowed → IsSoundState (after s c)
after_sound s h c allowed =
    let a = allowed_has s c allowed in
    facts_sound (after s c) (after_by s (sound_facts s h) c a (is_rotate c.call) refl a.room)

-- ---- the step, and whole runs

ruled_sound : (s : State) → IsSoundState s → (c : Command) (r : Ruling) → ruling s c ≡ r
    → IsSoundState (after_ruling s c r).0
ruled_sound s h c (Refused refusal) e = h
ruled_sound s h c (Repeated kept) e = h
ruled_sound s h c Allowed e = after_sound s h c e

pub step_sound : (s : State) → IsSoundState s → (request : Request) → IsSoundState (step s request).0
step_sound s h (Do c) = ruled_sound s h c (ruling s c) refl
step_sound s h (Ask query) = h

pub run_sound : (requests : List Request) (s : State) → IsSoundState s → IsSoundState (run s requests).0
run_sound [] s h = h
run_sound (request ∷ requests) s h = run_sound requests (step s request).0 (step_sound s h request)
