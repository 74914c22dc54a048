-- What holds of all that is kept, along the calls of a value.
use denote.Struct.Props.{props}
use Rattle.std.proofs.Common.{◌≡◌, ℕ, ◌+◌, ◌-◌, ◌≤◌, Bool, true, false, cond, List, [], ◌∷◌, ◌++◌, map, refl, ap, sym, ◌∙◌, subst, arith, Some, None, Option, Result, Ok, Err}
use Rattle.std.specs.Prelude.{◌==◌, ◌||◌, OnOk, OnErr}
use Rattle.std.specs.List.{AllByRecursion}
use Rattle.std.specs.Option.{is_some}
use Rattle.std.proofs.Math.Logic.{∥∥₁_elim, ∥∥₁_map}
use Rattle.std.proofs.lemmas.Bool.Decides.{nat_tests}
use Rattle.liq_types.specs.declared.amounts.TheConstants.{LIM, P_OPENING}
use Rattle.liq_types.specs.declared.events.PoolEvent.{PoolEvent}
use Rattle.liq_types.specs.declared.events.PoolEvent.TheVariants as event
use Rattle.liq_types.specs.PlainLedger.{AreOwnedBelow, over_accounts}
use Rattle.liq_types.specs.Tables.{at}
use Rattle.liq_stability.specs.Lawful.{IsLawfulEvent, IsWithinLimit}
use Rattle.liq_stability.specs.Own.{after_event}
use Rattle.liq_stability.specs.declared.words.PoolWords.{PoolWords}
use Rattle.liq_stability.proofs.Pool.{balance_within, owned-total}
use Rattle.liq_rewards.specs.declared.earner.Earner.{Earner}
use Rattle.liq_rewards.specs.declared.sharing.Sharing.{Sharing}
use Rattle.liq_rewards.specs.declared.issuance.TheConstants.{UNITS_MOST}
use Rattle.liq_rewards.specs.Issued.{issued}
use Rattle.liq_rewards.specs.Timed.{Timed, events_of, state_of, minute_of, AreInOrder, due_at, is_shared_at, unshared_of, unshared_at}
use Rattle.liq_rewards.specs.Earner.{no_earner, sharing_of, dealt_with, earner_after, reward_by, allowance_by, IsSmallDue, IsSmall, CanGoOn}
use Rattle.liq_rewards.specs.Earning.{rise_by, reward_at}
use Rattle.liq_rewards.specs.Kept.{Kept, earner_in, has_row, HasRoomFor, IsEarnerOf, words_kept, IsKeptOf, MayHappen, words_then, CanHappen, row_by, row_of}
use Rattle.liq_rewards.proofs.Dealing.{IsDealtOf, dealt, reads, allows, small_dealt, small_kept, small_reward}
use Rattle.liq_rewards.proofs.Issuing.{issued-monotone}
use Rattle.liq_rewards.proofs.Keeping.{all_after, others_after, words_follow, account-dealt}
use Rattle.liq_rewards.proofs.Conserving.{all_units, all_rewards, up_to}
use Rattle.liq_rewards.proofs.Small.{served, happens, stands, place_few, due_most, units_most}

-- ---- nothing

-- the words of a pool in which nothing has happened: the product is whole
abbrev opening_pool : PoolWords
opening_pool = record { p = P_OPENING; scale = 0; epoch = 0; sum = 0; total = 0; coll = 0 }

pub none_kept : (words : PoolWords) → words ≡ opening_pool → (rows : List Earner) → rows ≡ [] → IsKeptOf (record {
  minute = 0;
  due = 0;
  unshared = 0;
  words = words;
  earners = rows;
}) []
none_kept words w rows r =
    subst (λ (words : PoolWords). IsKeptOf (record { minute = 0; due = 0; unshared = 0; words = words; earners = rows })
    []) (sym w)
    (subst (λ (rows : List Earner). IsKeptOf (record {
      minute = 0;
      due = 0;
      unshared = 0;
      words = opening_pool;
      earners = rows;
    }) [])
    (sym r) (record {
      lawful = record { total = omega arith; coll = omega arith };
      order = tt;
      few = omega arith;
      due = none_due;
      unshared = refl;
      words = refl;
      rows = tt;
      others = λ account e. record {
        amount = refl;
        place = refl;
        earned = refl;
        own_events = refl;
        weight = refl;
        withheld = refl;
        costs = refl;
        deposit = tt;
      };
    })) where
      none_due : 0 ≡ issued 0 - issued 0
      none_due = omega arith

-- ---- numbers that fit, where the list is not known

module _ (k : Kept) (past : List Timed) (h : IsKeptOf k past) where
  pub due_fits : k.due ≤ UNITS_MOST
  due_fits = let most = due_most k.minute past in omega (arith, most, h.due)

  pub unshared_fits : k.unshared + k.due ≤ UNITS_MOST
  unshared_fits =
      let most = units_most k.minute past h.order in
      let one = either (is_shared_at k.minute past) (due_at k.minute past) in
      omega (arith, most, one, h.due, h.unshared) where
        either : (b : Bool) (due : ℕ) → cond b due 0 + cond b 0 due ≡ due
        either true due = omega arith
        either false due = omega arith

  pub product_fits : k.words.p ≤ P_OPENING
  product_fits = let is = ap (λ (w : PoolWords). w.p) h.words in let most = (stands past h.lawful).range.most
      in omega (arith, is, most)

  sharing_is : sharing_of k.words k.due ≡ sharing_of (words_kept past) (due_at k.minute past)
  sharing_is = ap (λ (w : PoolWords). sharing_of w k.due) h.words ∙ ap (sharing_of (words_kept past)) h.due

  pub dealt_is : (e : Earner) → IsEarnerOf e past
      → IsDealtOf (dealt_with e k.words (sharing_of k.words k.due)) k.minute past
  dealt_is e own =
      subst (λ (x : Earner). IsDealtOf x k.minute past)
      (sym (ap (λ (w : PoolWords). dealt_with e w (sharing_of k.words k.due)) h.words
      ∙ ap (λ (o : Option Sharing). dealt_with e (words_kept past) o) sharing_is))
      (dealt past h.lawful e k.minute own)

  pub before_is : (e : Earner) → IsEarnerOf e past → IsSmall e
  before_is e own = small_kept e k.minute past h.lawful h.order h.few own

  pub after_is : (e : Earner) → IsEarnerOf e past → IsSmall (dealt_with e k.words (sharing_of k.words k.due))
  after_is e own = small_dealt (dealt_with e k.words (sharing_of k.words k.due)) k.minute past h.lawful h.order h.few
      (dealt_is e own)

  pub reward_is : (e : Earner) → IsEarnerOf e past → reward_by (dealt_with e k.words (sharing_of k.words k.due))
      ≤ UNITS_MOST
  reward_is e own = small_reward (dealt_with e k.words (sharing_of k.words k.due)) k.minute past h.lawful h.order h.few
      (dealt_is e own)

  -- the row of an account
  found_by : (account : ℕ) (es : List Earner) → AllByRecursion (λ e. IsEarnerOf e past) es → (has_row es account ≡ false
      → IsEarnerOf (no_earner account) past) → IsEarnerOf (earner_in es account) past × ((earner_in es account).account
      ≡ account)
  found_by account [] rows others = (others refl, refl)
  found_by account (e ∷ es) rows others = by (e.account == account) refl others (found_by account es rows.1) where
    by : (b : Bool) → (e.account == account) ≡ b → ((b || has_row es account) ≡ false
        → IsEarnerOf (no_earner account) past)
        → ((has_row es account ≡ false → IsEarnerOf (no_earner account) past) → IsEarnerOf (earner_in es account) past
        × ((earner_in es account).account ≡ account))
        → IsEarnerOf (cond b e (earner_in es account)) past × ((cond b e (earner_in es account)).account ≡ account)
    by true same k rest = (rows.0, grind (arith, nat_tests, same))
    by false other k rest = rest k

  pub found : (account : ℕ) → IsEarnerOf (earner_in k.earners account) past × ((earner_in k.earners account).account
      ≡ account)
  found account = found_by account k.earners h.rows (h.others account)

small_from : (e : Earner) → ∥ (IsSmall e) ∥₁ → IsSmall e
small_from e some = record {
  amount = ∥∥₁_elim some (search props) (λ s. s.amount);
  scale = ∥∥₁_elim some (search props) (λ s. s.scale);
  own_events = ∥∥₁_elim some (search props) (λ s. s.own_events);
  weight = ∥∥₁_elim some (search props) (λ s. s.weight);
  withheld = ∥∥₁_elim some (search props) (λ s. s.withheld);
  costs = ∥∥₁_elim some (search props) (λ s. s.costs);
  sums = λ one. record {
    p = ∥∥₁_elim some (search props) (λ s. (s.sums one).p);
    first = ∥∥₁_elim some (search props) (λ s. (s.sums one).first);
    second = ∥∥₁_elim some (search props) (λ s. (s.sums one).second);
    third = ∥∥₁_elim some (search props) (λ s. (s.sums one).third);
    fourth = ∥∥₁_elim some (search props) (λ s. (s.sums one).fourth);
  };
}

module _ (k : Kept) (some : ∥ ((past : List Timed) × IsKeptOf k past) ∥₁) where
  pub due_small : k.due ≤ UNITS_MOST
  due_small = ∥∥₁_elim some (search props) (λ p. due_fits k p.0 p.1)

  pub unshared_small : k.unshared + k.due ≤ UNITS_MOST
  unshared_small = ∥∥₁_elim some (search props) (λ p. unshared_fits k p.0 p.1)

  pub product_small : k.words.p ≤ P_OPENING
  product_small = ∥∥₁_elim some (search props) (λ p. product_fits k p.0 p.1)

  can_by : (es : List Earner) → IsSmallDue k.words (sharing_of k.words k.due) → ∥ ((past : List Timed) × IsKeptOf k past
      × AllByRecursion (λ e. IsEarnerOf e past) es) ∥₁ → AllByRecursion (CanGoOn k.words (sharing_of k.words k.due)) es
  can_by [] due all = tt
  can_by (e ∷ es) due all = (
    record {
      due = due;
      before = small_from e (∥∥₁_map all (λ p. before_is k p.0 p.1 e p.2.0));
      after = small_from (dealt_with e k.words (sharing_of k.words k.due))
          (∥∥₁_map all (λ p. after_is k p.0 p.1 e p.2.0));
      reward = ∥∥₁_elim all (search props) (λ p. reward_is k p.0 p.1 e p.2.0);
    },
    can_by es due (∥∥₁_map all (λ p. (p.0, p.1, p.2.1))),
  )

  pub all_can : IsSmallDue k.words (sharing_of k.words k.due)
      → AllByRecursion (CanGoOn k.words (sharing_of k.words k.due)) k.earners
  all_can due = can_by k.earners due (∥∥₁_map some (λ p. (p.0, p.1, p.1.rows)))

  pub row_before : (account : ℕ) → IsSmall (earner_in k.earners account)
  row_before account = small_from (earner_in k.earners account)
      (∥∥₁_map some (λ p. before_is k p.0 p.1 (earner_in k.earners account) (found k p.0 p.1 account).0))

  pub row_after : (account : ℕ) → IsSmall (dealt_with (earner_in k.earners account) k.words (sharing_of k.words k.due))
  row_after account = small_from (dealt_with (earner_in k.earners account) k.words (sharing_of k.words k.due))
      (∥∥₁_map some (λ p. after_is k p.0 p.1 (earner_in k.earners account) (found k p.0 p.1 account).0))

  pub row_reward : (account : ℕ)
      → reward_by (dealt_with (earner_in k.earners account) k.words (sharing_of k.words k.due)) ≤ UNITS_MOST
  row_reward account = ∥∥₁_elim some (search props) (λ p. reward_is k p.0 p.1 (earner_in k.earners account)
      (found k p.0 p.1 account).0)

-- ---- what is told

pub row_is : (k : Kept) (past : List Timed) → IsKeptOf k past → (account : ℕ)
    → row_by account (dealt_with (earner_in k.earners account) k.words (sharing_of k.words k.due))
    ≡ row_of account k.minute past
row_is k past h account =
    let e = earner_in k.earners account in
    let x = dealt_with e k.words (sharing_of k.words k.due) in
    let own = found k past h account in
    let is = dealt_is k past h e own.0 in
    let same : x.account ≡ account = account-dealt e k.words (sharing_of k.words k.due) ∙ own.1 in
    told account (reward_by x) (allowance_by x) x.account (reads x k.minute past h.lawful is)
    (allows x k.minute past is) same where
      told : (account reward allow a : ℕ) → reward ≡ (row_of a k.minute past).reward
          → allow ≡ (row_of a k.minute past).allow → a ≡ account
          → record { account = account; reward = reward; allow = allow } ≡ row_of account k.minute past
      told account reward allow a r l same = rw (r, l, same) refl

pub unshared_is : (k : Kept) (past : List Timed) → IsKeptOf k past
    → k.unshared + cond (is_some (sharing_of k.words k.due)) 0 k.due ≡ unshared_at k.minute past
unshared_is k past h =
    ap (λ n. n + cond (is_some (sharing_of k.words k.due)) 0 k.due) h.unshared
    ∙ ap (λ (o : Option Sharing). unshared_of past + cond (is_some o) 0 k.due) (sharing_is k past h)
    ∙ ap (λ d. unshared_of past + cond (is_some (sharing_of (words_kept past) (due_at k.minute past))) 0 d) h.due
    ∙ ap (λ n. unshared_of past + n) (by (is_shared_at k.minute past)) where
      by : (b : Bool) → let o : Option Sharing =
          cond b (Some (record { units = due_at k.minute past; rise = rise_by k.minute past })) None
          in cond (is_some o) 0 (due_at k.minute past) ≡ cond b 0 (due_at k.minute past)
      by true = refl
      by false = refl

-- ---- a minute

order_later : (minute next : ℕ) (past : List Timed) → minute ≤ next → AreInOrder minute past → AreInOrder next past
order_later minute next [] h order = tt
order_later minute next (t ∷ past) h order = (omega (arith, h, order.0), order.1)

pub minute_kept : (k : Kept) (past : List Timed) (minute more : ℕ) → k.minute ≤ minute
    → more ≡ issued minute - issued k.minute → IsKeptOf k past
    → IsKeptOf (record k { minute = minute; due = k.due + more }) past
minute_kept k past minute more later is h = record {
  lawful = h.lawful;
  order = order_later k.minute minute past later h.order;
  few = h.few;
  due =
      let first = issued-monotone (minute_of past) k.minute (up_to k.minute past h.order) in
      let second = issued-monotone k.minute minute later in
      omega (arith, h.due, is, first, second);
  unshared = h.unshared;
  words = h.words;
  rows = h.rows;
  others = h.others;
}

-- ---- room

rows-last : (es : List Earner) (e : Earner) (account : ℕ) → has_row (es ++ e ∷ []) account
    ≡ (has_row es account || e.account == account)
rows-last [] e account = by (e.account == account) where
  by : (b : Bool) → (b || false) ≡ (false || b)
  by true = refl
  by false = refl
rows-last (x ∷ es) e account = by (x.account == account) (rows-last es e account) where
  by : (b : Bool) → has_row (es ++ e ∷ []) account ≡ (has_row es account || e.account == account)
      → (b || has_row (es ++ e ∷ []) account) ≡ ((b || has_row es account) || e.account == account)
  by true h = refl
  by false h = h

pub room_made : (es : List Earner) (account : ℕ) → has_row (es ++ no_earner account ∷ []) account ≡ true
room_made es account = rows-last es (no_earner account) account ∙ ap (λ b. has_row es account || b) (itself account)
    ∙ by (has_row es account) where
      itself : (n : ℕ) → (n == n) ≡ true
      itself n = grind (arith, nat_tests)

      by : (b : Bool) → (b || true) ≡ true
      by true = refl
      by false = refl

pub room_stays : (es : List Earner) (e : Earner) (account : ℕ) → has_row es account ≡ true
    → has_row (es ++ e ∷ []) account ≡ true
room_stays es e account h = rows-last es e account ∙ ap (λ b. b || e.account == account) h

all-last : (P : Earner → Type 0) (es : List Earner) (e : Earner) → AllByRecursion P es → P e
    → AllByRecursion P (es ++ e ∷ [])
all-last P [] e h p = (p, tt)
all-last P (x ∷ es) e h p = (h.0, all-last P es e h.1 p)

none_before : (a b : Bool) → (a || b) ≡ false → a ≡ false
none_before true b h = absurd cc
none_before false b h = refl

pub room_kept : (k : Kept) (past : List Timed) (account : ℕ) → has_row k.earners account ≡ false → IsKeptOf k past
    → IsKeptOf (record k { earners = k.earners ++ no_earner account ∷ [] }) past
room_kept k past account none h = record {
  lawful = h.lawful;
  order = h.order;
  few = h.few;
  due = h.due;
  unshared = h.unshared;
  words = h.words;
  rows = all-last (λ e. IsEarnerOf e past) k.earners (no_earner account) h.rows (h.others account none);
  others = λ q e. h.others q (none_before (has_row k.earners q) (account
      == q) (sym (rows-last k.earners (no_earner account) q) ∙ e));
}

pub add_kept : {F : Type 0} (k : Kept) (past : List Timed) (account : ℕ) (r : Result (Unit {0}) F) (rows : List Earner)
    → OnOk r (rows ≡ k.earners ++ no_earner account ∷ []) → OnErr r (rows ≡ k.earners) → has_row k.earners account
    ≡ false → IsKeptOf k past
    → IsKeptOf (record k { earners = rows }) past
add_kept k past account (Ok u) rows made same none h =
    subst (λ (es : List Earner). IsKeptOf (record k { earners = es }) past) (sym made) (room_kept k past account none h)
add_kept k past account (Err f) rows made same none h =
    subst (λ (es : List Earner). IsKeptOf (record k { earners = es }) past) (sym same) h

pub add_made : {F : Type 0} (r : Result (Unit {0}) F) (es rows : List Earner) (account : ℕ)
    → OnOk r (rows ≡ es ++ no_earner account ∷ []) → OnOk r (has_row rows account ≡ true)
add_made (Ok u) es rows account made = ap (λ (t : List Earner). has_row t account) made ∙ room_made es account
add_made (Err f) es rows account made = tt

pub add_stays : {F : Type 0} (r : Result (Unit {0}) F) (es rows : List Earner) (account a : ℕ)
    → OnOk r (rows ≡ es ++ no_earner account ∷ []) → OnErr r (rows ≡ es) → has_row es a ≡ true → has_row rows a ≡ true
add_stays (Ok u) es rows account a made same had = ap (λ (t : List Earner). has_row t a) made
    ∙ room_stays es (no_earner account) a had
add_stays (Err f) es rows account a made same had = ap (λ (t : List Earner). has_row t a) same ∙ had

-- ---- an event

pub can_happen : (k : Kept) (past : List Timed) (ev : PoolEvent) → IsKeptOf k past
    → MayHappen (record { minute = k.minute; event = ev }) past → CanHappen k.words ev
can_happen k past ev h may = subst (λ (w : PoolWords). CanHappen w ev) (sym h.words)
    (by ev (happens (record { minute = k.minute; event = ev }) past may.lawful)) where
      by : (ev : PoolEvent) → IsWithinLimit LIM (state_of past) × IsLawfulEvent (state_of past) ev
          × IsWithinLimit LIM (after_event (state_of past) ev) → CanHappen (words_kept past) ev
      by (event.Own owner put out gain left) now =
          let cap = balance_within (state_of past) (at (state_of past).deposits owner) in
          let total = owned-total (state_of past) (stands past h.lawful).covered owner put out in
          (omega (arith, cap, now.1.paid_is), omega (arith, cap, now.1.paid_is, total, now.2.total))
      by (event.Offset debt coll total rise) now =
          let few = place_few past h.lawful in
          record {
            some = now.1.some;
            within = omega (arith, now.1.within, now.1.total_is);
            limit = now.0.total;
            least = (stands past h.lawful).range.least;
            most = (stands past h.lawful).range.most;
            scale = omega (arith, few.scale, h.few);
            epoch = omega (arith, few.epoch, h.few);
            sum = refl;
            coll = refl;
          }

pub event_kept : (k : Kept) (past : List Timed) (ev : PoolEvent) → IsKeptOf k past
    → MayHappen (record { minute = k.minute; event = ev }) past → HasRoomFor k.earners ev
    → IsKeptOf (record {
      minute = k.minute;
      due = 0;
      unshared = k.unshared + cond (is_some (sharing_of k.words k.due)) 0
          k.due;
      words = words_then k.words ev;
      earners = map (earner_after k.words (sharing_of k.words k.due) ev) k.earners;
    }) (record { minute = k.minute; event = ev } ∷ past)
event_kept k past ev h may room =
    subst (λ (w : PoolWords). IsKeptOf (record {
      minute = k.minute;
      due = 0;
      unshared = k.unshared + cond (is_some (sharing_of k.words k.due)) 0 k.due;
      words = words_then w ev;
      earners =
          map (earner_after w (sharing_of k.words k.due) ev) k.earners;
    }) (record { minute = k.minute; event = ev } ∷ past))
    (sym h.words)
    (subst (λ (o : Option Sharing). IsKeptOf (record {
      minute = k.minute;
      due = 0;
      unshared = k.unshared + cond (is_some (sharing_of k.words k.due)) 0 k.due;
      words =
          words_then (words_kept past) ev;
      earners = map (earner_after (words_kept past) o ev) k.earners;
    })
    (record { minute = k.minute; event = ev } ∷ past)) (sym (sharing_is k past h))
    (record {
      lawful = may.lawful;
      order = (omega arith, h.order);
      few = omega (arith, may.few);
      due = none_due (issued k.minute);
      unshared = unshared_is k past h;
      words = words_follow past h.lawful k.minute ev may.lawful;
      rows = all_after k.minute past h.lawful ev k.earners h.rows;
      others = λ account e. others_after k.minute past h.lawful ev k.earners room account e (h.others account);
    })) where
      none_due : (n : ℕ) → 0 ≡ n - n
      none_due n = omega arith

-- the same, of numbers that are what an event makes of them
pub event_done : (k : Kept) (past : List Timed) (ev : PoolEvent) (unshared : ℕ) (words : PoolWords) (rows : List Earner)
    (sharing : Option Sharing) → IsKeptOf k past → MayHappen (record { minute = k.minute; event = ev }) past
    → HasRoomFor k.earners ev
    → sharing ≡ sharing_of k.words k.due → unshared ≡ cond (is_some sharing) 0 k.due → words ≡ words_then k.words ev
    → rows ≡ map (earner_after k.words sharing ev) k.earners
    → IsKeptOf (record { minute = k.minute; due = 0; unshared = k.unshared + unshared; words = words; earners = rows })
    (record { minute = k.minute; event = ev } ∷ past)
event_done k past ev unshared words rows sharing h may room o u w r =
    let u1 : unshared ≡ cond (is_some (sharing_of k.words k.due)) 0 k.due = u
    ∙ ap (λ (o : Option Sharing). cond (is_some o) 0 k.due) o in
    let r1 : rows ≡ map (earner_after k.words (sharing_of k.words k.due) ev) k.earners = r
    ∙ ap (λ (o : Option Sharing). map (earner_after k.words o ev) k.earners) o in
    subst (λ n. IsKeptOf (record {
      minute = k.minute;
      due = 0;
      unshared = k.unshared + n;
      words = words;
      earners = rows;
    }) (record { minute = k.minute; event = ev } ∷ past)) (sym u1)
    (subst (λ (v : PoolWords). IsKeptOf (record {
      minute = k.minute;
      due = 0;
      unshared = k.unshared + cond (is_some (sharing_of k.words k.due)) 0 k.due;
      words = v;
      earners = rows;
    })
    (record { minute = k.minute; event = ev } ∷ past)) (sym w)
    (subst (λ (es : List Earner). IsKeptOf (record {
      minute = k.minute;
      due = 0;
      unshared = k.unshared + cond (is_some (sharing_of k.words k.due)) 0 k.due;
      words = words_then k.words ev;
      earners = es;
    }) (record { minute = k.minute; event = ev } ∷ past)) (sym r1)
    (event_kept k past ev h may room)))

pub can_from : (words : PoolWords) (ev : PoolEvent) → ∥ (CanHappen words ev) ∥₁ → CanHappen words ev
can_from words (event.Own owner put out gain left) some = (
  ∥∥₁_elim some (search props) (λ s. s.0),
  ∥∥₁_elim some (search props) (λ s. s.1),
)
can_from words (event.Offset debt coll total rise) some = record {
  some = ∥∥₁_elim some (search props) (λ s. s.some);
  within = ∥∥₁_elim some (search props) (λ s. s.within);
  limit = ∥∥₁_elim some (search props) (λ s. s.limit);
  least = ∥∥₁_elim some (search props) (λ s. s.least);
  most = ∥∥₁_elim some (search props) (λ s. s.most);
  scale = ∥∥₁_elim some (search props) (λ s. s.scale);
  epoch = ∥∥₁_elim some (search props) (λ s. s.epoch);
  sum = ∥∥₁_elim some (search props) (λ s. s.sum);
  coll = ∥∥₁_elim some (search props) (λ s. s.coll);
}

-- ---- all units

pub whole_kept : (k : Kept) (past : List Timed) → IsKeptOf k past → (n : ℕ) → AreOwnedBelow n (events_of past)
    → (unshared : ℕ) → unshared ≡ unshared_at k.minute past
    → over_accounts n (λ account. reward_at account k.minute past) + unshared ≤ issued k.minute
whole_kept k past h n below unshared is =
    let rewards = all_rewards LIM served n past h.lawful below k.minute in
    let units = all_units k.minute past h.order in
    omega (arith, rewards, units, is)
