-- What a lawful list of events keeps of the whole pool: each account by itself, and all accounts together.
use Rattle.std.proofs.Common.{◌≡◌, ℕ, ◌+◌, ◌-◌, ◌*◌, ◌^◌, ◌≤◌, ◌<◌, Bool, true, false, cond, List, [], ◌∷◌, ◌++◌, refl, ap, sym, ◌∙◌, subst, arith, Some, None, Option, length}
use Rattle.std.specs.Prelude.{fold, min, ◌==◌, sum, map}
use Rattle.std.specs.List.{AllByRecursion}
use Rattle.std.specs.Map.{keys_of}
use Rattle.std.specs.Ordering.{nat_cmp, is_eq, match_ordering}
use Rattle.std.specs.declared.cmp.Ordering.{Ordering}
use Rattle.std.specs.declared.cmp.Ordering.TheVariants.{Less, Equal, Greater}
use Rattle.std.proofs.Math.Nat.{mul-le-mul_right, le_of_mul-le-mul_right}
use Rattle.std.proofs.lemmas.Bool.Decides.{nat_tests}
use Rattle.liq_types.specs.declared.amounts.TheConstants.{OFFSET_MOST, P_OPENING, RISES_MOST}
use Rattle.liq_types.specs.declared.events.PoolEvent.{PoolEvent}
use Rattle.liq_types.specs.declared.events.PoolEvent.TheVariants as event
use Rattle.liq_types.specs.PlainLedger.{Share, share_after, total_of, gain_paid, coll_of, IsOwnedBelow, AreOwnedBelow, over_accounts}
use Rattle.liq_types.specs.Product.{ScaledProduct, IsWithinRange, TakesPartUpTo, after_offset, place_of, sumat}
use Rattle.liq_types.specs.State.{State, After, DepositEntry}
use Rattle.liq_types.specs.Tables.{Table, at, put, without}
use Rattle.liq_types.specs.Totals.{pool_total, pool_coll}
use Rattle.liq_types.specs.WellFormed.{AreFinished, IsPoolCovered, Ascends}
use Rattle.liq_types.proofs.Accounts.{over-same, over-plus, over-times, over-le, over-term, over-one, keys-within}
use Rattle.liq_types.proofs.Ranges.{offset_within}
use Rattle.liq_types.proofs.Watching.{Watch, watch_after}
use Rattle.liq_types.proofs.Sums.{SumsAreWithin, now-snoc, all-snoc}
use Rattle.liq_stability.specs.Lawful.{IsLawfulEvent, IsWithinLimit, IsLawfulUpTo}
use Rattle.liq_stability.specs.Own.{owned, offset, with_deposit, amount_after, after_event}
use Rattle.liq_stability.specs.Position.{balance_in, gain_in, balance_of, gain_of}
use Rattle.liq_stability.specs.Words.{words_of}
use Rattle.liq_stability.proofs.Holding.{IsRead}
use Rattle.liq_stability.proofs.LawfulLists.{lawful_limit}
use Rattle.liq_stability.proofs.Pool.{balance_within, gain_within, offset_now, owned-total, owned-coll, offset-total, offset-coll, owned-covered, offset-covered, with_deposit-ascends, words-snoc}
use Rattle.liq_stability.proofs.Standing.{StandsBy, bare_balance, bare_gain, reads, offset_stands, deposit_other, own_stands}

-- ---- the pool

pub record PoolStands (s : State) : Type 0 where
  pub finished : AreFinished s.start
  pub covered : IsPoolCovered s
  pub ascends : Ascends s.deposits
  pub range : IsWithinRange (words_of s)
  pub sums : SumsAreWithin s.start s.offsets

pub pool_owned : (s : State) (account put_in out : ℕ) → out ≤ balance_of s account → PoolStands s
    → PoolStands (owned s account put_in out)
pool_owned s account put_in out within h = record {
  finished = h.finished;
  covered = owned-covered s account put_in out within h.covered;
  ascends = with_deposit-ascends s.deposits account (record {
    amount = amount_after s account put_in out;
    mark = After (length s.offsets);
  }) h.ascends;
  range = h.range;
  sums = h.sums;
}

module _ (most : ℕ) (served : most ≤ 10 ^ (9 * RISES_MOST)) where
  pub pool_offset : (s : State) (debt coll : ℕ) → TakesPartUpTo most (offset_now s debt coll)
      → coll ≤ OFFSET_MOST * debt → PoolStands s → PoolStands (offset s debt coll)
  pool_offset s debt coll takes worth_less h =
      let o = offset_now s debt coll in
      let next : IsWithinRange (after_offset (words_of s) o) = offset_within most served (words_of s) o h.range takes in
      record {
        finished = h.finished;
        covered = offset-covered s debt coll takes.within h.covered;
        ascends = h.ascends;
        range = subst IsWithinRange (sym (words-snoc s debt coll)) next;
        sums = record {
          now =
              subst (λ (v : ScaledProduct). sumat s.start (s.offsets ++ o ∷ []) (place_of v) + OFFSET_MOST * v.p
              ≤ OFFSET_MOST * P_OPENING) (sym (words-snoc s debt coll))
              (now-snoc most s.start s.offsets o h.finished h.range next takes worth_less h.sums);
          all = all-snoc most s.start s.offsets o h.finished h.range next takes worth_less h.sums;
        };
      }

-- ---- all accounts

-- all accounts with an own operation are below n
pub record Whole (n : ℕ) (s : State) (den colls : ℕ) (shares : ℕ → Share) (watches : ℕ → Watch) (gots : ℕ → ℕ) :
    Type 0 where
  pub pool : PoolStands s
  pub owners : AllByRecursion (λ k. k < n) (keys_of s.deposits)
  pub now : (a : ℕ) → (watches a).now ≡ words_of s
  pub dens : (a : ℕ) → (shares a).den ≡ den
  pub some : 0 < den
  pub each : (a : ℕ) → StandsBy s (shares a) (watches a) (gots a) (at s.deposits a)
  pub balances : over_accounts n (λ a. (shares a).bal) ≡ pool_total s * den
  pub gains : over_accounts n (λ a. (shares a).gain) ≡ colls * den
  pub paid : over_accounts n gots ≡ s.gains_paid
  pub colls_are : pool_coll s + s.gains_paid ≡ colls

capped : (most n : ℕ) → n ≤ most → min most n ≡ n
capped most n h = omega arith

-- ---- the caps never act

module _ (n : ℕ) (s : State) (den colls : ℕ) (shares : ℕ → Share) (watches : ℕ → Watch) (gots : ℕ
    → ℕ) (h : Whole n s den colls shares watches gots) where
  bare : (a : ℕ) → IsRead (shares a) (watches a).weight (watches a).own_events (bare_balance s (at s.deposits a))
      (gots a + bare_gain s (at s.deposits a))
  bare a = reads s (shares a) (watches a) (gots a) (at s.deposits a) (h.each a)

  pub all_balances : over_accounts n (λ a. bare_balance s (at s.deposits a)) ≤ pool_total s
  all_balances =
      let each = over-le n (λ a. bare_balance s (at s.deposits a) * den) (λ a. (shares a).bal)
      (λ a low. subst (λ m. bare_balance s (at s.deposits a) * m ≤ (shares a).bal) (h.dens a) (bare a).upper_balance)
      in
      let out = over-times n (λ a. bare_balance s (at s.deposits a)) den in
      le_of_mul-le-mul_right {m = over_accounts n (λ a. bare_balance s (at s.deposits a))} {n = pool_total s} {k = den}
      (omega (arith, each, out, h.balances)) h.some

  pub all_gains : over_accounts n (λ a. bare_gain s (at s.deposits a)) ≤ pool_coll s
  all_gains =
      let each = over-le n (λ a. (gots a + bare_gain s (at s.deposits a)) * den) (λ a. (shares a).gain)
      (λ a low. subst (λ m. (gots a + bare_gain s (at s.deposits a)) * m ≤ (shares a).gain) (h.dens a)
      (bare a).upper_gain) in
      let out = over-times n (λ a. gots a + bare_gain s (at s.deposits a)) den in
      let both : over_accounts n (λ a. gots a + bare_gain s (at s.deposits a)) ≤ colls =
      le_of_mul-le-mul_right {m = over_accounts n (λ a. gots a + bare_gain s (at s.deposits a))} {n = colls} {k = den}
      (omega (arith, each, out, h.gains)) h.some in
      let parts = over-plus n gots (λ a. bare_gain s (at s.deposits a)) in
      omega (arith, both, parts, h.paid, h.colls_are)

  balance_is : (o : Option DepositEntry) → bare_balance s o ≤ pool_total s → balance_in s o ≡ bare_balance s o
  balance_is None k = refl
  balance_is (Some d) k = capped (pool_total s) (bare_balance s (Some d)) k

  gain_is : (o : Option DepositEntry) → bare_gain s o ≤ pool_coll s → gain_in s o ≡ bare_gain s o
  gain_is None k = refl
  gain_is (Some d) k = capped (pool_coll s) (bare_gain s (Some d)) k

  pub balance_bare : (a : ℕ) → a < n → balance_of s a ≡ bare_balance s (at s.deposits a)
  balance_bare a low =
      let one = over-term n (λ q. bare_balance s (at s.deposits q)) a low in
      let all = all_balances in
      balance_is (at s.deposits a) (omega (arith, one, all))

  pub gain_bare : (a : ℕ) → a < n → gain_of s a ≡ bare_gain s (at s.deposits a)
  gain_bare a low =
      let one = over-term n (λ q. bare_gain s (at s.deposits q)) a low in
      let all = all_gains in
      gain_is (at s.deposits a) (omega (arith, one, all))

  pub read : (a : ℕ) → a < n → IsRead (shares a) (watches a).weight (watches a).own_events (balance_of s a)
      (gots a + gain_of s a)
  read a low =
      subst (λ b. IsRead (shares a) (watches a).weight (watches a).own_events b (gots a + gain_of s a))
      (sym (balance_bare a low))
      (subst (λ g. IsRead (shares a) (watches a).weight (watches a).own_events (bare_balance s (at s.deposits a))
      (gots a + g)) (sym (gain_bare a low)) (bare a))

  -- nothing is owed that the pool has not
  pub dust_balances : sum (map (balance_of s) (keys_of s.deposits)) ≤ pool_total s
  dust_balances =
      let some = keys-within (balance_of s) n s.deposits h.pool.ascends h.owners in
      let same = over-same n (balance_of s) (λ a. bare_balance s (at s.deposits a)) balance_bare in
      let all = all_balances in
      omega (arith, some, same, all)

  pub dust_gains : sum (map (gain_of s) (keys_of s.deposits)) ≤ pool_coll s
  dust_gains =
      let some = keys-within (gain_of s) n s.deposits h.pool.ascends h.owners in
      let same = over-same n (gain_of s) (λ a. bare_gain s (at s.deposits a)) gain_bare in
      let all = all_gains in
      omega (arith, some, same, all)

-- ---- an offset

offset_sum : (total den rest : ℕ) → total * den * rest ≡ rest * (den * total)
offset_sum total den rest = omega arith

offset_gains : (colls den total coll balances gains : ℕ) → balances ≡ total * den → gains ≡ colls * den
    → gains * total + balances * coll ≡ (colls + coll) * (den * total)
offset_gains colls den total coll balances gains b g =
    let first : balances * coll ≡ total * den * coll = ap (λ k. k * coll) b in
    let second : gains * total ≡ colls * den * total = ap (λ k. k * total) g in
    omega (arith, first, second)

module _ (most : ℕ) (served : most ≤ 10 ^ (9 * RISES_MOST)) (n : ℕ) where
  offset_whole : (s : State) (den colls : ℕ) (shares : ℕ → Share) (watches : ℕ → Watch) (gots : ℕ
      → ℕ) (debt coll rise : ℕ) → TakesPartUpTo most (offset_now s debt coll) → coll ≤ OFFSET_MOST * debt
      → Whole n s den colls shares watches gots → Whole n (offset s debt coll) (den * pool_total s) (colls + coll)
      (λ a. share_after a (shares a) (event.Offset debt coll (pool_total s) rise)) (λ a. watch_after a (watches a)
      (event.Offset debt coll (pool_total s) rise)) (λ a. gots a + 0)
  offset_whole s den colls shares watches gots debt coll rise takes worth_less h =
      let o = offset_now s debt coll in
      let total = pool_total s in
      record {
        pool = pool_offset most served s debt coll takes worth_less h.pool;
        owners = h.owners;
        now = λ a. ap (λ (v : ScaledProduct). after_offset v o) (h.now a) ∙ sym (words-snoc s debt coll);
        dens = λ a. ap (λ k. k * total) (h.dens a);
        some =
            let pos : 1 ≤ total = omega (arith, takes.some, takes.within) in
            let more : 1 * total ≤ den * total = mul-le-mul_right total h.some in
            omega arith;
        each = λ a.
            subst (λ g. StandsBy (offset s debt coll) (share_after a (shares a) (event.Offset debt coll total rise))
            (watch_after a (watches a) (event.Offset debt coll total rise)) g (at s.deposits a)) (plus_none (gots a))
            (offset_stands most served s debt coll rise h.pool.range takes worth_less a (shares a) (watches a) (gots a)
            (h.now a) (at s.deposits a) (h.each a));
        balances =
            let times = over-times n (λ a. (shares a).bal) (total - debt) in
            let all : over_accounts n (λ a. (shares a).bal) * (total - debt) ≡ total * den * (total - debt) =
            ap (λ k. k * (total - debt)) h.balances in
            let turned = offset_sum total den (total - debt) in
            let left : pool_total (offset s debt coll) * (den * total) ≡ (total - debt) * (den * total) =
            ap (λ k. k * (den * total)) (offset-total s debt coll) in
            times ∙ all ∙ turned ∙ sym left;
        gains =
            let parts = over-plus n (λ a. (shares a).gain * total) (λ a. coll * (shares a).bal) in
            let first = over-times n (λ a. (shares a).gain) total in
            let turned = over-same n (λ a. coll * (shares a).bal) (λ a. (shares a).bal * coll) (λ a low. turn coll
            (shares a).bal) in
            let second = over-times n (λ a. (shares a).bal) coll in
            let all = offset_gains colls den total coll (over_accounts n (λ a. (shares a).bal))
            (over_accounts n (λ a. (shares a).gain)) h.balances h.gains in
            omega (arith, parts, first, turned, second, all);
        paid = over-same n (λ a. gots a + 0) gots (λ a low. sym (plus_none (gots a))) ∙ h.paid;
        colls_are = let more = offset-coll s h.pool.covered debt coll in omega (arith, more, h.colls_are);
      } where
        plus_none : (k : ℕ) → k ≡ k + 0
        plus_none k = omega arith

        turn : (x y : ℕ) → x * y ≡ y * x
        turn x y = omega arith

  -- ---- an own operation

  keys-put : (table : Table DepositEntry) (k : ℕ) (d : DepositEntry) → k < n
      → AllByRecursion (λ q. q < n) (keys_of table) → AllByRecursion (λ q. q < n) (keys_of (put table k d))
  keys-put [] k d low h = (low, tt)
  keys-put (e ∷ es) k d low h = by (nat_cmp k e.0) (keys-put es k d low h.1) where
    by : (o : Ordering) → AllByRecursion (λ q. q < n) (keys_of (put es k d))
        → AllByRecursion (λ q. q < n) (keys_of (match_ordering o ((k, d) ∷ e ∷ es) ((e.0, d) ∷ es) (e ∷ put es k d)))
    by Less more = (low, h)
    by Equal more = h
    by Greater more = (h.0, more)

  keys-without : (table : Table DepositEntry) (k : ℕ) → AllByRecursion (λ q. q < n) (keys_of table)
      → AllByRecursion (λ q. q < n) (keys_of (without table k))
  keys-without [] k h = tt
  keys-without (e ∷ es) k h = by (is_eq (nat_cmp k e.0)) (keys-without es k h.1) where
    by : (b : Bool) → AllByRecursion (λ q. q < n) (keys_of (without es k))
        → AllByRecursion (λ q. q < n) (keys_of (cond b es (e ∷ without es k)))
    by true more = h.1
    by false more = (h.0, more)

  keys-deposit : (table : Table DepositEntry) (k : ℕ) (d : DepositEntry) → k < n
      → AllByRecursion (λ q. q < n) (keys_of table) → AllByRecursion (λ q. q < n) (keys_of (with_deposit table k d))
  keys-deposit table k d low h = by (d.amount == 0) where
    by : (b : Bool) → AllByRecursion (λ q. q < n) (keys_of (cond b (without table k) (put table k d)))
    by true = keys-without table k h
    by false = keys-put table k d low h

  own_balances : (sum_then sum_now had has den put_in out total total_then : ℕ) → sum_then + had ≡ sum_now + has
      → has + out * den ≡ had + put_in * den → sum_now ≡ total * den → total_then + out ≡ total + put_in
      → sum_then ≡ total_then * den
  own_balances sum_then sum_now had has den put_in out total total_then a b c d =
      let e : (total_then + out) * den ≡ (total + put_in) * den = ap (λ k. k * den) d in
      omega (arith, a, b, c, e)

  module _ (s : State) (den colls : ℕ) (shares : ℕ → Share) (watches : ℕ → Watch) (gots : ℕ
      → ℕ) (account put_in out : ℕ) (low : account < n) (within : out ≤ balance_of s account) (small :
      amount_after s account put_in out ≤ 10 ^ 27) (h : Whole n s den colls shares watches gots) where
    abbrev this : PoolEvent
    this = event.Own account put_in out (gain_of s account) (amount_after s account put_in out)

    abbrev state_then : State
    state_then = owned s account put_in out

    abbrev share_moved : ℕ → Share
    share_moved a = record (shares a) { bal = (shares a).bal + put_in * (shares a).den - out * (shares a).den }

    abbrev watch_moved : ℕ → Watch
    watch_moved a = record (watches a) {
      amount = amount_after s account put_in out;
      place = place_of (watches a).now;
      own_events = (watches a).own_events + 1;
    }

    same_each : StandsBy state_then (share_moved account) (watch_moved account) (gots account + gain_of s account)
        (at state_then.deposits account)
    same_each =
        own_stands s h.pool.finished h.pool.range h.pool.ascends account put_in out (shares account) (watches account)
        (gots account + gain_of s account) (h.now account) (balance_of s account) within
        (read n s den colls shares watches gots h account low) (amount_after s account put_in out) refl small

    each_then : (a : ℕ) → StandsBy state_then (share_after a (shares a) this) (watch_after a (watches a) this)
        (gots a + gain_paid a this) (at state_then.deposits a)
    each_then a = by (account == a) refl where
      by : (b : Bool) → (account == a) ≡ b → StandsBy state_then (cond b (share_moved a) (shares a))
          (cond b (watch_moved a) (watches a)) (gots a + cond b (gain_of s account) 0) (at state_then.deposits a)
      by true e =
          let same : account ≡ a = grind (arith, nat_tests, e) in
          subst (λ q. StandsBy state_then (share_moved q) (watch_moved q) (gots q + gain_of s account)
          (at state_then.deposits q)) same same_each
      by false e =
          subst (λ (o : Option DepositEntry). StandsBy state_then (shares a) (watches a) (gots a + 0) o)
          (sym (deposit_other s.deposits account (record {
            amount = amount_after s account put_in out;
            mark = After (length s.offsets);
          }) a e))
          (subst (λ g. StandsBy state_then (shares a) (watches a) g (at s.deposits a)) (plus_none (gots a))
          (h.each a)) where
            plus_none : (k : ℕ) → k ≡ k + 0
            plus_none k = omega arith

    either_den : (b : Bool) (a : ℕ) → (cond b (share_moved a) (shares a)).den ≡ (shares a).den
    either_den true a = refl
    either_den false a = refl

    either_gain : (b : Bool) (a : ℕ) → (cond b (share_moved a) (shares a)).gain ≡ (shares a).gain
    either_gain true a = refl
    either_gain false a = refl

    either_now : (b : Bool) (a : ℕ) → (cond b (watch_moved a) (watches a)).now ≡ (watches a).now
    either_now true a = refl
    either_now false a = refl

    itself : (account == account) ≡ true
    itself = grind (arith, nat_tests)

    own_whole : Whole n state_then (den * 1) (colls + 0) (λ a. share_after a (shares a) this)
        (λ a. watch_after a (watches a) this) (λ a. gots a + gain_paid a this)
    own_whole = record {
      pool = pool_owned s account put_in out within h.pool;
      owners = keys-deposit s.deposits account (record {
        amount = amount_after s account put_in out;
        mark = After (length s.offsets);
      }) low h.owners;
      now = λ a. either_now (account == a) a ∙ h.now a;
      dens = λ a. let is = either_den (account == a) a in let was = h.dens a in omega (arith, is, was);
      some = omega (arith, h.some);
      each = each_then;
      balances =
          let moves = over-one n (λ a. (shares a).bal) (λ a. (share_after a (shares a) this).bal) account low
          (λ a e. ap (λ b. (cond b (share_moved a) (shares a)).bal) e) in
          let mine : (share_after account (shares account) this).bal ≡ (share_moved account).bal =
          ap (λ b. (cond b (share_moved account) (shares account)).bal) itself in
          let cut : out * (shares account).den ≤ balance_of s account * (shares account).den =
          mul-le-mul_right (shares account).den within in
          let under = (read n s den colls shares watches gots h account low).upper_balance in
          let total = owned-total s h.pool.covered account put_in out in
          let cap = balance_within s (at s.deposits account) in
          let out_den : out * (shares account).den ≡ out * den = ap (λ k. out * k) (h.dens account) in
          let put_den : put_in * (shares account).den ≡ put_in * den = ap (λ k. put_in * k) (h.dens account) in
          let done = own_balances (over_accounts n (λ a. (share_after a (shares a) this).bal))
          (over_accounts n (λ a. (shares a).bal)) (shares account).bal (share_moved account).bal den put_in out
          (pool_total s) (pool_total state_then)
          (omega (arith, moves, mine)) (omega (arith, cut, under, out_den, put_den)) h.balances (omega (
            arith,
            total,
            cap,
            within,
          )) in
          omega (arith, done);
      gains =
          let same = over-same n (λ a. (share_after a (shares a) this).gain) (λ a. (shares a).gain) (λ a k. either_gain
          (account == a) a) in
          omega (arith, same, h.gains);
      paid =
          let moves = over-one n gots (λ a. gots a + gain_paid a this) account low (λ a e. other a e) in
          let mine : gain_paid account this ≡ gain_of s account = ap (λ b. cond b (gain_of s account) 0) itself in
          omega (arith, moves, mine, h.paid);
      colls_are =
          let coll = owned-coll s account put_in out in
          let cap = gain_within s (at s.deposits account) in
          omega (arith, coll, cap, h.colls_are);
    } where
      other : (a : ℕ) → (account == a) ≡ false → gots a + gain_paid a this ≡ gots a
      other a e = ap (λ b. gots a + cond b (gain_of s account) 0) e ∙ none (gots a) where
        none : (k : ℕ) → k + 0 ≡ k
        none k = omega arith

  -- ---- one event

  pub after_one : (s : State) (den colls : ℕ) (shares : ℕ → Share) (watches : ℕ → Watch) (gots : ℕ → ℕ) (e : PoolEvent)
      → IsOwnedBelow n e → IsWithinLimit most s → IsLawfulEvent s e → IsWithinLimit most (after_event s e)
      → Whole n s den colls shares watches gots → Whole n (after_event s e) (den * total_of e) (colls + coll_of e)
      (λ a. share_after a (shares a) e) (λ a. watch_after a (watches a) e) (λ a. gots a + gain_paid a e)
  after_one s den colls shares watches gots (event.Own account put_in out gain amount) low limit lawful next h =
      let total = owned-total s h.pool.covered account put_in out in
      let cap = balance_within s (at s.deposits account) in
      let within : out ≤ balance_of s account = lawful.paid_is in
      let made = own_whole s den colls shares watches gots account put_in out low within (omega (
        arith,
        total,
        cap,
        within,
        next.total,
        served,
      )) h in
      subst (λ g. Whole n (owned s account put_in out) (den * 1) (colls + 0) (λ a. share_after a (shares a)
      (event.Own account put_in out g amount)) (λ a. watch_after a (watches a)
      (event.Own account put_in out g amount)) (λ a. gots a + gain_paid a (event.Own account put_in out g amount)))
      (sym lawful.gain_is)
      (subst (λ m. Whole n (owned s account put_in out) (den * 1) (colls + 0) (λ a. share_after a (shares a)
      (event.Own account put_in out (gain_of s account) m)) (λ a. watch_after a (watches a)
      (event.Own account put_in out (gain_of s account) m)) (λ a. gots a + gain_paid a (event.Own account put_in out
      (gain_of s account) m))) (sym lawful.amount_is) made)
  after_one s den colls shares watches gots (event.Offset debt coll total rise) low limit lawful next h =
      let takes : TakesPartUpTo most (offset_now s debt coll) = record {
        some = lawful.some;
        within = omega (
          arith,
          lawful.within,
          lawful.total_is,
        );
        limit = limit.total;
      } in
      subst (λ t. Whole n (offset s debt coll) (den * t) (colls + coll) (λ a. share_after a (shares a)
      (event.Offset debt coll t rise)) (λ a. watch_after a (watches a) (event.Offset debt coll t rise))
      (λ a. gots a + 0)) (sym lawful.total_is)
      (offset_whole s den colls shares watches gots debt coll rise takes lawful.coll_is h)

  -- ---- all events

  pub after_all : (s : State) (den colls : ℕ) (shares : ℕ → Share) (watches : ℕ → Watch) (gots : ℕ
      → ℕ) (events : List PoolEvent) → AreOwnedBelow n events → IsLawfulUpTo most s events
      → Whole n s den colls shares watches gots
      → Whole n (fold after_event s events) (fold (λ d e. d * total_of e) den events)
      (fold (λ c e. c + coll_of e) colls events) (λ a. fold (share_after a) (shares a) events)
      (λ a. fold (watch_after a) (watches a) events) (λ a. fold (λ g e. g + gain_paid a e) (gots a) events)
  after_all s den colls shares watches gots [] low lawful h = h
  after_all s den colls shares watches gots (e ∷ es) low lawful h =
      after_all (after_event s e) (den * total_of e) (colls + coll_of e) (λ a. share_after a (shares a) e)
      (λ a. watch_after a (watches a) e) (λ a. gots a + gain_paid a e) es low.1 lawful.2
      (after_one s den colls shares watches gots e low.0 lawful.0 lawful.1 (lawful_limit most (after_event s e) es
      lawful.2) h)
