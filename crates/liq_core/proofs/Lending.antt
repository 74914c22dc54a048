-- What opening, adjusting and closing a trove make of a protocol.
use Rattle.std.proofs.Common.{◌≡◌, ℕ, ◌+◌, ◌-◌, ◌≤◌, ◌<◌, refl, ap, sym, ◌∙◌, subst, arith, Some, None, Option}
use Rattle.std.specs.Prelude.{option_map, IsSome}
use Rattle.std.specs.BTreeMap.{is_at}
use Rattle.std.specs.Ordering.{nat_cmp}
use Rattle.std.proofs.lemmas.Map.Entries.{sum_by-remove_entry}
use Rattle.liq_types.specs.declared.amounts.TheConstants.{ACCOUNTS, LIM, RESERVE, MIN_NET}
use Rattle.liq_types.specs.declared.figures.Trove.{Trove}
use Rattle.liq_types.specs.declared.figures.Wallet.{Wallet}
use Rattle.liq_types.specs.declared.hints.HintWords.{HintWords}
use Rattle.liq_types.specs.declared.requests.Call.{Call}
use Rattle.liq_types.specs.declared.requests.Call.TheVariants.{Open, Adjust, Close}
use Rattle.liq_types.specs.declared.image.Image.{Image}
use Rattle.liq_types.specs.Payments.{credited, charged, credited_in, charged_in}
use Rattle.liq_types.specs.Rules.{first_refusal}
use Rattle.liq_types.specs.Soundness.{coll_homes, lusd_homes}
use Rattle.liq_types.specs.State.{State, TroveEntry, wallet_in, wallet_of}
use Rattle.liq_types.specs.Tables.{Table, at}
use Rattle.liq_types.specs.Totals.{market_of, or_nothing}
use Rattle.liq_types.specs.WellFormed.{Ascends}
use Rattle.liq_types.proofs.Ascending.{wallet-ascends}
use Rattle.liq_types.proofs.Lookups.{at-without_same, length-without}
use Rattle.liq_types.proofs.MapRows.{at-map}
use Rattle.liq_tables.specs.WithRoom.{WithRoom}
use Rattle.liq_ledger.specs.declared.pools.Pools.{Pools}
use Rattle.liq_rate.specs.declared.rate.Rate.{Rate}
use Rattle.liq_troves.specs.Kept.{Kept}
use Rattle.liq_troves.specs.Own.{lifted, lifted_entry, placed, set_trove}
use Rattle.liq_troves.specs.Standing.{Books, TrovesStand, books_of, lifted_row, lift, place}
use Rattle.liq_troves.specs.StakeSums.{entire_of, trove_row, trove_rows}
use Rattle.liq_troves.proofs.BooksOf.{lift_books, place_books}
use Rattle.liq_troves.proofs.Standing.{lift_stands}
use Rattle.liq_order.specs.Listed.{Listed}
use Rattle.liq_order.specs.Order.{order_by}
use Rattle.liq_borrow.specs.declared.change.Change.{Change}
use Rattle.liq_borrow.specs.declared.change.Plan.{Plan}
use Rattle.liq_borrow.proofs.Allowed.{change_passes, close_passes as closing_passes}
use Rattle.liq_borrow.specs.Borrowing.{opening_terms, adjusting_terms, adjust_rules, closing_terms, close_rules}
use Rattle.liq_core.specs.declared.engine.Protocol.TheInside.{Inside}
use Rattle.liq_trove_moves.specs.Books.{books_kept, SameOthers}
use Rattle.liq_rule_step.specs.Borrowing.{with_fee, opened, adjusted, closed}
use Rattle.liq_core.specs.Core.{Core, Changes, state_of}
use Rattle.liq_rule_step.specs.Image.{image}
use Rattle.liq_rule_step.specs.Rules.{rules, effect}
use Rattle.liq_core.specs.Held.{AreHeld}
use Rattle.liq_core.specs.Sound.{IsSound, core_of}
use Rattle.liq_rule_step.proofs.Moving.{read_or, wallet_here}
use Rattle.liq_rule_sound.proofs.SoundBorrow.{open_allows, open_leaves, adjust_allows_own, adjust_leaves, close_leaves, has_trove, told}
use Rattle.liq_core.proofs.SoundCores.{core_finds, image_back, sound_after}
use Rattle.liq_rule_sound.proofs.SoundFacts.{Finds, Leaves, finds_after}
use Rattle.liq_core.proofs.Images.{with_sums}
use Rattle.liq_core.proofs.Telling.{books_by}

-- ---- images by their parts

abbrev pub with_books : Image → Books → Image
with_books i b =
    record (with_sums i b.sums) {
      troves = b.troves;
      active_coll = b.active_coll;
      active_debt = b.active_debt;
      default_coll = b.default_coll;
      default_debt = b.default_debt;
    }

-- a trove that leaves, and one that comes, touch the books alone
lifted_entry_image : (s : State) (account : ℕ) (o : Option TroveEntry) → image (lifted_entry s account o)
    ≡ with_books (image s) (books_of (lifted_entry s account o))
lifted_entry_image s account None = refl
lifted_entry_image s account (Some t) = refl

lifted_image : (s : State) (account : ℕ) → image (lifted s account) ≡ with_books (image s) (lift (books_of s) account)
lifted_image s account = lifted_entry_image s account (at s.troves account)
    ∙ ap (with_books (image s)) (lift_books s account)

placed_image : (s : State) (account coll debt : ℕ) → image (placed s account coll debt)
    ≡ with_books (image s) (place (books_of s) account coll debt)
placed_image s account coll debt = ap (with_books (image s)) (place_books s account coll debt)

pub set_image : (s : State) (account coll debt : ℕ) → image (set_trove s account coll debt)
    ≡ with_books (image s) (place (lift (books_of s) account) account coll debt)
set_image s account coll debt =
    let left = lifted s account in
    placed_image left account coll debt
    ∙ ap (λ (i : Image). with_books i (place (books_of left) account coll debt)) (lifted_image s account)
    ∙ ap (λ (b : Books). with_books (image s) (place b account coll debt)) (lift_books s account)

-- an image with another rate, other pools and wallets beside other books
abbrev pub with_parts : Image → Rate → ℕ → ℕ → ℕ → ℕ → Table Wallet → Books → Image
with_parts i rate reserve surplus fee_coll fee_lusd wallets b =
    with_books (record i {
      base = rate.base;
      fee_minute = rate.minute;
      reserve = reserve;
      surplus = surplus;
      fee_coll = fee_coll;
      fee_lusd = fee_lusd;
      wallets = wallets;
    }) b

pub same_others : (i : Image) (rate : Rate) (old new : Pools) (wallets : Table Wallet) (b : Books) → SameOthers old new
    → with_parts i rate new.reserve new.surplus new.fee_coll new.fee_lusd wallets b
    ≡ with_parts i rate old.reserve old.surplus old.fee_coll old.fee_lusd wallets b
same_others i rate old new wallets b h =
    ap (λ n. with_parts i rate n new.surplus new.fee_coll new.fee_lusd wallets b) h.reserve
    ∙ ap (λ n. with_parts i rate old.reserve n new.fee_coll new.fee_lusd wallets b) h.surplus
    ∙ ap (λ n. with_parts i rate old.reserve old.surplus n new.fee_lusd wallets b) h.fee_coll
    ∙ ap (λ n. with_parts i rate old.reserve old.surplus old.fee_coll n wallets b) h.fee_lusd

-- ---- what may be paid

pub pay_within : (t : State) → Finds t → (wallets : Table Wallet) (account coll lusd : ℕ) → Ascends wallets
    → t.wallets ≡ credited_in wallets account coll lusd → ((wallet_in wallets account).coll + coll ≤ LIM)
    × ((wallet_in wallets account).lusd + lusd ≤ LIM)
pay_within t f wallets account coll lusd ascend is =
    let w : Wallet = record {
      coll = (wallet_in wallets account).coll + coll;
      lusd = (wallet_in wallets account).lusd
          + lusd;
    } in
    let here = ap (λ (table : Table Wallet). wallet_in table account) is ∙ wallet_here wallets account w ascend in
    let colls = sum_by-remove_entry (λ (x : Wallet). x.coll) (is_at (nat_cmp account)) t.wallets in
    let lusds = sum_by-remove_entry (λ (x : Wallet). x.lusd) (is_at (nat_cmp account)) t.wallets in
    let had_coll = read_or (λ (x : Wallet). x.coll) refl (at t.wallets account) in
    let had_lusd = read_or (λ (x : Wallet). x.lusd) refl (at t.wallets account) in
    let coll_is = ap (λ (x : Wallet). x.coll) here in
    let lusd_is = ap (λ (x : Wallet). x.lusd) here in
    let homes = f.balanced.homes in (
      omega (arith, colls, had_coll, coll_is, homes.coll, f.balanced.coll_limit),
      omega (arith, lusds, had_lusd, lusd_is, homes.lusd, f.balanced.debt_limit),
    )

pub charged-ascends : (wallets : Table Wallet) (account coll lusd : ℕ) → Ascends wallets
    → Ascends (charged_in wallets account coll lusd)
charged-ascends wallets account coll lusd h =
    wallet-ascends wallets account (record {
      coll = (wallet_in wallets account).coll - coll;
      lusd = (wallet_in wallets account).lusd - lusd;
    }) h

-- ---- the books of a protocol

-- a protocol with another base rate, other wallets, pools, troves and another list
abbrev changed : Inside → Rate → WithRoom Wallet → Pools → Kept → Listed → Inside
changed p rate wallets pools troves order =
    record p { rate = rate; wallets = wallets; pools = pools; troves = troves; order = order }

module _ (p : Inside) (sound : IsSound p) where
  pub books_are : books_of (state_of (core_of p)) ≡ books_kept p.troves p.pools
  books_are = ap books_by (image_back (core_of p) sound.image)

  pub books_stand : TrovesStand (books_kept p.troves p.pools)
  books_stand = subst TrovesStand books_are (core_finds (core_of p) sound.image).stands.troves

  pub coll_held : p.pools.active_coll + p.pools.default_coll ≤ LIM
  coll_held =
      let f = core_finds (core_of p) sound.image in
      omega (arith, f.balanced.homes.coll, f.balanced.coll_limit)

  pub debt_held : p.pools.active_debt + p.pools.default_debt ≤ LIM
  debt_held = (core_finds (core_of p) sound.image).balanced.debt_limit

  -- what a change of a trove asks of it, whatever its fees and its reserve then are
  pub is_held : (fee_lusd reserve : ℕ)
      → AreHeld (record p.pools { fee_lusd = fee_lusd; reserve = reserve }) p.troves p.order
  is_held fee_lusd reserve = record { stand = books_stand; list = sound.order; coll = coll_held; debt = debt_held }

  pub rows_are : trove_rows (state_of (core_of p)) ≡ p.troves.table.rows
  rows_are = ap (λ (i : Image). i.troves) (image_back (core_of p) sound.image)

  -- a protocol with a state's image is changed into it
  changed_into : (call : Call) (rate : Rate) (wallets : WithRoom Wallet) (pools old_pools : Pools) (troves : Kept)
      (order : Listed) (b : Books) (paid : Table Wallet)
      → wallets.rows ≡ paid → books_kept troves pools ≡ b → SameOthers old_pools pools
      → image (effect (state_of (core_of p)) call) ≡ with_parts (image (state_of (core_of p))) rate old_pools.reserve
      old_pools.surplus old_pools.fee_coll old_pools.fee_lusd paid b
      → Changes (core_of p) call (core_of (changed p rate wallets pools troves order))
  changed_into call rate wallets pools old_pools troves order b paid paid_is kept others is =
      let i = (core_of p).image in
      record {
        image =
            same_others i rate old_pools pools wallets.rows (books_kept troves pools) others
            ∙ ap (λ (t : Table Wallet). with_parts i rate old_pools.reserve old_pools.surplus old_pools.fee_coll
            old_pools.fee_lusd t (books_kept troves pools)) paid_is
            ∙ ap (with_parts i rate old_pools.reserve old_pools.surplus old_pools.fee_coll old_pools.fee_lusd paid) kept
            ∙ ap (λ (x : Image). with_parts x rate old_pools.reserve old_pools.surplus old_pools.fee_coll
            old_pools.fee_lusd paid b) (sym (image_back (core_of p) sound.image))
            ∙ sym is;
        records = refl;
        clients = refl;
      }

-- ---- open

-- what an opening finds in a protocol
pub record MayOpen (p : Inside) (account borrow : ℕ) (plan : Plan) : Type 0 where
  pub coll : plan.coll ≤ (wallet_in p.wallets.rows account).coll
  pub coll_limit : (wallet_in (charged_in p.wallets.rows account plan.coll 0) account).coll ≤ LIM
  pub lusd_limit : (wallet_in (charged_in p.wallets.rows account plan.coll 0) account).lusd + borrow ≤ LIM
  pub fee : p.pools.fee_lusd + plan.fee ≤ LIM
  pub reserve : p.pools.reserve + RESERVE ≤ LIM
  pub absent : at p.troves.table.rows account ≡ None
  pub some : 1 ≤ plan.coll
  pub least : RESERVE + MIN_NET ≤ plan.debt
  pub active_coll : p.pools.active_coll + plan.coll ≤ LIM
  pub active_debt : p.pools.active_debt + plan.debt ≤ LIM

module _ (p : Inside) (sound : IsSound p) (account borrow bound : ℕ) (words : HintWords) (plan : Plan) (k : account
    < ACCOUNTS) (is : plan ≡ opening_terms (market_of (state_of (core_of p))) plan.coll borrow) (h :
    first_refusal (rules (state_of (core_of p)) (Open account plan.coll borrow bound words)) ≡ None) where
  open_effect : effect (state_of (core_of p)) (Open account plan.coll borrow bound words)
      ≡ opened (state_of (core_of p)) account borrow plan
  open_effect = ap (opened (state_of (core_of p)) account borrow) (sym is)

  open_left : Leaves 0 (state_of (core_of p)) (effect (state_of (core_of p))
      (Open account plan.coll borrow bound words))
  open_left = open_leaves (state_of (core_of p)) (core_finds (core_of p) sound.image) account plan.coll borrow bound
      words k h

  open_finds : Finds (opened (state_of (core_of p)) account borrow plan)
  open_finds = subst Finds open_effect (finds_after (state_of (core_of p)) (effect (state_of (core_of p))
      (Open account plan.coll borrow bound words)) open_left)

  may_open : MayOpen p account borrow plan
  may_open =
      let s = state_of (core_of p) in
      let f = core_finds (core_of p) sound.image in
      let a = open_allows s account plan.coll borrow bound h in
      let n = open_finds in
      let paid = pay_within (opened s account borrow plan) n (charged_in p.wallets.rows account plan.coll 0) account 0
      borrow (charged-ascends p.wallets.rows account plan.coll 0 f.stands.wallets.ascend) refl in
      let coll_homes = n.balanced.homes.coll in
      let lusd_homes = n.balanced.homes.lusd in
      let coll_limit = n.balanced.coll_limit in
      let debt_limit = n.balanced.debt_limit in
      record {
        coll = a.enough;
        coll_limit = omega (arith, paid.0);
        lusd_limit = paid.1;
        fee = omega (arith, lusd_homes, debt_limit);
        reserve = omega (arith, lusd_homes, debt_limit);
        absent = ap (λ (t : Table Trove). at t account) (sym (rows_are p sound)) ∙ at-map (trove_row s) s.troves account
            ∙ ap (option_map (trove_row s)) a.absent;
        some = a.some;
        least = subst (λ (x : Plan). RESERVE + MIN_NET ≤ x.debt) (sym is) a.least;
        active_coll = omega (arith, coll_homes, coll_limit);
        active_debt = omega (arith, debt_limit);
      }

  opened_changes : (wallets : WithRoom Wallet) (pools : Pools) (troves : Kept) (order : Listed)
      → wallets.rows ≡ credited_in (charged_in p.wallets.rows account plan.coll 0) account 0 borrow
      → books_kept troves pools ≡ place (books_kept p.troves p.pools) account plan.coll plan.debt
      → SameOthers (record p.pools {
        fee_lusd = p.pools.fee_lusd + plan.fee;
        reserve = p.pools.reserve
            + RESERVE;
      }) pools
      → Changes (core_of p) (Open account plan.coll borrow bound words)
      (core_of (changed p plan.rate wallets pools troves order))
  opened_changes wallets pools troves order paid kept others =
      let s = state_of (core_of p) in
      let lent = credited (charged (with_fee s plan) account plan.coll 0) account 0 borrow in
      let made = placed_image (record lent { reserve = lent.reserve + RESERVE }) account plan.coll plan.debt in
      changed_into p sound (Open account plan.coll borrow bound words) plan.rate wallets pools
      (record p.pools { fee_lusd = p.pools.fee_lusd + plan.fee; reserve = p.pools.reserve + RESERVE }) troves order
      (place (books_kept p.troves p.pools) account plan.coll plan.debt)
      (credited_in (charged_in p.wallets.rows account plan.coll 0) account 0 borrow) paid kept others
      (ap image open_effect ∙ made
      ∙ ap (λ (b : Books). with_books (image (record lent { reserve = lent.reserve + RESERVE }))
      (place b account plan.coll plan.debt)) (books_are p sound))

-- the same of the core that a protocol is seen as
module _ (p : Inside) (old : Core) (view : core_of p ≡ old) (sound : IsSound p) (account borrow : ℕ) (plan : Plan)
    (k : account < ACCOUNTS) (is : plan ≡ opening_terms (market_of (state_of old)) plan.coll borrow) (h : (bound : ℕ)
    × (words : HintWords) × (first_refusal (rules (state_of old) (Open account plan.coll borrow bound words))
    ≡ None)) where
  open_is : plan ≡ opening_terms (market_of (state_of (core_of p))) plan.coll borrow
  open_is = subst (λ (core : Core). plan ≡ opening_terms (market_of (state_of core)) plan.coll borrow) (sym view) is

  open_passes : first_refusal (rules (state_of (core_of p)) (Open account plan.coll borrow h.0 h.1)) ≡ None
  open_passes = subst (λ (core : Core). first_refusal (rules (state_of core) (Open account plan.coll borrow h.0 h.1))
      ≡ None) (sym view) h.2

  pub opens_so : MayOpen p account borrow plan
  opens_so = may_open p sound account borrow h.0 h.1 plan k open_is open_passes

  module _ (wallets : WithRoom Wallet) (pools : Pools) (troves : Kept) (order : Listed)
      (paid : wallets.rows ≡ credited_in (charged_in p.wallets.rows account plan.coll 0) account 0 borrow)
      (kept : books_kept troves pools ≡ place (books_kept p.troves p.pools) account plan.coll plan.debt)
      (others : SameOthers (record p.pools {
        fee_lusd = p.pools.fee_lusd + plan.fee;
        reserve = p.pools.reserve
            + RESERVE;
      }) pools) where
    pub open_changes : (bound : ℕ) (words : HintWords)
        → Changes old (Open account plan.coll borrow bound words)
        (core_of (changed p plan.rate wallets pools troves order))
    open_changes bound words =
        subst (λ (core : Core). Changes core (Open account plan.coll borrow bound words)
        (core_of (changed p plan.rate wallets pools troves order))) view
        (let made = opened_changes p sound account borrow h.0 h.1 plan k open_is open_passes wallets pools troves order
        paid kept others in
        record { image = made.image; records = made.records; clients = made.clients })

    pub open_sound : order.entries ≡ order_by troves.table.rows
        → IsSound (changed p plan.rate wallets pools troves order)
    open_sound listed =
        sound_after p (changed p plan.rate wallets pools troves order) (core_of p)
        (Open account plan.coll borrow h.0 h.1) refl sound
        (open_left p sound account borrow h.0 h.1 plan k open_is open_passes)
        (opened_changes p sound account borrow h.0 h.1 plan k open_is open_passes wallets pools troves order paid kept
        others) listed

-- ---- adjust

-- a trove that is there
pub there_row : (s : State) → Finds s → (account : ℕ) → entire_of s account ≡ Some (or_nothing (entire_of s account))
    → IsSome (at (trove_rows s) account)
there_row s f account e =
    let has = has_trove s account (or_nothing (entire_of s account)) f.stands e in
    subst (λ (o : Option Trove). IsSome o) (sym (at-map (trove_row s) s.troves account
    ∙ ap (option_map (trove_row s)) has.there)) refl

pub no_longer_there : (b : Books) (account : ℕ) (o : Option Trove) → at b.troves account ≡ o → Ascends b.troves
    → at (lifted_row b account o).troves account ≡ None
no_longer_there b account None e a = e
no_longer_there b account (Some t) e a = at-without_same b.troves account a

-- what an adjustment finds in a protocol
pub record MayAdjust (p : Inside) (account : ℕ) (change : Change) (plan : Plan) : Type 0 where
  pub coll : change.coll_in ≤ (wallet_in p.wallets.rows account).coll
  pub lusd : change.repay ≤ (wallet_in p.wallets.rows account).lusd
  pub coll_limit : (wallet_in (charged_in p.wallets.rows account change.coll_in change.repay) account).coll
      + change.coll_out ≤ LIM
  pub lusd_limit : (wallet_in (charged_in p.wallets.rows account change.coll_in change.repay) account).lusd
      + change.borrow ≤ LIM
  pub fee : p.pools.fee_lusd + plan.fee ≤ LIM
  pub there : IsSome (at p.troves.table.rows account)
  pub some : 1 ≤ plan.coll
  pub least : RESERVE + MIN_NET ≤ plan.debt
  pub active_coll : (lift (books_kept p.troves p.pools) account).active_coll + plan.coll ≤ LIM
  pub active_debt : (lift (books_kept p.troves p.pools) account).active_debt + plan.debt ≤ LIM

-- what is conserved of an image, within the limits
pub record IsWithin (i : Image) : Type 0 where
  pub coll : i.brought ≡ coll_homes i
  pub lusd : i.active_debt + i.default_debt ≡ lusd_homes i
  pub coll_limit : i.brought ≤ LIM
  pub debt_limit : i.active_debt + i.default_debt ≤ LIM

pub within : (t : State) → Finds t → IsWithin (image t)
within t f =
    record {
      coll = f.balanced.homes.coll;
      lusd = f.balanced.homes.lusd;
      coll_limit = f.balanced.coll_limit;
      debt_limit = f.balanced.debt_limit;
    }

module _ (p : Inside) (sound : IsSound p) (account : ℕ) (change : Change) (bound : ℕ) (plan : Plan) (k : account
    < ACCOUNTS) (is : plan ≡ adjusting_terms (market_of (state_of (core_of p)))
    (or_nothing (entire_of (state_of (core_of p)) account)) change) (h :
    first_refusal (adjust_rules (market_of (state_of (core_of p))) (wallet_of (state_of (core_of p)) account)
    (entire_of (state_of (core_of p)) account) account change bound) ≡ None) where
  adjust_left : Leaves 0 (state_of (core_of p)) (adjusted (state_of (core_of p)) account change
      (adjusting_terms (market_of (state_of (core_of p))) (or_nothing (entire_of (state_of (core_of p)) account))
      change))
  adjust_left = adjust_leaves (state_of (core_of p)) (core_finds (core_of p) sound.image) account bound change k h

  adjust_finds : Finds (adjusted (state_of (core_of p)) account change plan)
  adjust_finds =
      subst (λ (x : Plan). Finds (adjusted (state_of (core_of p)) account change x)) (sym is)
      (finds_after (state_of (core_of p)) _ adjust_left)

  adjust_image : image (adjusted (state_of (core_of p)) account change plan)
      ≡ with_books (image (credited (charged (with_fee (state_of (core_of p)) plan) account change.coll_in change.repay)
      account change.coll_out change.borrow)) (place (lift (books_kept p.troves p.pools) account) account plan.coll
      plan.debt)
  adjust_image =
      let paid = credited (charged (with_fee (state_of (core_of p)) plan) account change.coll_in change.repay) account
      change.coll_out change.borrow in
      set_image paid account plan.coll plan.debt
      ∙ ap (λ (b : Books). with_books (image paid) (place (lift b account) account plan.coll plan.debt))
      (books_are p sound)

  may_adjust : MayAdjust p account change plan
  may_adjust =
      let s = state_of (core_of p) in
      let f = core_finds (core_of p) sound.image in
      let own = or_nothing (entire_of s account) in
      let a = adjust_allows_own s f account bound change h in
      let there = told (entire_of s account) (change_passes (market_of s) (wallet_of s account) (entire_of s account)
      change account bound h).there in
      let w = subst IsWithin adjust_image (within (adjusted s account change plan) adjust_finds) in
      let paid = pay_within (adjusted s account change plan) adjust_finds
      (charged_in p.wallets.rows account change.coll_in change.repay) account change.coll_out change.borrow
      (charged-ascends p.wallets.rows account change.coll_in change.repay f.stands.wallets.ascend)
      (ap (λ (i : Image). i.wallets) adjust_image) in
      record {
        coll = a.coll_in;
        lusd = a.repay;
        coll_limit = paid.0;
        lusd_limit = paid.1;
        fee = omega (arith, w.lusd, w.debt_limit);
        there = subst (λ (t : Table Trove). IsSome (at t account)) (rows_are p sound) (there_row s f account there);
        some = subst (λ (x : Plan). 1 ≤ x.coll) (sym is) a.some;
        least = subst (λ (x : Plan). RESERVE + MIN_NET ≤ x.debt) (sym is) a.least;
        active_coll = omega (arith, w.coll, w.coll_limit);
        active_debt = omega (arith, w.debt_limit);
      }

  adjusted_changes : (wallets : WithRoom Wallet) (pools : Pools) (troves : Kept) (order : Listed) (words : HintWords)
      → wallets.rows ≡ credited_in (charged_in p.wallets.rows account change.coll_in change.repay) account
      change.coll_out change.borrow
      → books_kept troves pools ≡ place (lift (books_kept p.troves p.pools) account) account plan.coll plan.debt
      → SameOthers (record p.pools { fee_lusd = p.pools.fee_lusd + plan.fee }) pools
      → Changes (core_of p) (Adjust account change.coll_in change.coll_out change.borrow change.repay bound words)
      (core_of (changed p plan.rate wallets pools troves order))
  adjusted_changes wallets pools troves order words paid kept others =
      let s = state_of (core_of p) in
      changed_into p sound (Adjust account change.coll_in change.coll_out change.borrow change.repay bound words)
      plan.rate wallets pools (record p.pools { fee_lusd = p.pools.fee_lusd + plan.fee }) troves order
      (place (lift (books_kept p.troves p.pools) account) account plan.coll plan.debt)
      (credited_in (charged_in p.wallets.rows account change.coll_in change.repay) account change.coll_out
      change.borrow) paid kept others
      (ap (λ (x : Plan). image (adjusted s account change x)) (sym is) ∙ adjust_image)

-- ---- close

-- what a closing finds in a protocol
pub record MayClose (p : Inside) (account repaid coll : ℕ) : Type 0 where
  pub lusd : repaid ≤ (wallet_in p.wallets.rows account).lusd
  pub coll_limit : (wallet_in (charged_in p.wallets.rows account 0 repaid) account).coll + coll ≤ LIM
  pub lusd_limit : (wallet_in (charged_in p.wallets.rows account 0 repaid) account).lusd ≤ LIM
  pub reserve : RESERVE ≤ p.pools.reserve
  pub there : IsSome (at p.troves.table.rows account)

module _ (p : Inside) (sound : IsSound p) (account repaid coll : ℕ) (k : account < ACCOUNTS) (is : (repaid, coll)
    ≡ closing_terms (or_nothing (entire_of (state_of (core_of p)) account))) (h :
    first_refusal (close_rules (market_of (state_of (core_of p))) (wallet_of (state_of (core_of p)) account)
    (entire_of (state_of (core_of p)) account) account) ≡ None) where
  close_effect : effect (state_of (core_of p)) (Close account) ≡ closed (state_of (core_of p)) account repaid coll
  close_effect = ap (λ (t : ℕ × ℕ). closed (state_of (core_of p)) account t.0 t.1) (sym is)

  close_left : Leaves 0 (state_of (core_of p)) (effect (state_of (core_of p)) (Close account))
  close_left = close_leaves (state_of (core_of p)) (core_finds (core_of p) sound.image) account k h

  close_finds : Finds (closed (state_of (core_of p)) account repaid coll)
  close_finds = subst Finds close_effect (finds_after (state_of (core_of p)) (effect (state_of (core_of p))
      (Close account)) close_left)

  close_image : image (closed (state_of (core_of p)) account repaid coll)
      ≡ with_books (image (record (credited (charged (state_of (core_of p)) account 0 repaid) account coll 0) {
        reserve = p.pools.reserve - RESERVE;
      })) (lift (books_kept p.troves p.pools) account)
  close_image =
      let settled = record (credited (charged (state_of (core_of p)) account 0 repaid) account coll 0) {
        reserve =
            p.pools.reserve - RESERVE;
      } in
      lifted_image settled account ∙ ap (λ (b : Books). with_books (image settled) (lift b account)) (books_are p sound)

  may_close : MayClose p account repaid coll
  may_close =
      let s = state_of (core_of p) in
      let f = core_finds (core_of p) sound.image in
      let own = or_nothing (entire_of s account) in
      let passes = closing_passes (market_of s) (wallet_of s account) (entire_of s account) account h in
      let there = told (entire_of s account) passes.there in
      let enough = passes.repaid in
      let repaid_is = ap (λ (t : ℕ × ℕ). t.0) is in
      let has = has_trove s account own f.stands there in
      let rows = length-without s.troves account has.entry has.there in
      let paid = pay_within (closed s account repaid coll) close_finds (charged_in p.wallets.rows account 0 repaid)
      account coll 0 (charged-ascends p.wallets.rows account 0 repaid f.stands.wallets.ascend)
      (ap (λ (i : Image). i.wallets) close_image) in
      record {
        lusd = omega (arith, enough, repaid_is);
        coll_limit = paid.0;
        lusd_limit = omega (arith, paid.1);
        reserve = omega (arith, f.balanced.homes.reserve, rows);
        there = subst (λ (t : Table Trove). IsSome (at t account)) (rows_are p sound) (there_row s f account there);
      }

  closed_changes : (wallets : WithRoom Wallet) (pools : Pools) (troves : Kept) (order : Listed)
      → wallets.rows ≡ credited_in (charged_in p.wallets.rows account 0 repaid) account coll 0
      → books_kept troves pools ≡ lift (books_kept p.troves p.pools) account
      → SameOthers (record p.pools { reserve = p.pools.reserve - RESERVE }) pools
      → Changes (core_of p) (Close account) (core_of (changed p p.rate wallets pools troves order))
  closed_changes wallets pools troves order paid kept others =
      changed_into p sound (Close account) p.rate wallets pools (record p.pools { reserve = p.pools.reserve - RESERVE })
      troves order
      (lift (books_kept p.troves p.pools) account) (credited_in (charged_in p.wallets.rows account 0 repaid) account
      coll 0) paid kept others
      (ap image close_effect ∙ close_image)

-- ---- adjusting and closing, of the core that a protocol is seen as

module _ (p : Inside) (old : Core) (view : core_of p ≡ old) (sound : IsSound p) (account : ℕ) (k : account
    < ACCOUNTS) where
  module _ (change : Change) (plan : Plan) (is : plan ≡ adjusting_terms (market_of (state_of old))
      (or_nothing (entire_of (state_of old) account)) change) (h : (bound : ℕ) × (words : HintWords)
      × (first_refusal (rules (state_of old) (Adjust account change.coll_in change.coll_out change.borrow change.repay
      bound words)) ≡ None)) where
    adjust_is : plan ≡ adjusting_terms (market_of (state_of (core_of p)))
        (or_nothing (entire_of (state_of (core_of p)) account)) change
    adjust_is = subst (λ (core : Core). plan ≡ adjusting_terms (market_of (state_of core))
        (or_nothing (entire_of (state_of core) account)) change) (sym view) is

    adjust_passes : first_refusal (adjust_rules (market_of (state_of (core_of p)))
        (wallet_of (state_of (core_of p)) account) (entire_of (state_of (core_of p)) account) account change h.0) ≡ None
    adjust_passes = subst (λ (core : Core). first_refusal (adjust_rules (market_of (state_of core))
        (wallet_of (state_of core) account) (entire_of (state_of core) account) account change h.0) ≡ None) (sym view)
        h.2

    pub adjusts_so : MayAdjust p account change plan
    adjusts_so = may_adjust p sound account change h.0 plan k adjust_is adjust_passes

    module _ (wallets : WithRoom Wallet) (pools : Pools) (troves : Kept) (order : Listed)
        (paid : wallets.rows ≡ credited_in (charged_in p.wallets.rows account change.coll_in change.repay) account
        change.coll_out change.borrow)
        (kept : books_kept troves pools ≡ place (lift (books_kept p.troves p.pools) account) account plan.coll
        plan.debt)
        (others : SameOthers (record p.pools { fee_lusd = p.pools.fee_lusd + plan.fee }) pools) where
      adjust_made : Changes (core_of p) (Adjust account change.coll_in change.coll_out change.borrow change.repay h.0
          h.1) (core_of (changed p plan.rate wallets pools troves order))
      adjust_made =
          adjusted_changes p sound account change h.0 plan k adjust_is adjust_passes wallets pools troves order h.1 paid
          kept others

      pub adjust_changes : (bound : ℕ) (words : HintWords)
          → Changes old (Adjust account change.coll_in change.coll_out change.borrow change.repay bound words)
          (core_of (changed p plan.rate wallets pools troves order))
      adjust_changes bound words =
          subst (λ (core : Core). Changes core (Adjust account change.coll_in change.coll_out change.borrow change.repay
          bound words) (core_of (changed p plan.rate wallets pools troves order))) view
          (record { image = adjust_made.image; records = adjust_made.records; clients = adjust_made.clients })

      pub adjust_sound : order.entries ≡ order_by troves.table.rows
          → IsSound (changed p plan.rate wallets pools troves order)
      adjust_sound listed =
          sound_after p (changed p plan.rate wallets pools troves order) (core_of p)
          (Adjust account change.coll_in change.coll_out change.borrow change.repay h.0 h.1) refl sound
          (adjust_left p sound account change h.0 plan k adjust_is adjust_passes) adjust_made listed

  module _ (repaid coll : ℕ) (is : (repaid, coll) ≡ closing_terms (or_nothing (entire_of (state_of old) account)))
      (h : first_refusal (rules (state_of old) (Close account)) ≡ None) where
    close_is : (repaid, coll) ≡ closing_terms (or_nothing (entire_of (state_of (core_of p)) account))
    close_is = subst (λ (core : Core). (repaid, coll) ≡ closing_terms (or_nothing (entire_of (state_of core) account)))
        (sym view) is

    close_passes : first_refusal (close_rules (market_of (state_of (core_of p)))
        (wallet_of (state_of (core_of p)) account) (entire_of (state_of (core_of p)) account) account) ≡ None
    close_passes = subst (λ (core : Core). first_refusal (rules (state_of core) (Close account)) ≡ None) (sym view) h

    pub closes_so : MayClose p account repaid coll
    closes_so = may_close p sound account repaid coll k close_is close_passes

    module _ (wallets : WithRoom Wallet) (pools : Pools) (troves : Kept) (order : Listed)
        (paid : wallets.rows ≡ credited_in (charged_in p.wallets.rows account 0 repaid) account coll 0)
        (kept : books_kept troves pools ≡ lift (books_kept p.troves p.pools) account)
        (others : SameOthers (record p.pools { reserve = p.pools.reserve - RESERVE }) pools) where
      close_made : Changes (core_of p) (Close account) (core_of (changed p p.rate wallets pools troves order))
      close_made = closed_changes p sound account repaid coll k close_is close_passes wallets pools troves order paid
          kept others

      pub close_changes : Changes old (Close account) (core_of (changed p p.rate wallets pools troves order))
      close_changes =
          subst (λ (core : Core). Changes core (Close account) (core_of (changed p p.rate wallets pools troves order)))
          view close_made

      pub close_sound : order.entries ≡ order_by troves.table.rows
          → IsSound (changed p p.rate wallets pools troves order)
      close_sound listed =
          sound_after p (changed p p.rate wallets pools troves order) (core_of p) (Close account) refl sound
          (close_left p sound account repaid coll k close_is close_passes) close_made listed

-- ---- between the two halves of an adjustment

module _ (b : Books) (stand : TrovesStand b) (account : ℕ) (pools : Pools) (troves : Kept)
    (left : books_kept troves pools ≡ lift b account) where
  pub left_absent : at troves.table.rows account ≡ None
  left_absent = ap (λ (x : Books). at x.troves account) left
      ∙ no_longer_there b account (at b.troves account) refl stand.ascend

  pub left_stand : TrovesStand (books_kept troves pools)
  left_stand = subst TrovesStand (sym left) (lift_stands b account stand)

  pub left_coll : pools.active_coll ≡ (lift b account).active_coll
  left_coll = ap (λ (x : Books). x.active_coll) left

  pub left_debt : pools.active_debt ≡ (lift b account).active_debt
  left_debt = ap (λ (x : Books). x.active_debt) left
