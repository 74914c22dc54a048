-- What an opening of two disks finds and leaves, by what it finds and leaves of each.
use Rattle.std.proofs.Common.{◌≡◌, ◌≢◌, ◌⊎◌, inl, inr, ℕ, List, [], Option, Some, None, IfSome, Bool, true, false, Result, Ok, Err, IfOk, IfErr, refl, sym, ◌∙◌, ap, ap₂, subst, arith, ◌≤◌, ⊎_elim}
use Rattle.liq_outside.specs.At.{DiskAt}
use Rattle.liq_outside.specs.Disk.{LeavesOnly, LeftNow, Only}
use Rattle.liq_journal.specs.Called.{Lasts}
use Rattle.liq_outside.specs.Faults.{Rose}
use Rattle.liq_outside.proofs.Moments.{chained, weaker}
use Rattle.liq_types.specs.State.{State}
use Rattle.liq_core.specs.Core.{Core, StandsFor}
use Rattle.liq_journal.specs.Causes.{Counted}
use Rattle.liq_journal.specs.Crash.{CreateLeaves, IsClosed, beginning}
use Rattle.liq_journal.specs.Opened.{CrashOfOpen, IsUnshut, OpenLeaves, ReadsOfOpen}
use Rattle.liq_journal.specs.Written.{Absent, found_on}
use Rattle.liq_journal.specs.declared.damage.Damage.{Damage}
use Rattle.liq_disk_pair.specs.declared.side.Side.TheVariants.{Left, Right}
use Rattle.liq_disk_pair.specs.Pair.{Faulty, standing, state_on}
use Rattle.liq_disk_pair.specs.Kept.{IsFirst, IsKept}
use Rattle.liq_disk_pair.specs.Unfinished.{IsRecovered, LeftLeaves}
use Rattle.liq_disk_pair.proofs.Beginning.{created_from, left_faulty, right_faulty, right_faulty_beside}
use Rattle.liq_disk_pair.proofs.Commands.{commands_alike}
use Rattle.liq_disk_pair.proofs.FirstPlace.{closed_settled}
use Rattle.liq_disk_pair.proofs.Recovering.{recovered}
use Rattle.liq_disk_pair.proofs.Standings.{standing_absent, standing_open, state_alike}
use Rattle.liq_store.specs.declared.answers.StoreFault.{StoreFault}
use Rattle.liq_store.specs.declared.answers.StoreWhy.{StoreWhy}
use Rattle.liq_store.specs.declared.answers.StoreWhy.TheVariants as why
use Rattle.liq_disk_records.specs.declared.answers.AcceptedFault.{AcceptedFault}
use Rattle.liq_disk_records.specs.declared.answers.AcceptedFault.TheVariants as fault
use Rattle.liq_store.specs.declared.standing.StandFault.{StandFault}
use Rattle.liq_store.specs.declared.standing.Stood.{Stood}
use Rattle.liq_store.specs.declared.standing.Stood.TheVariants.{Nothing, Holding}
use Rattle.liq_store.specs.Beginning.{BeginsLeft, Creates, IsStanding, IsStoodOn, IsUnbegun, IsUnbegunBy}
use Rattle.liq_store.specs.Causes.{CausesWhy, Faults, OneRose, counts_of}
use Rattle.liq_store.specs.Judging.{IsDamagedBy, IsFine, IsJudged, MetFault, disk_of}
use Rattle.liq_disk_records.specs.Reading.{CountsFault}
use Rattle.liq_store.specs.Keeping.{IsAtRest}
use Rattle.liq_store.specs.Opening.{IsNotOpened, IsWhyOf, OnlyOpens, OpensOn, left_after, right_after}
use Rattle.liq_store.specs.Standing.{CountsStand, IsCounted, IsFaultless, IsFoundOn, IsLeftOn, IsWhyOn, OnlyShuts, disk_in}
use Rattle.liq_store.specs.Stored.{Stored}
use Rattle.liq_store.proofs.OneDisk.{told_too}

-- All that is said of one disk that was opened and tested, whole: what `stand` ensures of it.
abbrev pub StandsAs : {D : Type 0} (at : D → DiskAt) (odd : Bool) (old : D) (result : Result (Stood D) (StandFault D))
    → Type 0
StandsAs at odd old result = record {
  found : (held : List ℕ) → (at old).seen ≡ Some held → IsFoundOn odd held result;
  left : IfSome (at (disk_in result)).seen (λ after. IsLeftOn after result);
  same : IsFaultless result → (held after : List ℕ) → (at old).seen ≡ Some held → (at (disk_in result)).seen
      ≡ Some after → found_on odd after ≡ found_on odd held;
  shut : IsFaultless result → (held after : List ℕ) → (at old).seen ≡ Some held → (at (disk_in result)).seen
      ≡ Some after → OnlyShuts odd held after;
  rest : IsFaultless result → IsAtRest at (disk_in result);
  journal : IfOk result (IsCounted odd);
  crash : CrashOfOpen at old (disk_in result) odd;
  reads : ReadsOfOpen at old (disk_in result) odd;
  lasts : Lasts at old (disk_in result);
  cause : CountsStand result (at old).faults (at (disk_in result)).faults;
}

-- nothing was wrong with either of two
pub both_fine : {D : Type 0} (at : D → DiskAt) (left right : D) (lr rr : Result (Stood D) (StandFault D))
    (stood_left stood_right : Stood D)
    → (lr ≡ Ok stood_left) × (rr ≡ Ok stood_right) → StandsAs at true left lr → StandsAs at false right rr
    → StandsAs at true left (Ok stood_left) × StandsAs at false right (Ok stood_right)
both_fine {D} at left right lr rr stood_left stood_right fine sl sr = (
  subst (λ (x : Result (Stood D) (StandFault D)). StandsAs at true left x) fine.0 sl,
  subst (λ (y : Result (Stood D) (StandFault D)). StandsAs at false right y) fine.1 sr,
)

module _ {D : Type 0} (at : D → DiskAt) where
  as_it_stands : (odd : Bool) (held now : List ℕ) (stood : Stood D) → found_on odd now ≡ found_on odd held
      → IsFoundOn odd held (Ok stood) → IsLeftOn now (Ok stood) → IsStanding odd now stood
  as_it_stands odd held now (Nothing disk) same found left = left
  as_it_stands odd held now (Holding journal core) same found left = (
    left,
    record {
      written = found.written;
      found = same ∙ found.found;
      generation_is = found.generation_is;
      state = found.state;
      came = found.came;
      stands = found.stands;
    },
  )

  disk_same : (stood : Stood D) → disk_in (Ok stood) ≡ disk_of stood
  disk_same (Nothing disk) = refl
  disk_same (Holding journal core) = refl

  pub stood_on : (odd : Bool) (old : D) (stood : Stood D) → StandsAs at odd old (Ok stood) → IsStoodOn at odd stood
  stood_on odd old stood is = record {
    counted = is.journal;
    rests = subst (IsAtRest at) (disk_same stood) (is.rest tt);
    told = subst (λ (d : D). IfSome (at d).seen (λ now. IsStanding odd now stood)) (disk_same stood)
        (by (at (disk_in (Ok stood))).seen refl);
  }
    where
      by : (o : Option (List ℕ)) → (at (disk_in (Ok stood))).seen ≡ o → IfSome o (λ now. IsStanding odd now stood)
      by None none = tt
      by (Some now) told =
          let before = told_too (at (disk_in (Ok stood))).seen (at old).seen (
            is.lasts.telling.1,
            is.lasts.telling.0,
          ) now told in
          as_it_stands odd before.0 now stood (is.same tt before.0 now before.1 told) (is.found before.0 before.1)
          (subst (λ (o : Option (List ℕ)). IfSome o (λ after. IsLeftOn after (Ok stood))) told is.left)

  module _ (left right : D) (lr rr : Result (Stood D) (StandFault D)) (sl : StandsAs at true left lr)
      (sr : StandsAs at false right rr) where
    -- ---- both stand as they did

    pub stands_still : IsFaultless lr → IsFaultless rr → (l r x y : List ℕ) → (at left).seen ≡ Some l
        → (at right).seen ≡ Some r → (at (disk_in lr)).seen ≡ Some x → (at (disk_in rr)).seen ≡ Some y
        → state_on x y ≡ state_on l r
    stands_still fl fr l r x y tl tr tx ty = state_alike l r x y (sl.same fl l x tl tx) (sr.same fr r y tr ty)

    left_told : (l : List ℕ) → (at left).seen ≡ Some l → (x : List ℕ) × ((at (disk_in lr)).seen ≡ Some x)
    left_told l tl = told_too (at left).seen (at (disk_in lr)).seen sl.lasts.telling l tl

    right_told : (r : List ℕ) → (at right).seen ≡ Some r → (y : List ℕ) × ((at (disk_in rr)).seen ≡ Some y)
    right_told r tr = told_too (at right).seen (at (disk_in rr)).seen sr.lasts.telling r tr

    state_before : IsFaultless lr → IsFaultless rr → (core : Core)
        → ((x y : List ℕ) → (at (disk_in lr)).seen ≡ Some x → (at (disk_in rr)).seen ≡ Some y → (s : State)
        × (state_on x y ≡ Ok s) × StandsFor core s)
        → (l r : List ℕ) → (at left).seen ≡ Some l → (at right).seen ≡ Some r → (s : State) × (state_on l r ≡ Ok s)
        × StandsFor core s
    state_before fl fr core states l r tl tr =
        let x = left_told l tl in
        let y = right_told r tr in
        let is = states x.0 y.0 x.1 y.1 in
        (is.0, sym (stands_still fl fr l r x.0 y.0 tl tr x.1 y.1) ∙ is.1, is.2)

    still_before : IsFaultless lr → IsFaultless rr → (x y : List ℕ) → ((l r : List ℕ) → (at (disk_in lr)).seen ≡ Some l
        → (at (disk_in rr)).seen ≡ Some r → state_on x y ≡ state_on l r)
        → (l r : List ℕ) → (at left).seen ≡ Some l → (at right).seen ≡ Some r → state_on x y ≡ state_on l r
    still_before fl fr x y still l r tl tr =
        let m = left_told l tl in
        let n = right_told r tr in
        still m.0 n.0 m.1 n.1 ∙ stands_still fl fr l r m.0 n.0 tl tr m.1 n.1

    -- ---- what a stop leaves of the left disk, and what it reads

    pub left_opened : (l r : List ℕ) → (at left).seen ≡ Some l → Only l (LeftNow at left) → (now : D) → now ≡ disk_in lr
        → LeavesOnly at left now (LeftLeaves l r)
    left_opened l r tl only now is =
        subst (λ (d : D). LeavesOnly at left d (LeftLeaves l r)) (sym is) (weaker at left (disk_in lr)
        (OpenLeaves true l) (LeftLeaves l r) (sl.crash l tl only) (λ image opened. inl opened))

    pub left_reads : (l r x : List ℕ) → (at left).seen ≡ Some l → (now : D) → now ≡ disk_in lr → (at now).seen ≡ Some x
        → LeftLeaves l r x
    left_reads l r x tl now is tx = inl (sl.reads l x tl (ap (λ (d : D). (at d).seen) (sym is) ∙ tx))

    pub right_opened : (r : List ℕ) → (at right).seen ≡ Some r → Only r (LeftNow at right) → (now : D)
        → now ≡ disk_in rr → LeavesOnly at right now (OpenLeaves false r)
    right_opened r tr only now is = subst (λ (d : D). LeavesOnly at right d (OpenLeaves false r)) (sym is)
        (sr.crash r tr only)

    pub right_reads : (r y : List ℕ) → (at right).seen ≡ Some r → (now : D) → now ≡ disk_in rr → (at now).seen ≡ Some y
        → OpenLeaves false r y
    right_reads r y tr now is ty = sr.reads r y tr (ap (λ (d : D). (at d).seen) (sym is) ∙ ty)

  -- ---- the first generation is created on the left one

  module _ (left right dl dr now : D) (sl : StandsAs at true left (Ok (Nothing dl))) (sr : StandsAs at false right
      (Ok (Nothing dr))) (creates : Creates at dl now) where
    from_old : (l r m image : List ℕ) → (at left).seen ≡ Some l → (at right).seen ≡ Some r → (at dl).seen ≡ Some m
        → CreateLeaves true m (beginning 1 []) image → LeftLeaves l r image
    from_old l r m image tl tr tm made =
        let shut : IsUnshut m → ⊥ = subst (λ (o : Option (List ℕ)). IfSome o (λ after. IsUnshut after
        → ⊥)) tm sl.left in
        inr (
          sl.found l tl,
          sr.found r tr,
          created_from l m image (beginning 1 []) (sl.found l tl) (sl.reads l m tl tm)
              shut made,
        )

    only_it : (m : List ℕ) → (at dl).seen ≡ Some m → Only m (LeftNow at dl)
    only_it m tm = subst (λ (o : Option (List ℕ)). IfSome o (λ l. Only l (LeftNow at dl))) tm (sl.rest tt)

    pub left_created : (l r : List ℕ) → (at left).seen ≡ Some l → (at right).seen ≡ Some r → Only l (LeftNow at left)
        → LeavesOnly at left now (LeftLeaves l r)
    left_created l r tl tr only =
        let m = told_too (at left).seen (at dl).seen sl.lasts.telling l tl in
        chained at left dl now (LeftLeaves l r)
        (weaker at left dl (OpenLeaves true l) (LeftLeaves l r) (sl.crash l tl only) (λ image opened. inl opened))
        (weaker at dl now (CreateLeaves true m.0 (beginning 1 [])) (LeftLeaves l r) (creates.crash m.0 m.1
        (only_it m.0 m.1)) (λ image made. from_old l r m.0 image tl tr m.1 made))

    pub created_reads : (l r x : List ℕ) → (at left).seen ≡ Some l → (at right).seen ≡ Some r → (at now).seen ≡ Some x
        → LeftLeaves l r x
    created_reads l r x tl tr tx =
        let m = told_too (at left).seen (at dl).seen sl.lasts.telling l tl in
        from_old l r m.0 x tl tr m.1 (creates.reads m.0 x m.1 (only_it m.0 m.1) tx)

  -- ---- whichever it is

  pub left_begun : (left right : D) (stood_left stood_right : Stood D) (now : D) → StandsAs at true left (Ok stood_left)
      → StandsAs at false right (Ok stood_right) → BeginsLeft at stood_left stood_right now
      → (l r : List ℕ) → (at left).seen ≡ Some l → (at right).seen ≡ Some r → Only l (LeftNow at left)
      → LeavesOnly at left now (LeftLeaves l r)
  left_begun left right stood_left stood_right now sl sr (inl same) l r tl tr only =
      left_opened left right (Ok stood_left) (Ok stood_right) sl sr l r tl only now (same ∙ sym (disk_same stood_left))
  left_begun left right (Nothing dl) (Nothing dr) now sl sr (inr made) l r tl tr only =
      left_created left right dl dr now sl sr made.2 l r tl tr only
  left_begun left right (Nothing dl) (Holding journal core) now sl sr (inr made) l r tl tr only = absurd made.1
  left_begun left right (Holding journal core) stood_right now sl sr (inr made) l r tl tr only = absurd made.0

  pub begun_reads : (left right : D) (stood_left stood_right : Stood D) (now : D)
      → StandsAs at true left (Ok stood_left) → StandsAs at false right (Ok stood_right)
      → BeginsLeft at stood_left stood_right now
      → (l r x : List ℕ) → (at left).seen ≡ Some l → (at right).seen ≡ Some r → (at now).seen ≡ Some x
      → LeftLeaves l r x
  begun_reads left right stood_left stood_right now sl sr (inl same) l r x tl tr tx =
      left_reads left right (Ok stood_left) (Ok stood_right) sl sr l r x tl now (same ∙ sym (disk_same stood_left)) tx
  begun_reads left right (Nothing dl) (Nothing dr) now sl sr (inr made) l r x tl tr tx =
      created_reads left right dl dr now sl sr made.2 l r x tl tr tx
  begun_reads left right (Nothing dl) (Holding journal core) now sl sr (inr made) l r x tl tr tx = absurd made.1
  begun_reads left right (Holding journal core) stood_right now sl sr (inr made) l r x tl tr tx = absurd made.0

  pub same_disk : (stood : Stood D) (now : D) → now ≡ disk_of stood → now ≡ disk_in (Ok stood)
  same_disk stood now is = is ∙ sym (disk_same stood)

  -- what both read then, of two that were kept
  begun_recovered : (left right : D) (stood_left stood_right : Stood D) (a b : D)
      → StandsAs at true left (Ok stood_left) → StandsAs at false right (Ok stood_right)
      → BeginsLeft at stood_left stood_right a → b ≡ disk_of stood_right
      → (l r x y : List ℕ) (s : State) → (at left).seen ≡ Some l → (at right).seen ≡ Some r → IsKept l r s
      → (at a).seen ≡ Some x → (at b).seen ≡ Some y → IsRecovered l r s x y
  begun_recovered left right stood_left stood_right a b sl sr begins same l r x y s tl tr kept tx ty =
      recovered l r x y s kept (begun_reads left right stood_left stood_right a sl sr begins l r x tl tr tx)
      (right_reads left right (Ok stood_left) (Ok stood_right) sl sr r y tr b (same_disk stood_right b same) ty)

  pub begun_reads_kept : (left right : D) (stood_left stood_right : Stood D) → StandsAs at true left (Ok stood_left)
      → StandsAs at false right (Ok stood_right) → (result : Result (Stored D) (StoreFault D))
      → BeginsLeft at stood_left stood_right (left_after result) → right_after result ≡ disk_of stood_right
      → IfOk result (λ store. (l r x y : List ℕ) (s : State) → (at left).seen ≡ Some l → (at right).seen ≡ Some r
      → IsKept l r s → (at store.left).seen ≡ Some x → (at store.right).seen ≡ Some y → IsRecovered l r s x y)
  begun_reads_kept left right stood_left stood_right sl sr (Ok store) begins same =
      begun_recovered left right stood_left stood_right store.left store.right sl sr begins same
  begun_reads_kept left right stood_left stood_right sl sr (Err e) begins same = tt

  -- ---- a store was opened

  same_counts : (left right : D) (stood_left stood_right : Stood D)
      → CountsStand (Ok stood_left) (at left).faults (at (disk_in (Ok stood_left))).faults
      → CountsStand (Ok stood_right) (at right).faults (at (disk_in (Ok stood_right))).faults
      → counts_of at (disk_of stood_left) (disk_of stood_right) ≡ counts_of at left right
  same_counts left right stood_left stood_right cl cr =
      let both : ℕ → ℕ → Faults = λ m n. record { left = m; right = n } in
      ap₂ both (ap (λ (d : D). (at d).faults) (sym (disk_same stood_left))
      ∙ cl) (ap (λ (d : D). (at d).faults) (sym (disk_same stood_right)) ∙ cr)

  pub begun_opened : (left right : D) (stood_left stood_right : Stood D) → StandsAs at true left (Ok stood_left)
      → StandsAs at false right (Ok stood_right)
      → (result : Result (Stored D) (StoreFault D))
      → IfOk result (OpensOn at (disk_of stood_left) (disk_of stood_right)) → IfOk result (OpensOn at left right)
  begun_opened left right stood_left stood_right sl sr (Ok store) is =
      let on_left : (m : List ℕ) → (at (disk_in (Ok stood_left))).seen ≡ Some m → (at (disk_of stood_left)).seen
      ≡ Some m = λ m told. ap (λ (d : D). (at d).seen) (sym (disk_same stood_left)) ∙ told in
      let on_right : (n : List ℕ) → (at (disk_in (Ok stood_right))).seen ≡ Some n → (at (disk_of stood_right)).seen
      ≡ Some n = λ n told. ap (λ (d : D). (at d).seen) (sym (disk_same stood_right)) ∙ told in
      record {
        state = state_before left right (Ok stood_left) (Ok stood_right) sl sr tt tt store.core (λ m n tm tn.
            is.state m n (on_left m tm) (on_right n tn));
        commands = λ l r now tl tr tn.
            let m = left_told left right (Ok stood_left) (Ok stood_right) sl sr l tl in
            let n = right_told left right (Ok stood_left) (Ok stood_right) sl sr r tr in
            let holds = is.commands m.0 n.0 now (on_left m.0 m.1) (on_right n.0 n.1) tn in
            record {
              written = holds.written;
              found = holds.found;
              begins = holds.begins;
              are = holds.are ∙ commands_alike l r m.0 n.0 (sl.same tt l m.0 tl m.1) (sr.same tt r n.0 tr n.1);
            };
        going = is.going;
        counts = is.counts ∙ same_counts left right stood_left stood_right sl.cause sr.cause;
        stays = λ l r x y tl tr tx ty. still_before left right (Ok stood_left) (Ok stood_right) sl sr tt tt x y
            (λ m n tm tn. is.stays m n x y (on_left m tm) (on_right n tn) tx ty) l r tl tr;
      }
  begun_opened left right stood_left stood_right sl sr (Err e) is = tt

  -- ---- none was opened: the first generation was not created

  pub begun_not : (left right : D) (stood_left stood_right : Stood D) → StandsAs at true left (Ok stood_left)
      → StandsAs at false right (Ok stood_right)
      → (result : Result (Stored D) (StoreFault D)) → BeginsLeft at stood_left stood_right (left_after result)
      → right_after result ≡ disk_of stood_right
      → IfErr result (IsUnbegun at (disk_of stood_left) (disk_of stood_right))
      → IfErr result (IsNotOpened at left right)
  begun_not left right stood_left stood_right sl sr (Ok store) begins same unbegun = tt
  begun_not left right stood_left stood_right sl sr (Err e) begins same unbegun = by e.why refl unbegun
    where
      reads_kept : (l r x y : List ℕ) (s : State) → (at left).seen ≡ Some l → (at right).seen ≡ Some r → IsKept l r s
          → (at e.left).seen ≡ Some x → (at e.right).seen ≡ Some y → IsRecovered l r s x y
      reads_kept = begun_recovered left right stood_left stood_right e.left e.right sl sr begins same

      by : (y : StoreWhy) → e.why ≡ y → IsUnbegunBy at (disk_of stood_left) (disk_of stood_right) e y
          → IsNotOpened at left right e
      by why.DiskFault fault counted =
          let left_is : (at (disk_of stood_left)).faults ≡ (at left).faults =
          ap (λ (d : D). (at d).faults) (sym (disk_same stood_left)) ∙ sl.cause in
          let right_is : (at e.right).faults ≡ (at right).faults = ap (λ (d : D). (at d).faults) (same
          ∙ sym (disk_same stood_right)) ∙ sr.cause in
          let rose : Counted (at left).faults (at e.left).faults =
          subst (λ (n : ℕ). Counted n (at e.left).faults) left_is counted in
          let one : OneRose (counts_of at left right) (counts_of at e.left e.right) =
          record { left = rose.later; right = omega arith; rose = inl rose.rose } in
          record {
            cause = subst (λ (y : StoreWhy). CausesWhy y (counts_of at left right) (counts_of at e.left e.right))
                (sym fault) one;
            is_why = λ l r tl tr. subst (λ (y : StoreWhy). IsWhyOf l r y) (sym fault) tt;
            stays = λ other. absurd (other fault);
            reads = reads_kept;
          }
      by (why.Damaged side damage) fault unbegun = absurd unbegun
      by why.NoMemory fault still =
          record {
            cause = subst (λ (y : StoreWhy). CausesWhy y (counts_of at left right) (counts_of at e.left e.right))
                (sym fault) (still.counts ∙ same_counts left right stood_left stood_right sl.cause sr.cause);
            is_why = λ l r tl tr. subst (λ (y : StoreWhy). IsWhyOf l r y) (sym fault) tt;
            stays = λ other l r x y tl tr tx ty.
                still_before left right (Ok stood_left) (Ok stood_right) sl sr tt tt x y
                (λ m n tm tn. still.stays m n x y (ap (λ (d : D). (at d).seen) (sym (disk_same stood_left))
                ∙ tm) (ap (λ (d : D). (at d).seen) (sym (disk_same stood_right)) ∙ tn) tx ty) l r tl tr;
            reads = reads_kept;
          }

-- ---- why nothing is opened

judged_faultless : {D : Type 0} (lr rr : Result (Stood D) (StandFault D)) (y : StoreWhy) → IsJudged lr rr y
    → (y ≡ why.DiskFault → ⊥) → IsFaultless lr × IsFaultless rr
judged_faultless lr rr why.DiskFault judged other = absurd (other refl)
judged_faultless lr rr (why.Damaged Left damage) judged other = (judged.1, judged.2)
judged_faultless lr rr (why.Damaged Right damage) judged other = (judged.2, judged.3)
judged_faultless lr rr why.NoMemory judged other = judged

damaged_so : {D : Type 0} (odd : Bool) (held : List ℕ) (damage : Damage) (result : Result (Stood D) (StandFault D))
    → IsDamagedBy damage result → IsFoundOn odd held result → standing odd held ≡ Faulty damage
damaged_so odd held damage (Ok stood) is found = absurd is
damaged_so odd held damage (Err met) is found = subst (λ (y : AcceptedFault). IsWhyOn odd held y) is found

fine_so : {D : Type 0} (l r : List ℕ) (damage : Damage) (lr : Result (Stood D) (StandFault D)) → IsFine lr
    → IsFoundOn true l lr → standing false r ≡ Faulty damage → state_on l r ≡ Err (Right, damage)
fine_so l r damage (Ok (Nothing disk)) fine found is = right_faulty l r damage (standing_absent true l found) is
fine_so l r damage (Ok (Holding journal core)) fine found is =
    right_faulty_beside l r found.written.generation found.state damage (standing_open true l found.written found.state
    found.found found.came) is
fine_so l r damage (Err met) fine found is = absurd fine

judged_why : {D : Type 0} (l r : List ℕ) (lr rr : Result (Stood D) (StandFault D)) (y : StoreWhy) → IsJudged lr rr y
    → IsFoundOn true l lr → IsFoundOn false r rr → IsWhyOf l r y
judged_why l r lr rr why.DiskFault judged fl fr = tt
judged_why l r lr rr (why.Damaged Left damage) judged fl fr =
    left_faulty l r damage (damaged_so true l damage lr judged.0 fl)
judged_why l r lr rr (why.Damaged Right damage) judged fl fr =
    fine_so l r damage lr judged.0 fl (damaged_so false r damage rr judged.1 fr)
judged_why l r lr rr why.NoMemory judged fl fr = tt

-- ---- the counts

no_fewer : {D : Type 0} (result : Result (Stood D) (StandFault D)) (before after : ℕ) → CountsStand result before after
    → before ≤ after
no_fewer (Ok stood) before after counts = omega (arith, counts)
no_fewer (Err met) before after counts = by met.why counts
  where
    by : (y : AcceptedFault) → CountsFault y before after → before ≤ after
    by fault.DiskFault c = c.later
    by (fault.Damaged damage) c = omega (arith, c)
    by fault.NoMemory c = omega (arith, c)

rose_there : {D : Type 0} (result : Result (Stood D) (StandFault D)) (before after : ℕ) → MetFault result
    → CountsStand result before after → Rose before after
rose_there (Ok stood) before after met counts = absurd met
rose_there (Err e) before after met counts =
    let counted : Counted before after = subst (λ (y : AcceptedFault). CountsFault y before after) met counts in
    counted.rose

still_there : {D : Type 0} (result : Result (Stood D) (StandFault D)) (before after : ℕ) → IsFaultless result
    → CountsStand result before after → after ≡ before
still_there (Ok stood) before after faultless counts = counts
still_there (Err e) before after faultless counts = by e.why faultless counts
  where
    by : (y : AcceptedFault) → (y ≡ fault.DiskFault → ⊥) → CountsFault y before after → after ≡ before
    by fault.DiskFault f c = absurd (f refl)
    by (fault.Damaged damage) f c = c
    by fault.NoMemory f c = c

module _ {D : Type 0} (lr rr : Result (Stood D) (StandFault D)) (before after : Faults)
    (cl : CountsStand lr before.left after.left) (cr : CountsStand rr before.right after.right) where
  one_rose : Rose before.left after.left ⊎ Rose before.right after.right → OneRose before after
  one_rose rose = record {
    left = no_fewer lr before.left after.left cl;
    right = no_fewer rr before.right after.right cr;
    rose = rose;
  }

  none_rose : IsFaultless lr → IsFaultless rr → after ≡ before
  none_rose fl fr = λ i. record {
    left = still_there lr before.left after.left fl cl i;
    right = still_there rr before.right after.right fr cr i;
  }

  judged_cause : (y : StoreWhy) → IsJudged lr rr y → CausesWhy y before after
  judged_cause why.DiskFault judged = one_rose (⊎_elim (λ met. inl (rose_there lr before.left after.left met cl))
      (λ met. inr (rose_there rr before.right after.right met cr)) judged)
  judged_cause (why.Damaged Left damage) judged = none_rose judged.1 judged.2
  judged_cause (why.Damaged Right damage) judged = none_rose judged.2 judged.3
  judged_cause why.NoMemory judged = none_rose judged.0 judged.1

-- ---- none was opened: something was wrong with one of the disks

module _ {D : Type 0} (at : D → DiskAt) where
  pub judged_not : (left right : D) (lr rr : Result (Stood D) (StandFault D)) → StandsAs at true left lr
      → StandsAs at false right rr
      → (e : StoreFault D) → e.left ≡ disk_in lr → e.right ≡ disk_in rr → IsJudged lr rr e.why
      → IsNotOpened at left right e
  judged_not left right lr rr sl sr e is_left is_right judged = record {
    cause = judged_cause lr rr (counts_of at left right) (counts_of at e.left e.right)
        (subst (λ (n : ℕ). CountsStand lr (at left).faults n) (ap (λ (d : D). (at d).faults) (sym is_left)) sl.cause)
        (subst (λ (n : ℕ). CountsStand rr (at right).faults n) (ap (λ (d : D). (at d).faults) (sym is_right))
        sr.cause) e.why judged;
    is_why = λ l r tl tr. judged_why l r lr rr e.why judged (sl.found l tl) (sr.found r tr);
    stays = λ other l r x y tl tr tx ty.
        let faultless = judged_faultless lr rr e.why judged other in
        stands_still at left right lr rr sl sr faultless.0 faultless.1 l r x y tl tr (ap (λ (d : D). (at d).seen)
        (sym is_left) ∙ tx) (ap (λ (d : D). (at d).seen) (sym is_right) ∙ ty);
    reads = λ l r x y s tl tr kept tx ty.
        recovered l r x y s kept (left_reads at left right lr rr sl sr l r x tl e.left is_left tx)
        (right_reads at left right lr rr sl sr r y tr e.right is_right ty);
  }

  -- and nothing is pending where no disk met a fault
  pub judged_rests : (left right : D) (lr rr : Result (Stood D) (StandFault D))
      → StandsAs at true left lr → StandsAs at false right rr
      → (e : StoreFault D) → e.left ≡ disk_in lr → e.right ≡ disk_in rr → IsJudged lr rr e.why
      → e.why ≢ why.DiskFault → IsAtRest at e.left × IsAtRest at e.right
  judged_rests left right lr rr sl sr e is_left is_right judged other =
      let faultless = judged_faultless lr rr e.why judged other in (
        subst (IsAtRest at) (sym is_left) (sl.rest faultless.0),
        subst (IsAtRest at) (sym is_right) (sr.rest faultless.1),
      )

  -- each tells its bytes as they were, or with a 0 where one was shut
  pub judged_shuts : (left right : D) (lr rr : Result (Stood D) (StandFault D))
      → StandsAs at true left lr → StandsAs at false right rr
      → (e : StoreFault D) → e.left ≡ disk_in lr → e.right ≡ disk_in rr → IsJudged lr rr e.why
      → e.why ≢ why.DiskFault → (l r a b : List ℕ) → (at left).seen ≡ Some l → (at right).seen ≡ Some r
      → (at e.left).seen ≡ Some a → (at e.right).seen ≡ Some b → OnlyOpens l r a b
  judged_shuts left right lr rr sl sr e is_left is_right judged other l r a b tl tr ta tb =
      let faultless = judged_faultless lr rr e.why judged other in (
        sr.shut faultless.1 r b tr (ap (λ (d : D). (at d).seen) (sym is_right) ∙ tb),
        inl (sl.shut faultless.0 l a tl (ap (λ (d : D). (at d).seen) (sym is_left) ∙ ta)),
      )

  -- what a creation leaves on a disk whose gate is shut
  created_so : (m a : List ℕ) → (IsUnshut m → ⊥) → CreateLeaves true m (beginning 1 []) a
      → IsClosed a ⊎ IsFirst true a
  created_so m a shut (inl closed) = inl closed
  created_so m a shut (inr (inl settled)) = inl (closed_settled m a shut settled)
  created_so m a shut (inr (inr stands)) = inr (record {
    written = beginning 1 [];
    stands = stands;
    first = refl;
    limit_is = refl;
    none = refl;
  })

  left_shuts : (left right : D) (stood_left stood_right : Stood D) (now : D) → StandsAs at true left (Ok stood_left)
      → StandsAs at false right (Ok stood_right) → BeginsLeft at stood_left stood_right now
      → (l r a : List ℕ) → (at left).seen ≡ Some l → (at right).seen ≡ Some r → (at now).seen ≡ Some a
      → OnlyShuts true l a ⊎ ((found_on true l ≡ Absent) × (found_on false r ≡ Absent)
      × (IsClosed a ⊎ IsFirst true a))
  left_shuts left right stood_left stood_right now sl sr (inl same) l r a tl tr ta =
      inl (sl.shut tt l a tl (ap (λ (d : D). (at d).seen) (sym (same_disk at stood_left now same)) ∙ ta))
  left_shuts left right (Nothing dl) (Nothing dr) now sl sr (inr made) l r a tl tr ta =
      let m = told_too (at left).seen (at dl).seen sl.lasts.telling l tl in
      let shut : IsUnshut m.0 → ⊥ = subst (λ (o : Option (List ℕ)). IfSome o (λ after. IsUnshut after → ⊥)) m.1 sl.left
      in
      inr (
        sl.found l tl,
        sr.found r tr,
        created_so m.0 a shut (made.2.reads m.0 a m.1
            (only_it at left right dl dr now sl sr made.2 m.0 m.1) ta),
      )
  left_shuts left right (Nothing dl) (Holding journal core) now sl sr (inr made) l r a tl tr ta = absurd made.1
  left_shuts left right (Holding journal core) stood_right now sl sr (inr made) l r a tl tr ta = absurd made.0

  -- where nothing was wrong with either
  pub begun_shuts : (left right : D) (stood_left stood_right : Stood D) (a_left a_right : D)
      → StandsAs at true left (Ok stood_left) → StandsAs at false right (Ok stood_right)
      → BeginsLeft at stood_left stood_right a_left → a_right ≡ disk_of stood_right
      → (l r a b : List ℕ) → (at left).seen ≡ Some l → (at right).seen ≡ Some r
      → (at a_left).seen ≡ Some a → (at a_right).seen ≡ Some b → OnlyOpens l r a b
  begun_shuts left right stood_left stood_right a_left a_right sl sr begins same l r a b tl tr ta tb = (
    sr.shut tt r b tr (ap (λ (d : D). (at d).seen) (sym (same_disk at stood_right a_right same)) ∙ tb),
    left_shuts left right stood_left stood_right a_left sl sr begins l r a tl tr ta,
  )
