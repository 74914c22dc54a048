-- What follows from the top call's clause where nothing is wrong.
use Rattle.std.proofs.Common.{◌≡◌, ◌≢◌, ◌≤◌, ℕ, zero, suc, List, [], ◌∷◌, ◌++◌, length, Option, Some, Ok, Err, refl, sym, ap, subst, ◌∙◌, arith, inl, inr}
use Rattle.std.specs.Prelude.{◌⊎◌, ◌<◌, Contains, IfSome}
use Rattle.std.specs.List.{AllZip}
use Rattle.liq_outside.specs.At.{DiskAt, SinkAt, SourceAt}
use Rattle.liq_outside.specs.Faults.{Rose}
use Rattle.liq_types.specs.declared.amounts.TheConstants.{LINES_MOST}
use Rattle.liq_types.specs.declared.requests.Request.{Request}
use Rattle.liq_types.specs.State.{State, opening_with}
use Rattle.liq_rule_step.specs.History.{Entry}
use Rattle.liq_text_lines.specs.declared.stops.Stop.TheVariants as stop
use Rattle.liq_types.specs.declared.requests.Command.{Command}
use Rattle.liq_fees.specs.Lines as stakes
use Rattle.liq_text_staking.specs.Staked.{staked_text}
use Rattle.liq_rewards.specs.Lines as tags
use Rattle.liq_text_rewards.specs.Rewarded.{rewarded_text}
use Rattle.liq_text_lines.specs.Lines.{lines_in}
use Rattle.liq_text_lines.specs.Reading.{Reads}
use Rattle.liq_text_lines.proofs.Sayings.{stops_outside}
use Rattle.liq_disk_pair.specs.Pair.{commands_on, state_on}
use Rattle.liq_disk_pair.specs.Past.{Fault, NoFault}
use Rattle.liq_disk_pair.specs.Replay.{replay}
use Rattle.liq_text_scripts.specs.Asked.{Asks}
use Rattle.liq_word_line.specs.declared.words.Word.TheVariants as word
use Rattle.liq_word_line.specs.Words.{Ask}
use Rattle.liq_word_exit.specs.declared.halts.Halt.{Halt}
use Rattle.liq_word_exit.specs.declared.halts.Halt.TheVariants.{BadLine, ReadFault, WriteFault, DiskFault, Damaged, DamagedInput, NoMemory, Limit, Rotated}
use Rattle.liq_word_exit.specs.Reading.{ReadsTo}
use Rattle.liq_word_exit.specs.Statuses.{End, IsDone, status_of}
use Rattle.liq_word_exit.specs.Stops.{EndsAfter}
use Rattle.liq_text.specs.Spelling.{Spells}
use Rattle.liq_store.specs.Causes.{OneRose, counts_of}
use Rattle.liq_word_state.specs.Answers.{IsAnswerOf}
use Rattle.liq_word_state.proofs.Audited.{no_limit}
use Rattle.liq_follower.specs.Fed.{GoOn}
use Rattle.liq_word_follow.specs.declared.feeding.TheConstants.{FED_MOST}
use Rattle.liq_word_follow.specs.Followed.{FollowsTo}
use Rattle.liq_word_follow.proofs.Ended.{damaged_so, long_so, turned_so, whole_so}
use Rattle.liq_serve.specs.Calm.{AnswersFirst, IsComplete, RefusesLater}
use Rattle.liq_word_exit.specs.Outside.{Outside}
use Rattle.liq_serve.specs.Top.{Answers, AnswersLines, Ends, OpensNone, ServesTo, StopsUnopened, Tells, TellsFound}
use Rattle.liq_serve.proofs.ByStatus.{by_status}
use Rattle.liq_serve.proofs.Found.{found_of}
use Rattle.liq_serve.proofs.Served.{IsStopping}
use Rattle.liq_serve.proofs.StatusLaws.{neither, run_done}
use Rattle.liq_serve.proofs.Telling.{audit_done, load_done, rotated_done, state_done}

-- ---- of `serve`

-- reading stopped
module _ {X : Type 0} (Says : List ℕ → X → Type 0) where
  stopped_seven :
      (end : End) (bytes : List ℕ) (left : Option (List ℕ)) (asked all : List X) → IsStopping end
      → ReadsTo Says bytes left asked end → AllZip Says (lines_in bytes) all → length all ≤ LINES_MOST
      → status_of end ≢ 3 → status_of end ≡ 7
  stopped_seven end bytes left asked all (n, (zero, within, is)) h spelled few read =
      absurd (neither (λ e. cc) (λ e. cc)
      (stops_outside Says (stop.BadLine n) bytes left asked all spelled few
      (subst (λ (e : End). ReadsTo Says bytes left asked e) (sym is) h)))
  stopped_seven end bytes left asked all (n, (suc zero, within, is)) h spelled few read =
      absurd (read (sym (ap status_of is)))
  stopped_seven end bytes left asked all (n, (suc (suc zero), within, is)) h spelled few read = sym (ap status_of is)
  stopped_seven end bytes left asked all (n, (suc (suc (suc zero)), within, is)) h spelled few read =
      absurd (neither (λ e. cc) (λ e. cc)
      (stops_outside Says stop.Limit bytes left asked all spelled few
      (subst (λ (e : End). ReadsTo Says bytes left asked e) (sym is) h).1))
  stopped_seven end bytes left asked all (n, (suc (suc (suc (suc k))), within, is)) h spelled few read =
      absurd (omega (arith, within))

unopened_done : (n : ℕ) → Contains (5 ∷ 7 ∷ []) n → n ≢ 5 → IsDone n
unopened_done n (zero, within, is) disk = absurd (disk (sym is))
unopened_done n (suc zero, within, is) disk = inr (sym is)
unopened_done n (suc (suc k), within, is) disk = absurd (omega (arith, within))

whole_done : (n : ℕ) → Contains (0 ∷ 4 ∷ []) n → n ≢ 4 → IsDone n
whole_done n (zero, within, is) sink = inl (sym is)
whole_done n (suc zero, within, is) sink = absurd (sink (sym is))
whole_done n (suc (suc k), within, is) sink = absurd (omega (arith, within))

module _
    {S K D : Type 0} (source_at : S → SourceAt) (sink_at : K → SinkAt) (disk_at : D → DiskAt)
    (before after : Outside S K D) where
  answers_done : (asked : List (ℕ × Request)) (history : List Entry) (fault : Fault) (end : End)
      → Answers source_at sink_at disk_at before after asked history fault end → status_of end ≢ 4 → status_of end ≢ 5
      → IsDone (status_of end)
  answers_done asked history fault (Ok done) a sink disk = inl refl
  answers_done asked history fault (Err (BadLine n)) a sink disk = whole_done _ a.2 sink
  answers_done asked history fault (Err ReadFault) a sink disk = whole_done _ a.2 sink
  answers_done asked history fault (Err WriteFault) a sink disk = absurd (sink refl)
  answers_done asked history fault (Err DiskFault) a sink disk = absurd (disk refl)
  answers_done asked history fault (Err (Damaged side number)) a sink disk = whole_done _ a.2 sink
  answers_done asked history fault (Err NoMemory) a sink disk = inr refl
  answers_done asked history fault (Err (Limit number)) a sink disk = whole_done _ a.2 sink
  answers_done asked history fault (Err (Rotated generation)) a sink disk = whole_done _ a.2 sink
  answers_done asked history fault (Err (DamagedInput number)) a sink disk = whole_done _ a.2 sink

  pub serve_done :
      (end : End) → ServesTo source_at sink_at disk_at before after end
      → (bytes l r : List ℕ) (start : State) (all : List (ℕ × Request)) → (source_at before.source).left ≡ Some bytes
      → (disk_at before.left).seen ≡ Some l → (disk_at before.right).seen ≡ Some r
      → state_on l r ≡ Ok start → AllZip Asks (lines_in bytes) all → length all ≤ LINES_MOST → status_of end ≢ 3
      → status_of end ≢ 4 → status_of end ≢ 5
      → IsDone (status_of end)
  serve_done end serves bytes l r start all told told_l told_r is spelled few read sink disk = by serves.came where
    by : ((serves.reading ≡ end) × (serves.history ≡ []) × (serves.fault ≡ NoFault)
        × StopsUnopened source_at sink_at disk_at before after end)
        ⊎ ((serves.reading ≡ Ok tt)
        × (OpensNone source_at sink_at disk_at before after serves.history serves.fault end
        ⊎ Answers source_at sink_at disk_at before after serves.asked serves.history serves.fault end))
        → IsDone (status_of end)
    by (inl (stopped, none, no_fault, (left, right, stopping))) =
        inr (stopped_seven Asks end bytes (source_at after.source).left serves.asked all stopping
        (subst (λ (e : End). ReadsTo Asks bytes (source_at after.source).left serves.asked e) stopped
        (serves.read bytes told)) spelled few read)
    by (inr (whole, inl opens)) = unopened_done (status_of end)
        (found_of source_at sink_at disk_at before after end _ _ l r start told_l told_r is opens.2).0 disk
    by (inr (whole, inr answers)) = answers_done serves.asked serves.history serves.fault end answers sink disk

-- ---- of what is followed

done_by : (end : End) → (end ≡ Ok tt) ⊎ (end ≡ Err NoMemory) → IsDone (status_of end)
done_by end (inl is) = inl (ap status_of is)
done_by end (inr is) = inr (ap status_of is)

-- what holds of an end holds of the one that it is
stopped_by : (P : End → Type 0) (end wanted : End) → P end → (end ≡ wanted)
    ⊎ (end ≡ Err NoMemory) → ((status_of end ≡ status_of wanted) × P wanted) ⊎ (status_of end ≡ 7)
stopped_by P end wanted holds (inl is) = inl (ap status_of is, subst P is holds)
stopped_by P end wanted holds (inr is) = inr (ap status_of is)

-- ---- of lines that are answered

-- of the first generation
answers_beside_done : (s : State) (all : List Command) (end : End) → s.generation ≡ 1 → IsAnswerOf s all end
    → status_of end ≢ 4 → status_of end ≢ 5 → IsDone (status_of end)
answers_beside_done s all (Ok done) first h sink disk = inl refl
answers_beside_done s all (Err WriteFault) first h sink disk = absurd (sink refl)
answers_beside_done s all (Err DiskFault) first h sink disk = absurd (disk refl)
answers_beside_done s all (Err NoMemory) first h sink disk = inr refl
answers_beside_done s all (Err (Rotated generation)) first h sink disk = absurd (omega (arith, first, h.0))
answers_beside_done s all (Err _) first h sink disk = absurd h

-- of a later one
answers_beside_rotated : (s : State) (all : List Command) (end : End) → 1 < s.generation → IsAnswerOf s all end
    → status_of end ≢ 5 → (status_of end ≡ 9) ⊎ (status_of end ≡ 7)
answers_beside_rotated s all (Ok done) later h disk = absurd (omega (arith, later, h.0))
answers_beside_rotated s all (Err WriteFault) later h disk = absurd (omega (arith, later, h.0))
answers_beside_rotated s all (Err DiskFault) later h disk = absurd (disk refl)
answers_beside_rotated s all (Err NoMemory) later h disk = inr refl
answers_beside_rotated s all (Err (Rotated generation)) later h disk = inl refl
answers_beside_rotated s all (Err _) later h disk = absurd h

module _
    {S K D : Type 0} (source_at : S → SourceAt) (sink_at : K → SinkAt) (disk_at : D → DiskAt)
    (before after : Outside S K D)
    {X : Type 0} (Says : List ℕ → X → Type 0) (text : ℕ → List Command → List X → List ℕ) where
  -- Where all lines were read well, they were answered beside the state, or there was no memory to read them.
  lines_came :
      (end : End) (answered : AnswersLines source_at sink_at disk_at before after Says text end)
      → (bytes l r : List ℕ) (start : State) (all : List X) → (source_at before.source).left ≡ Some bytes
      → (disk_at before.left).seen ≡ Some l → (disk_at before.right).seen ≡ Some r
      → state_on l r ≡ Ok start → AllZip Says (lines_in bytes) all → length all ≤ LINES_MOST → status_of end ≢ 3
      → IsAnswerOf start (commands_on l r) end ⊎ (status_of end ≡ 7)
  lines_came end answered bytes l r start all told told_l told_r is spelled few read = by answered.came where
    by : ((answered.reading ≡ end) × StopsUnopened source_at sink_at disk_at before after end
        × Tells source_at sink_at disk_at before after [] [] end)
        ⊎ ((answered.reading ≡ Ok tt) × TellsFound source_at sink_at disk_at before after end
        (λ s commands it. IsAnswerOf s commands end × (it ≡ text s.limit commands answered.asked)))
        → IsAnswerOf start (commands_on l r) end ⊎ (status_of end ≡ 7)
    by (inl (stopped, unopened, line)) =
        inr (stopped_seven Says end bytes (source_at after.source).left answered.asked all unopened.2
        (subst (λ (e : End). ReadsTo Says bytes (source_at after.source).left answered.asked e)
        stopped (answered.read bytes told)) spelled few read)
    by (inr (whole, answers)) =
        inl (found_of source_at sink_at disk_at before after end _ _ l r start told_l told_r is answers).0.1.0

lines_done : (s : State) (all : List Command) (end : End) → IsAnswerOf s all end ⊎ (status_of end ≡ 7)
    → s.generation ≡ 1
    → status_of end ≢ 4 → status_of end ≢ 5 → IsDone (status_of end)
lines_done s all end (inl h) first sink disk = answers_beside_done s all end first h sink disk
lines_done s all end (inr seven) first sink disk = inr seven

lines_rotated : (s : State) (all : List Command) (end : End) → IsAnswerOf s all end ⊎ (status_of end ≡ 7)
    → 1 < s.generation
    → status_of end ≢ 5 → (status_of end ≡ 9) ⊎ (status_of end ≡ 7)
lines_rotated s all end (inl h) later disk = answers_beside_rotated s all end later h disk
lines_rotated s all end (inr seven) later disk = inr seven

-- ---- of each word

module _
    {S K D : Type 0} (source_at : S → SourceAt) (sink_at : K → SinkAt) (disk_at : D → DiskAt)
    (before after : Outside S K D) where
  -- the counts that rose, by a status
  record Rises (status : ℕ) : Type 0 where
    source : status ≡ 3 → Rose (source_at before.source).faults (source_at after.source).faults
    sink : status ≡ 4 → Rose (sink_at before.sink).faults (sink_at after.sink).faults
    disk : status ≡ 5 → OneRose (counts_of disk_at before.left before.right) (counts_of disk_at after.left after.right)

  abbrev First : {X : Type 0} → (List ℕ → X → Type 0) → ℕ → Type 0
  First Says status = AnswersFirst source_at sink_at disk_at before after Says status

  abbrev Later : {X : Type 0} → (List ℕ → X → Type 0) → ℕ → Type 0
  Later Says status = RefusesLater source_at sink_at disk_at before after Says status

  -- lines of one kind that are answered
  module _
      {X : Type 0} (Says : List ℕ → X → Type 0) (text : ℕ → List Command → List X → List ℕ)
      (end : End)
      (answered : AnswersLines source_at sink_at disk_at before after Says text end) (rises : Rises (status_of end))
    where
      lines_first : First Says (status_of end)
      lines_first bytes l r start asked told stood all few first well calm =
          lines_done start (commands_on l r) end
          (lines_came source_at sink_at disk_at before after Says text end answered bytes l r start
          asked told stood.left stood.right stood.is all few (λ is. well (rises.source is)))
          first (λ is. calm.sink (rises.sink is)) (λ is. calm.disk (rises.disk is))

      lines_later : Later Says (status_of end)
      lines_later bytes l r start asked told stood all few later well kept =
          lines_rotated start (commands_on l r) end
          (lines_came source_at sink_at disk_at before after Says text end answered bytes l r
          start asked told stood.left stood.right stood.is all few (λ is. well (rises.source is)))
          later (λ is. kept (rises.disk is))

  abbrev Told : List ℕ → End → Type 0
  Told text end = Tells source_at sink_at disk_at before after [] text end

  -- what was followed of a source that told its bytes
  record Follows (bytes : List ℕ) (end : End) : Type 0 where
    read : List ℕ
    reads : Reads (Some bytes) read (source_at after.source).left
    text : List ℕ
    so : FollowsTo end read (source_at after.source).left text
    told : Told text end

  module _ (status : ℕ) (words : List (List ℕ)) (ends : Ends source_at sink_at disk_at before after status words)
      (asked : Ask words word.Follow) (bytes : List ℕ) (is : (source_at before.source).left ≡ Some bytes) where
    abbrev followed : End
    followed = (ends.ends word.Follow asked).end

    follows : Follows bytes followed
    follows =
        let f = (ends.ends word.Follow asked).leaves.1 in
        record {
          read = f.0;
          reads = subst (λ (o : Option (List ℕ)). Reads o f.0 (source_at after.source).left) is f.1;
          text = f.2.0;
          so = f.2.1;
          told = f.2.2;
        }

    -- no fault of the source stopped it
    well_read : (Rose (source_at before.source).faults (source_at after.source).faults → ⊥) → status_of followed ≢ 3
    well_read well three = well
        ((by_status source_at sink_at disk_at before after status words ends).source_fault
        ((ends.ends word.Follow asked).status_is ∙ three))

    -- it stopped so and told it, unless there was no memory
    follow_halts : (halt : Halt) → (followed ≡ Err halt) ⊎ (followed ≡ Err NoMemory)
        → ((status ≡ status_of (Err halt)) × Told follows.text (Err halt)) ⊎ (status ≡ 7)
    follow_halts halt so =
        subst (λ (n : ℕ). ((n ≡ status_of (Err halt)) × Told follows.text (Err halt)) ⊎ (n ≡ 7))
        (sym (ends.ends word.Follow asked).status_is)
        (stopped_by (Told follows.text) followed (Err halt) follows.told so)

  pub complete :
      ((l r : List ℕ) (s : State) → state_on l r ≡ Ok s → s.generation ≡ 1
      → replay 1 (opening_with s.limit) (commands_on l r) ≡ Ok s)
      → ((front rest : List ℕ) → GoOn (front ++ rest) → GoOn front)
      → (status : ℕ) (words : List (List ℕ)) → Ends source_at sink_at disk_at before after status words
      → IsComplete source_at sink_at disk_at before after status words
  complete leads stays status words ends =
      let each = by_status source_at sink_at disk_at before after status words ends in
      let rises : Rises status = record {
        source = each.source_fault;
        sink = each.sink_fault;
        disk = each.disk_fault;
      } in
      record {
        run = λ asked bytes l r start requests told stood all few well calm.
            let e = ends.ends word.Run asked in
            let ran = found_of source_at sink_at disk_at before after e.end _ _ l r start stood.left stood.right
            stood.is e.leaves.1 l r stood.left stood.right in
            let left = (source_at after.source).left in
            subst IsDone (sym e.status_is)
            (run_done start bytes left requests all few e.end
            (λ is. well (each.source_fault (e.status_is ∙ is))) (λ is. calm.sink (each.sink_fault (e.status_is ∙ is)))
            (λ is. calm.disk (each.disk_fault (e.status_is ∙ is))) ran.requests
            (subst (λ (o : Option (List ℕ)). EndsAfter start e.end o left ran.requests) told ran.why)
            (subst (λ (o : Option (List ℕ)). IfSome o (λ bytes. ReadsTo Spells bytes left ran.requests e.end)) told
            ran.read));
        serve = λ asks bytes l r start asked told stood all few well calm.
            let e = ends.ends word.Serve asks in
            subst IsDone (sym e.status_is)
            (serve_done source_at sink_at disk_at before after e.end e.leaves bytes l r start asked told stood.left
            stood.right
            stood.is all few (λ is. well (each.source_fault (e.status_is ∙ is)))
            (λ is. calm.sink (each.sink_fault (e.status_is ∙ is)))
            (λ is. calm.disk (each.disk_fault (e.status_is ∙ is))));
        staking = λ asks.
            let e = ends.ends word.Staking asks in
            subst (First stakes.Spells) (sym e.status_is)
            (lines_first stakes.Spells staked_text e.end e.leaves (subst Rises e.status_is rises));
        rewards = λ asks.
            let e = ends.ends word.Rewards asks in
            subst (First tags.Spells) (sym e.status_is) (lines_first tags.Spells rewarded_text e.end e.leaves
            (subst Rises e.status_is rises));
        staking_rotated = λ asks.
            let e = ends.ends word.Staking asks in
            subst (Later stakes.Spells) (sym e.status_is)
            (lines_later stakes.Spells staked_text e.end e.leaves (subst Rises e.status_is rises));
        rewards_rotated = λ asks.
            let e = ends.ends word.Rewards asks in
            subst (Later tags.Spells) (sym e.status_is) (lines_later tags.Spells rewarded_text e.end e.leaves
            (subst Rises e.status_is rises));
        state = λ asked l r start stood calm.
            let e = ends.ends word.State asked in
            let told = found_of source_at sink_at disk_at before after e.end _ _ l r start stood.left stood.right
            stood.is e.leaves.1 in
            subst IsDone (sym e.status_is) (state_done (status_of e.end) told.0.1.0
            (λ is. calm.sink (each.sink_fault (e.status_is ∙ is)))
            (λ is. calm.disk (each.disk_fault (e.status_is ∙ is))));
        report = λ asked l r start stood calm.
            let e = ends.ends word.Report asked in
            let told = found_of source_at sink_at disk_at before after e.end _ _ l r start stood.left stood.right
            stood.is e.leaves.1 in
            subst IsDone (sym e.status_is) (state_done (status_of e.end) told.0.1.0
            (λ is. calm.sink (each.sink_fault (e.status_is ∙ is)))
            (λ is. calm.disk (each.disk_fault (e.status_is ∙ is))));
        audit = λ asked l r start stood first within calm.
            let e = ends.ends word.Audit asked in
            let told = found_of source_at sink_at disk_at before after e.end _ _ l r start stood.left stood.right
            stood.is e.leaves.1 in
            subst IsDone (sym e.status_is)
            (audit_done start (commands_on l r) e.end told.0.0 first told.0.1
            (λ number limit. no_limit start.limit (commands_on l r) start number (leads l r start stood.is first) within
            limit)
            (λ is. calm.sink (each.sink_fault (e.status_is ∙ is))) (λ is. calm.disk (each.disk_fault (e.status_is
            ∙ is))));
        rotated = λ asked l r start stood later well.
            let e = ends.ends word.Audit asked in
            let told = found_of source_at sink_at disk_at before after e.end _ _ l r start stood.left stood.right
            stood.is e.leaves.1 in
            subst (λ (n : ℕ). (n ≡ 9) ⊎ (n ≡ 7)) (sym e.status_is)
            (rotated_done start (commands_on l r) e.end told.0.0 later told.0.1
            (λ is. well (each.disk_fault (e.status_is ∙ is))));
        follow = λ asked bytes told few goes well none.
            let e = ends.ends word.Follow asked in
            let f = follows status words ends asked bytes told in
            subst IsDone (sym e.status_is)
            (done_by e.end (whole_so bytes f.read (source_at after.source).left f.reads stays e.end f.text f.so
            (well_read status words ends asked bytes told well) few goes (λ is. none (each.sink_fault (e.status_is
            ∙ is)))));
        damaged_input = λ asked bytes told index fault well.
            let f = follows status words ends asked bytes told in
            follow_halts status words ends asked bytes told (DamagedInput index)
            (damaged_so bytes f.read (source_at after.source).left f.reads stays _ f.text f.so
            (well_read status words ends asked bytes told well) index fault);
        rotated_input = λ asked bytes told generation fault well.
            let f = follows status words ends asked bytes told in
            follow_halts status words ends asked bytes told (Rotated generation)
            (turned_so bytes f.read (source_at after.source).left f.reads stays _ f.text f.so
            (well_read status words ends asked bytes told well) generation fault);
        long_input = λ asked bytes told long goes well.
            let f = follows status words ends asked bytes told in
            follow_halts status words ends asked bytes told (Limit FED_MOST)
            (long_so bytes f.read (source_at after.source).left f.reads stays _ f.text f.so
            (well_read status words ends asked bytes told well) long goes);
        gen = λ seed count asked none.
            let e = ends.ends (word.Gen seed count) asked in
            subst IsDone (sym e.status_is) (load_done (status_of e.end) e.leaves.1
            (λ is. none (each.sink_fault (e.status_is ∙ is))));
      }
