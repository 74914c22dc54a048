-- How each word ends, put together to the clause of the top call.
use Rattle.std.proofs.Common.{◌≡◌, ◌≢◌, ℕ, ◌≤◌, List, [], ◌∷◌, append-nil, Option, Some, None, Ok, Err, Result, refl, sym, subst, ◌∙◌, arith, lit<, inl, inr}
use Rattle.std.specs.Prelude.{◌⊎◌, ◌↔◌, Contains, IfOk, IfSome}
use Rattle.std.proofs.lemmas.List.Elements.{All-nil}
use Rattle.liq_outside.specs.At.{DiskAt, SinkAt, SourceAt}
use Rattle.liq_outside.specs.declared.showing.Showing.{Showing}
use Rattle.liq_outside.specs.Disk.{LeftBetween, LeftNow, Only}
use Rattle.liq_outside.specs.Faults.{Rose}
use Rattle.liq_types.specs.State.{State, opening}
use Rattle.liq_text_lines.specs.Lines.{lines_in}
use Rattle.liq_text.specs.Spelling.{Spells}
use Rattle.liq_text_lines.specs.Reading.{ReadsAtMost}
use Rattle.liq_text_lines.proofs.Bytes.{reads_nothing}
use Rattle.liq_disk_pair.specs.Pair.{commands_on, state_on}
use Rattle.liq_word_line.specs.declared.words.Word.{Word}
use Rattle.liq_word_line.specs.declared.words.Word.TheVariants as word
use Rattle.liq_word_arguments.specs.declared.reading.WordsFault.{WordsFault}
use Rattle.liq_word_arguments.specs.declared.reading.WordsFault.TheVariants as fault
use Rattle.liq_word_line.specs.Words.{Ask}
use Rattle.liq_disk_pair.specs.Past.{NoFault}
use Rattle.liq_disk_pair.specs.Kept.{IsKeptWith}
use Rattle.liq_word_exit.specs.declared.halts.Halt.TheVariants.{BadLine, ReadFault, WriteFault, DiskFault, Damaged, DamagedInput, NoMemory, Limit, Rotated}
use Rattle.liq_word_exit.specs.Causes.{DisksGoOn, HasCauses, LastCause, ReadCause}
use Rattle.liq_word_exit.specs.Disks.{DisksStay, IsFaultOfTelling, LeavesOfRun, OfBoth}
use Rattle.liq_word_exit.specs.Output.{last, usage}
use Rattle.liq_word_exit.specs.Reading.{ReadsTo}
use Rattle.liq_word_exit.specs.Statuses.{End, status_of}
use Rattle.liq_word_exit.specs.Stops.{Adds}
use Rattle.liq_word_exit.proofs.Causes.{six, unread_causes}
use Rattle.liq_word_exit.proofs.Damaged.{untouched_damaged}
use Rattle.liq_word_exit.proofs.Opened.{standing_still, state_formed, untouched}
use Rattle.liq_word_exit.proofs.Passing.{untouched_past}
use Rattle.liq_word_serve.proofs.Stops.{moments_unread}
use Rattle.liq_word_exit.proofs.Shares.{all_shares}
use Rattle.liq_types.specs.declared.requests.Command.{Command}
use Rattle.liq_fees.specs.Lines as stakes
use Rattle.liq_text_staking.specs.Staked.{staked_text}
use Rattle.liq_rewards.specs.Lines as tags
use Rattle.liq_text_rewards.specs.Rewarded.{rewarded_text}
use Rattle.liq_word_state.specs.Audit.{IsAuditOf}
use Rattle.liq_word_state.specs.Report.{reported}
use Rattle.liq_word_state.specs.State.{standing}
use Rattle.liq_word_exit.specs.Answered.{KeepsAnswered}
use Rattle.liq_word_exit.specs.Outside.{Outside}
use Rattle.liq_word_follow.proofs.Beginning.{none_goes_on}
use Rattle.liq_serve.specs.Top.{AnswersLines, Ends, Finds, Leaves, RunsTo, ServesTo, Tells, TellsFound, TellsState, most_taken}
use Rattle.liq_serve.proofs.Found.{Untold, finds_any, finds_by, of_told, of_untold}
use Rattle.liq_serve.proofs.Served.{if_found, neither}
use Rattle.liq_serve.proofs.Telling.{same_go_on}

-- ---- the words ask for one thing

-- the words ask for this, and for nothing else
pub record IsRead (words : List (List ℕ)) (read : Word) : Type 0 where
  pub asks : Ask words read
  pub only : (other : Word) → Ask words other → read ≡ other

-- what is read of the words
pub is_read : (words : List (List ℕ)) (found : Result Word WordsFault) (read : Word) → found ≡ Ok read
    → IfOk found (Ask words) → ((other : Word) → Ask words other → (found ≡ Ok other) ⊎ (found ≡ Err fault.NoMemory))
    → IsRead words read
is_read words found read is asks only =
    record {
      asks = subst (λ (r : Result Word WordsFault). IfOk r (Ask words)) is asks;
      only = λ other asked. by other
          (only other asked);
    } where
      by : (other : Word) → (found ≡ Ok other) ⊎ (found ≡ Err fault.NoMemory) → read ≡ other
      by other (inl same) = cc
      by other (inr none) = absurd cc

-- who takes nothing takes no more than anything
none_taken : (most : ℕ) (before : Option (List ℕ)) → ReadsAtMost most before before
none_taken most before = ([], reads_nothing before, omega arith)

-- no end of a word has the status of words that ask for nothing
not_usage : (end : End) → status_of end ≡ 1 → ⊥
not_usage (Ok done) is = omega (arith, is)
not_usage (Err (BadLine n)) is = omega (arith, is)
not_usage (Err ReadFault) is = omega (arith, is)
not_usage (Err WriteFault) is = omega (arith, is)
not_usage (Err DiskFault) is = omega (arith, is)
not_usage (Err (Damaged side number)) is = omega (arith, six side number, is)
not_usage (Err NoMemory) is = omega (arith, is)
not_usage (Err (Limit number)) is = omega (arith, is)
not_usage (Err (Rotated generation)) is = omega (arith, is)
not_usage (Err (DamagedInput number)) is = omega (arith, is)

module _
    {S K D : Type 0} (source_at : S → SourceAt) (sink_at : K → SinkAt) (disk_at : D → DiskAt)
    (before after : Outside S K D) where
  -- a word that was read, and came to this end
  pub word_ends :
      (words : List (List ℕ)) (read : Word) (end : End) → IsRead words read
      → Leaves source_at sink_at disk_at before after read end → HasCauses source_at sink_at disk_at before after end
      → ReadsAtMost (most_taken read) (source_at before.source).left (source_at after.source).left
      → Ends source_at sink_at disk_at before after (status_of end) words
  word_ends words read end is leaves causes few =
      record {
        understood = (λ e. absurd (not_usage end e), λ none. absurd (none read is.asks));
        usage = λ e. absurd (not_usage end e);
        ends = λ other asked. record {
          end = end;
          status_is = refl;
          causes = causes;
          takes = subst (λ (w : Word). ReadsAtMost (most_taken w) (source_at before.source).left
              (source_at after.source).left) (is.only other asked) few;
          leaves =
              subst (λ (w : Word). Leaves source_at sink_at disk_at before after w end) (is.only other asked) leaves;
        };
      }

  -- a word that reads nothing, and tells of the disks
  pub telling_ends :
      (words : List (List ℕ)) (read : Word) (end : End) → IsRead words read
      → Leaves source_at sink_at disk_at before after read end → after.source ≡ before.source → end ≢ Err ReadFault
      → LastCause end (sink_at before.sink).faults (sink_at after.sink).faults
      → DisksGoOn disk_at before.left before.right end after.left after.right
      → Ends source_at sink_at disk_at before after (status_of end) words
  telling_ends words read end is leaves same no_source sink disks =
      word_ends words read end is leaves
      (record {
        source = subst (λ (s : S). ReadCause end (source_at before.source).faults (source_at s).faults) (sym same)
            (unread_causes end (source_at before.source).faults no_source);
        sink = sink;
        disks = disks;
      })
      (subst (λ (s : S). ReadsAtMost (most_taken read) (source_at before.source).left (source_at s).left) (sym same)
      (none_taken (most_taken read) (source_at before.source).left))

-- ---- words that were not read

-- ---- nothing was answered, and nobody touched the disks

module _ {D : Type 0} (disk_at : D → DiskAt) (left right : D) (l r : List ℕ) (start : State) where
  left_then : (disk : D) (held image : List ℕ) → Only held (LeftNow disk_at disk)
      → LeftBetween disk_at disk (disk_at disk).moment (disk_at disk).moment image → image ≡ held
  left_then disk held image only so =
      only image (subst (λ (k : ℕ). (disk_at disk).left_at k image) (omega (arith, so.1, so.2)) so.3)

  stands_still : (was now : List ℕ) (earlier all : List Showing) → all ≡ earlier
      → KeepsAnswered disk_at l r start [] NoFault left right was earlier left right now all
  stands_still was now earlier all same = record {
    since = [];
    are = same ∙ sym (append-nil earlier);
    begun = inl refl;
    opening = λ only_l only_r kept. record {
      left_time = omega arith;
      right_time = omega arith;
      leaves = λ a b at_a at_b.
          let left_is = left_then left l a only_l at_a in
          let right_is = left_then right r b only_r at_b in
          inl (subst (λ (y : List ℕ). IsKeptWith a y start (commands_on l r)) (sym right_is)
          (subst (λ (x : List ℕ). IsKeptWith x r start (commands_on l r)) (sym left_is)
          (record { kept = kept; commands = refl })));
    };
    each = tt;
    rested = λ first later is. absurd cc;
  }

-- no line was read
no_line : (told : Option (List ℕ)) → IfSome told (λ bytes. ReadsTo Spells bytes told [] (Err NoMemory))
no_line None = tt
no_line (Some bytes) = (lines_in bytes, ([], tt, refl))

module _
    {S K D : Type 0} (source_at : S → SourceAt) (sink_at : K → SinkAt) (disk_at : D → DiskAt)
    (stays : (disk : D) (bytes : List ℕ) → (disk_at disk).seen ≡ Some bytes → LeftNow disk_at disk bytes)
    (before : Outside S K D) (now : K) where
  -- nothing but the sink changes
  abbrev after : Outside S K D
  after = record before { sink = now }

  abbrev EndsWriting : ℕ → List (List ℕ) → Type 0
  EndsWriting status words = Ends source_at sink_at disk_at before after status words

  abbrev Writes : List ℕ → Type 0
  Writes line =
      Adds [] line (Rose (sink_at before.sink).faults (sink_at now).faults) (sink_at before.sink).held
      (sink_at now).held

  serves_nothing : Writes (last NoMemory) → ServesTo source_at sink_at disk_at before after (Err NoMemory)
  serves_nothing written =
      record {
        asked = [];
        history = [];
        few = omega arith;
        fronts = λ k d has. ([], refl);
        sessions = All-nil _;
        reading = Err NoMemory;
        read = λ bytes told. (lines_in bytes, ([], tt, refl));
        fault = NoFault;
        came = inl (refl, refl, refl, (refl, refl, (0, (2, lit< tt, refl))));
        written = written;
        safe = λ at. absurd (neither 7 (λ e. omega (arith, e)) (λ e. omega (arith, e)) at);
        lawful = λ l r told_l told_r. if_found (state_on l r) _ (λ start is. (
          record { replies = refl; indices = λ session. refl },
          all_shares start [] (state_formed l r start is),
        ));
        past = λ l r told_l told_r. if_found (state_on l r) _
            (λ start is. untouched_past disk_at stays before.left before.right l r start _ refl told_l told_r);
        moments = λ l r told_l told_r. if_found (state_on l r) _
            (λ start is. moments_unread disk_at stays before.left before.right l r start);
      }

  lines_nothing : {X : Type 0} (Says : List ℕ → X → Type 0) (text : ℕ → List Command → List X → List ℕ)
      → Writes (last NoMemory)
      → AnswersLines source_at sink_at disk_at before after Says text (Err NoMemory)
  lines_nothing Says text written =
      record {
        asked = [];
        few = omega arith;
        reading = Err NoMemory;
        read = λ bytes told. (lines_in bytes, ([], tt, refl));
        came = inl (refl, (refl, refl, (0, (2, lit< tt, refl))), written);
      }

  -- the disks stay for the state for which they stood, whatever a stop leaves of them
  abbrev Stays : List ℕ → List ℕ → State → Type 0
  Stays l r start =
      DisksStay disk_at (Err NoMemory) l r start before.left before.right
      × LeavesOfRun disk_at before.left before.right (IsFaultOfTelling (Err NoMemory)) l r start []
      before.left before.right

  -- what is found: the state for which the disks stood; or, where not both told their bytes, any, as the opening
  finds_nothing :
      (Q : Type 0) (P : State → List Command → Type 0) → Q → Writes (last NoMemory)
      → ((l r : List ℕ) (start : State) → (disk_at before.left).seen ≡ Some l → (disk_at before.right).seen ≡ Some r
      → state_on l r ≡ Ok start → Stays l r start → P start (commands_on l r))
      → (Untold disk_at before.left before.right → P opening [])
      → Finds source_at sink_at disk_at before after (Err NoMemory) Q P
  finds_nothing Q P q written stood any =
      finds_by source_at sink_at disk_at before after (Err NoMemory) Q P
      (λ l r start told_l told_r is. stood l r start told_l told_r is (
        untouched disk_at before.left before.right l r start told_l told_r is,
        untouched_past disk_at stays before.left before.right l r start _ refl told_l told_r,
      ))
      (λ l r side damage told_l told_r is.
      (q, (written, untouched_damaged disk_at before.left before.right l r side damage told_l told_r is)))
      (λ none. finds_any source_at sink_at disk_at before after (Err NoMemory) Q P (any none) none)

  -- whatever text it was to tell
  tells_nothing :
      (P : State → List Command → List ℕ → Type 0) → Writes (last NoMemory)
      → ((start : State) (commands : List Command) → (text : List ℕ) × P start commands text)
      → TellsFound source_at sink_at disk_at before after (Err NoMemory) P
  tells_nothing P written any =
      finds_nothing (Unit {0})
      (λ start commands. ((text : List ℕ) × P start commands text
      × Tells source_at sink_at disk_at before after [] text (Err NoMemory))
      × OfBoth disk_at before.left before.right (λ l r. Stays l r start))
      tt written
      (λ l r start told_l told_r is stay.
      let one = any start (commands_on l r) in (
        (one.0, one.1, written),
        of_told disk_at before.left before.right (λ a b. Stays a b start) l r told_l told_r stay,
      ))
      (λ none.
      let one = any opening [] in ((one.0, one.1, written), of_untold disk_at before.left before.right none _))

  -- or of a state alone
  state_nothing :
      (text : State → List ℕ) → Writes (last NoMemory)
      → TellsState source_at sink_at disk_at before after text (Err NoMemory)
  state_nothing text written = (
    refl,
    tells_nothing (λ s commands it. Contains (0 ∷ 4 ∷ 5 ∷ 7 ∷ []) (status_of (Err NoMemory)) × (it ≡ text s)) written
        (λ s commands. (text s, ((3, lit< tt, refl), refl))),
  )

  -- whatever the words ask for
  nothing_done : Writes (last NoMemory) → (sink_at now).shown ≡ (sink_at before.sink).shown → (read : Word)
      → Leaves source_at sink_at disk_at before after read (Err NoMemory)
  nothing_done written unshown word.Run = (
    (6, lit< tt, refl),
    finds_nothing _
        (λ start commands. OfBoth disk_at before.left before.right (λ l r.
        RunsTo source_at sink_at disk_at before after (Err NoMemory) l r start))
        refl written
        (λ l r start told_l told_r is stay. of_told disk_at before.left before.right
        (λ a b. RunsTo source_at sink_at disk_at before after (Err NoMemory) a b start) l r told_l told_r
        (record {
          requests = [];
          few = omega arith;
          why = inl (refl, refl);
          read = no_line (source_at before.source).left;
          written = written;
          cut = λ is. absurd cc;
          disks = standing_still disk_at before.left before.right l r (source_at before.source).left
              (source_at before.source).left start refl is stay.0;
          fault = NoFault;
          fault_is = refl;
          past = stay.1;
          answered = λ was earlier held_now all told_was told_earlier told_now told_all.
              let same : all ≡ earlier = cc (told_all, told_earlier, unshown) in
              stands_still disk_at before.left before.right l r start was held_now earlier all same;
          shares = all_shares start [] (state_formed l r start is);
        }))
        (λ none. of_untold disk_at before.left before.right none _),
  )
  nothing_done written unshown word.Serve = serves_nothing written
  nothing_done written unshown word.Staking = lines_nothing stakes.Spells staked_text written
  nothing_done written unshown word.Rewards = lines_nothing tags.Spells rewarded_text written
  nothing_done written unshown word.State = state_nothing standing written
  nothing_done written unshown word.Report = state_nothing reported written
  nothing_done written unshown word.Audit = (
    refl,
    tells_nothing (λ s commands text. IsAuditOf s commands (Err NoMemory) text) written (λ s commands. ([], tt)),
  )
  nothing_done written unshown word.Follow =
      (refl, ([], reads_nothing (source_at before.source).left, ([], (omega arith, inl none_goes_on), written)))
  nothing_done written unshown (word.Gen seed count) = (refl, (2, lit< tt, refl), written)

  -- the sink's count did not fall
  abbrev NoFewer : Type 0
  NoFewer = (sink_at before.sink).faults ≤ (sink_at now).faults

  -- nobody but the sink met a fault
  no_causes : NoFewer → HasCauses source_at sink_at disk_at before after (Err NoMemory)
  no_causes fewer = record {
    source = refl;
    sink = fewer;
    disks = same_go_on disk_at before.left before.right (Err NoMemory) refl;
  }

  -- words that ask for nothing, or that there was no memory to read
  writes_alone :
      (status : ℕ) (words : List (List ℕ)) → NoFewer
      → ((status ≡ 1) ↔ ((word : Word) → Ask words word → ⊥)) → (status ≡ 1 → Writes usage)
      → ((word : Word) → Ask words word
      → (status ≡ 7) × Writes (last NoMemory) × ((sink_at now).shown ≡ (sink_at before.sink).shown))
      → EndsWriting status words
  writes_alone status words fewer understood misused wordless =
      record {
        understood = understood;
        usage = λ one. (refl, misused one);
        ends = λ word asked.
            let none = wordless word asked in
            record {
              end = Err NoMemory;
              status_is = none.0;
              causes = no_causes fewer;
              takes = none_taken (most_taken word) (source_at before.source).left;
              leaves = nothing_done none.1 none.2 word;
            };
      }

  pub unread_ends :
      (words : List (List ℕ)) (why : WordsFault) (status : ℕ) → NoFewer
      → (why ≡ fault.NoMemory → (status ≡ 7) × Writes (last NoMemory))
      → (why ≡ fault.NoMemory → (sink_at now).shown ≡ (sink_at before.sink).shown)
      → (why ≡ fault.Usage → (status ≡ 1) × Writes usage)
      → (let r : Result Word WordsFault = Err why in (r ≡ Err fault.Usage) ↔ ((word : Word) → Ask words word → ⊥))
      → EndsWriting status words
  unread_ends words fault.Usage status fewer memory unshown usage only =
      let ended = usage refl in
      subst (λ (n : ℕ). EndsWriting n words) (sym ended.0)
      (writes_alone 1 words fewer ((λ is. only.0 refl), (λ none. refl)) (λ is. ended.1)
      (λ word asked. absurd (only.0 refl word asked)))
  unread_ends words fault.NoMemory status fewer memory unshown usage only =
      let ended = memory refl in
      subst (λ (n : ℕ). EndsWriting n words) (sym ended.0)
      (writes_alone 7 words fewer
      ((λ is. absurd (omega (arith, is))), (λ none. absurd (cc (only.1 none)))) (λ is. absurd (omega (arith, is)))
      (λ word asked. (refl, ended.1, unshown refl)))
