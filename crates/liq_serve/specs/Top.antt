-- What the top call leaves, word by word, and which counts rise.
use Rattle.std.specs.Prelude.{ℕ, ◌≡◌, ◌+◌, ◌≤◌, ◌<◌, ◌==◌, ◌⊎◌, ◌↔◌, List, [], ◌∷◌, ◌++◌, length, map, filter}
use Rattle.std.specs.Prelude.{All, Contains, Option, Some, IfSome, Ok, Err, IfOk, IsOkAnd}
use Rattle.liq_outside.specs.At.{DiskAt, SinkAt, SourceAt}
use Rattle.liq_outside.specs.Faults.{Rose}
use Rattle.liq_outside.specs.Showings.{Notes}
use Rattle.liq_types.specs.declared.amounts.TheConstants.{LINES_MOST}
use Rattle.liq_types.specs.declared.requests.Command.{Command}
use Rattle.liq_types.specs.declared.requests.Request.{Request}
use Rattle.liq_types.specs.declared.requests.Request.TheVariants.{Do}
use Rattle.liq_types.specs.State.{State, opening}
use Rattle.liq_rule_step.specs.History.{Entry, IsLegal, own_entries, requests_of, state_after}
use Rattle.liq_rule_step.specs.Step.{Allowed, ruling}
use Rattle.liq_rule_sound.specs.SoundState.{IsSoundState}
use Rattle.liq_text_lines.specs.Reading.{Reads, ReadsAtMost, taken_most}
use Rattle.liq_text_lines.specs.Writing.{Writes}
use Rattle.liq_journal.specs.declared.damage.Damage.{Damage}
use Rattle.liq_disk_pair.specs.declared.side.Side.{Side}
use Rattle.liq_disk_pair.specs.Kept.{IsKeptWith}
use Rattle.liq_disk_pair.specs.Pair.{commands_on, state_on}
use Rattle.liq_disk_pair.specs.Past.{AtCommand, Fault, NoFault, failed_commands, held_at_end}
use Rattle.liq_book.specs.Moments.{HasMoments}
use Rattle.liq_text_scripts.specs.declared.scripts.TheConstants.{SESSIONS}
use Rattle.liq_text_scripts.specs.Asked.{Asks}
use Rattle.liq_text_scripts.specs.Output.{served}
use Rattle.liq_text_scripts.specs.Sessions.{sessions}
use Rattle.liq_sessions.specs.Generated.{generated}
use Rattle.liq_store.specs.Keeping.{IsAtRest, IsKeptAround}
use Rattle.liq_text.specs.Spelling.{Spells}
use Rattle.liq_word_line.specs.declared.words.Word.{Word}
use Rattle.liq_word_line.specs.declared.words.Word.TheVariants as word
use Rattle.liq_word_line.specs.Words.{Ask}
use Rattle.liq_word_exit.specs.declared.halts.Halt.TheVariants.{BadLine, ReadFault, WriteFault, DiskFault, NoMemory, Limit}
use Rattle.liq_word_exit.specs.Answered.{KeepsAnswered, Told}
use Rattle.liq_word_exit.specs.Causes.{HasCauses}
use Rattle.liq_word_exit.specs.Disks.{DisksHold, DisksStay, EndsDamaged, IsFaultOfRun, IsFaultOfTelling}
use Rattle.liq_word_exit.specs.Disks.{LeavesOfRun, LeavesOrShuts, OfBoth}
use Rattle.liq_word_exit.specs.Output.{lines, usage}
use Rattle.liq_word_exit.specs.Reading.{ReadsTo}
use Rattle.liq_word_exit.specs.Statuses.{End, status_of}
use Rattle.liq_word_exit.specs.Stops.{Adds, EndsAfter, HaveTheirShares, TellsBehind}
use Rattle.liq_word_state.specs.Answers.{IsAnswerOf}
use Rattle.liq_word_state.specs.Audit.{IsAuditOf}
use Rattle.liq_fees.specs.Lines as stakes
use Rattle.liq_text_staking.specs.Staked.{staked_text}
use Rattle.liq_rewards.specs.Lines as tags
use Rattle.liq_text_rewards.specs.Rewarded.{rewarded_text}
use Rattle.liq_word_state.specs.Report.{reported}
use Rattle.liq_word_state.specs.State.{standing}
use Rattle.liq_word_gen.specs.Load.{load, summary}
use Rattle.liq_word_follow.specs.declared.feeding.TheConstants.{FED_MOST}
use Rattle.liq_word_follow.specs.Followed.{FollowsTo}
use Rattle.liq_word_exit.specs.Outside.{Outside}

-- the first requests of the session are answered in the history, in order, and these are left
abbrev pub AreLeft : List (ℕ × Request) → List Entry → ℕ → List Request → Type 0
AreLeft asked history session left =
    map (λ (a : ℕ × Request). a.1) (filter (λ (a : ℕ × Request). a.0 == session) asked)
    ≡ requests_of (own_entries session history) ++ left

-- The most bytes that a word takes of the source: those that are followed, and one more; or the
-- lines that one run answers, each with its line end, and what one read asks for.
abbrev pub most_taken : Word → ℕ
most_taken word.Follow = FED_MOST + 1
most_taken _ = taken_most LINES_MOST

-- The functions say what is told of a source, of a sink and of a disk.
module _ {S K D : Type 0} (source_at : S → SourceAt) (sink_at : K → SinkAt) (disk_at : D → DiskAt)
    (before after : Outside S K D) where
  -- what the source told, and what it still tells
  abbrev pub told : Option (List ℕ)
  told = (source_at before.source).left

  abbrev pub unread : Option (List ℕ)
  unread = (source_at after.source).left

  -- The text was written, as far as the end says. Where the word stopped, this was said of it, and
  -- then the last line.
  abbrev pub Tells : List ℕ → List ℕ → End → Type 0
  Tells said text end = TellsBehind said text end (Rose (sink_at before.sink).faults
      (sink_at after.sink).faults) (sink_at before.sink).held (sink_at after.sink).held

  -- where both disks told their bytes, this holds of them
  abbrev pub OfTold : (List ℕ → List ℕ → Type 0) → Type 0
  OfTold P = OfBoth disk_at before.left before.right P

  -- What a word finds on the disks: a state that is sound, and commands, of which P holds. Or one
  -- has a first damage; then Q holds, and a last line alone is written. Disks that told their bytes
  -- stood for just that state, by just these commands, or had just that damage.
  abbrev pub Finds : End → Type 0 → (State → List Command → Type 0) → Type 0
  Finds end Q P = ((start : State) × (commands : List Command) × IsSoundState start
      × P start commands × OfTold (λ l r. (state_on l r ≡ Ok start) × (commands_on l r ≡ commands)))
      ⊎ ((side : Side) × (damage : Damage) × Q × Tells [] [] end
      × EndsDamaged disk_at side damage end after.left after.right
      × OfTold (λ l r. (state_on l r ≡ Err (side, damage))
      × LeavesOrShuts disk_at before.left before.right l r end after.left after.right))

  -- Of what it finds it tells a text of which P holds, and the disks stay so.
  abbrev pub TellsFound : End → (State → List Command → List ℕ → Type 0) → Type 0
  TellsFound end P = Finds end (Unit {0}) (λ start commands.
      ((text : List ℕ) × P start commands text × Tells [] text end)
      × OfTold (λ l r. DisksStay disk_at end l r start after.left after.right
      × LeavesOfRun disk_at before.left before.right (IsFaultOfTelling end) l r start []
      after.left after.right))

  -- nothing is read, and this text of the state is told
  abbrev pub TellsState : (State → List ℕ) → End → Type 0
  TellsState text end = (after.source ≡ before.source) × TellsFound end
      (λ start commands it. Contains (0 ∷ 4 ∷ 5 ∷ 7 ∷ []) (status_of end) × (it ≡ text start))

  -- reading stopped, so that no disk was opened
  abbrev pub StopsUnopened : End → Type 0
  StopsUnopened end = (after.left ≡ before.left) × (after.right ≡ before.right) × ((n : ℕ)
      × Contains (Err (BadLine n) ∷ Err ReadFault ∷ Err NoMemory ∷ Err (Limit LINES_MOST) ∷ []) end)

  -- ---- `run`

  -- Lines of the source were answered from this state on, with l and r on the disks, as far as the
  -- end says: whatever the source tells.
  pub record RunsTo (end : End) (l r : List ℕ) (start : State) : Type 0 where
    pub requests : List Request
    -- they are no more than one run answers
    pub few : length requests ≤ LINES_MOST
    pub why : EndsAfter start end told unread requests
    -- where the source told its bytes
    pub read : IfSome told (λ bytes. ReadsTo Spells bytes unread requests end)
    -- all replies, and the last line where it stopped
    pub written : Tells (lines start requests) (lines start requests) end
    -- where the sink met a fault at a reply, that is the last one
    pub cut : end ≡ Err WriteFault → (earlier : List Request) × (final : Request)
        × (requests ≡ earlier ++ final ∷ []) × ((part : List ℕ)
        × Writes (sink_at before.sink).held (lines start earlier ++ part) (sink_at after.sink).held)
    pub disks : DisksHold disk_at end told unread l r start after.left after.right requests
    -- where a disk met a fault
    pub fault : Fault
    pub fault_is : IsFaultOfRun start end told unread requests fault
    -- all that a crash at some moment may have left of the disks
    pub past : LeavesOfRun disk_at before.left before.right (λ met. met ≡ fault) l r start requests
        after.left after.right
    -- and at every moment they have all that was answered by then
    pub answered : Told (sink_at before.sink).held (sink_at before.sink).shown
        (sink_at after.sink).held (sink_at after.sink).shown (λ was earlier now all. KeepsAnswered
        disk_at l r start requests fault before.left before.right was earlier after.left after.right
        now all)
    -- no depositor has more than its share then, or less by more than is allowed
    pub shares : HaveTheirShares start requests

  -- ---- `serve`

  -- the disks stood for a state, and this holds of what they hold then, of the state after the
  -- history, and of the commands with those that the history has more
  abbrev pub Keep : List Entry → (List ℕ → List ℕ → State → List Command → Type 0) → Type 0
  Keep history P = OfTold (λ l r. IsOkAnd (state_on l r) (λ start.
      OfBoth disk_at after.left after.right (λ a b. P a b (state_after start history)
      (held_at_end l r start (requests_of history)))))

  -- No store was opened: for a disk's fault, the disks' damage or want of memory.
  abbrev pub OpensNone : List Entry → Fault → End → Type 0
  OpensNone history fault end = (history ≡ []) × IsFaultOfTelling end fault × Finds end (Unit {0})
      (λ start commands. Contains (5 ∷ 7 ∷ []) (status_of end)
      × OfTold (λ l r. DisksStay disk_at end l r start after.left after.right))

  -- What was answered once a store was open, whose disks are not damaged, and what they hold then.
  abbrev pub Answers : List (ℕ × Request) → List Entry → Fault → End → Type 0
  -- A call met the fault. Its command is the next request of its session, and is accepted after the
  -- history: they are kept for the state then, or for the one after this command, with the
  -- commands that were accepted by then.
  Answers asked history fault (Err DiskFault) =
      (session : ℕ) × (c : Command) × (fault ≡ AtCommand c) × (1 ≤ session) × (session ≤ SESSIONS)
      × ((later : List Request) × AreLeft asked history session (Do c ∷ later))
      × Keep history (λ a b s held. (ruling s c ≡ Allowed) × IsKeptAround s held (Do c) a b)
  -- nothing; or not all of some session, and the book had room for it
  Answers asked history fault (Err NoMemory) = (fault ≡ NoFault) × Keep history IsKeptWith
      × ((history ≡ []) ⊎ ((length history < LINES_MOST)
      × ((session : ℕ) × Contains sessions session × (AreLeft asked history session [] → ⊥))))
  -- all, session by session, and they are kept for the state after the history
  Answers asked history fault end = (fault ≡ NoFault) × Keep history IsKeptWith
      × Contains (0 ∷ 4 ∷ []) (status_of end)
      × All (λ session. AreLeft asked history session []) sessions

  -- Along one history a part of what the lines asked was answered, and it was written, as far as
  -- the end says.
  pub record ServesTo (end : End) : Type 0 where
    pub asked : List (ℕ × Request)
    pub history : List Entry
    pub few : length asked ≤ LINES_MOST
    -- of each session the first requests, in order
    pub fronts : All (λ n. (rest : List Request) × AreLeft asked history n rest) sessions
    pub sessions : All (λ (e : Entry). (1 ≤ e.session) × (e.session ≤ SESSIONS)) history
    -- how reading ended
    pub reading : End
    pub read : (bytes : List ℕ) → told ≡ Some bytes → ReadsTo Asks bytes unread asked reading
    -- where a disk met a fault: in the opening, or at the call that `came` tells
    pub fault : Fault
    -- It stopped, nothing was opened, and the disks are as they were. Or all lines ask this.
    pub came : ((reading ≡ end) × (history ≡ []) × (fault ≡ NoFault) × StopsUnopened end)
        ⊎ ((reading ≡ Ok tt) × (OpensNone history fault end ⊎ Answers asked history fault end))
    pub written : Tells [] (served history) end
    -- Where all was answered nothing is pending on either disk, and the sink was shown both once,
    -- as they are left, before a byte went out.
    pub safe : Contains (0 ∷ 4 ∷ []) (status_of end)
        → IsAtRest disk_at after.left × IsAtRest disk_at after.right
        × Notes disk_at (sink_at before.sink).held after.left after.right
        (sink_at before.sink).shown (sink_at after.sink).shown
    -- its replies are those of the rules from where the disks stood, and after it no depositor has
    -- more than its share, or less by more than is allowed
    pub lawful : OfTold (λ l r. IfOk (state_on l r) (λ start.
        IsLegal start history × HaveTheirShares start (requests_of history)))
    -- all that a crash at some moment may have left of the disks is of one run of these requests
    pub past : OfTold (λ l r. IfOk (state_on l r) (λ start. LeavesOfRun disk_at before.left
        before.right (λ met. met ≡ fault) l r start (requests_of history) after.left after.right))
    -- and call by call: from the end of the opening on there is a moment of both disks behind each
    -- request, and what a crash between two may have left is kept for the state before the request
    -- there or after it. So it has all that was answered before that call.
    pub moments : OfTold (λ l r. IfOk (state_on l r) (λ start. HasMoments disk_at before.left
        before.right l r start (requests_of history ++ map Do (failed_commands fault))
        after.left after.right))

  -- ---- `staking` and `rewards`

  -- The whole input is read first: each line says something of one kind, in order, or reading
  -- stops. Then this text answers them, beside the commands from the opening under a limit on.
  pub record AnswersLines {X : Type 0} (Says : List ℕ → X → Type 0)
      (text : ℕ → List Command → List X → List ℕ) (end : End) : Type 0 where
    pub asked : List X
    -- they are no more than one run answers
    pub few : length asked ≤ LINES_MOST
    -- how reading ended
    pub reading : End
    pub read : (bytes : List ℕ) → told ≡ Some bytes → ReadsTo Says bytes unread asked reading
    pub came : ((reading ≡ end) × StopsUnopened end × Tells [] [] end) ⊎ ((reading ≡ Ok tt)
        × TellsFound end (λ start commands it. IsAnswerOf start commands end
        × (it ≡ text start.limit commands asked)))

  -- ---- each word

  -- what a word leaves that came to this end
  abbrev pub Leaves : Word → End → Type 0
  -- What the end says of what came in, what went out, and what the disks hold. Over damaged disks
  -- nothing is read.
  Leaves word.Run end = Contains (0 ∷ 2 ∷ 3 ∷ 4 ∷ 5 ∷ 6 ∷ 7 ∷ 8 ∷ []) (status_of end)
      × Finds end (after.source ≡ before.source) (λ start all. OfTold (λ l r. RunsTo end l r start))
  -- each session's lines are answered in order, all sessions' at once, along one history
  Leaves word.Serve end = ServesTo end
  -- stakers are answered beside the commands that lead to the state, and the disks stay so
  Leaves word.Staking end = AnswersLines stakes.Spells staked_text end
  -- so are those who name front ends
  Leaves word.Rewards end = AnswersLines tags.Spells rewarded_text end
  -- it is told what stands
  Leaves word.State end = TellsState standing end
  -- each trove and deposit is told as it stands
  Leaves word.Report end = TellsState reported end
  -- Nothing is read, and the review is told of the commands that lead to the state. At 0 each row
  -- of the review encloses the exact share of its account, and what the protocol gives it in that
  -- state is within the row. Where the state is of a generation above the first, the last line
  -- tells this generation, and nothing else is told.
  Leaves word.Audit end = (after.source ≡ before.source) × TellsFound end
      (λ start commands text. IsAuditOf start commands end text)
  -- The disks are not asked. The bytes that come in are followed, and at their end the state is
  -- told to which they lead.
  Leaves word.Follow end = (after ≡ record before { source = after.source; sink = after.sink })
      × ((read : List ℕ) × Reads told read unread
      × ((text : List ℕ) × FollowsTo end read unread text × Tells [] text end))
  -- nothing but the sink changes, and the seed's load is told by the rules' steps along its
  -- requests from the opening
  Leaves (word.Gen seed count) end =
      (after ≡ record before { sink = after.sink }) × Contains (0 ∷ 4 ∷ 7 ∷ []) (status_of end)
      × Tells [] (summary (load opening (generated seed count))) end

  -- How this word ended: its status, whose count of faults rose for it, and what it leaves.
  pub record EndsAs (one : Word) (status : ℕ) : Type 0 where
    pub end : End
    pub status_is : status ≡ status_of end
    pub causes : HasCauses source_at sink_at disk_at before after end
    pub takes : ReadsAtMost (most_taken one) told unread
    pub leaves : Leaves one end

  -- the clause of the top call, for each list of words
  pub record Ends (status : ℕ) (words : List (List ℕ)) : Type 0 where
    pub understood : (status ≡ 1) ↔ ((word : Word) → Ask words word → ⊥)
    pub usage : status ≡ 1 → (after ≡ record before { sink = after.sink })
        × Adds [] usage (Rose (sink_at before.sink).faults (sink_at after.sink).faults)
        (sink_at before.sink).held (sink_at after.sink).held
    pub ends : (one : Word) → Ask words one → EndsAs one status
