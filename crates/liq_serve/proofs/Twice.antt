-- Two runs, one after the other.
use Rattle.std.proofs.Common.{◌≡◌, ◌≢◌, ℕ, List, [], ◌∷◌, Option, Some, is_some, Ok, Err, refl, sym, ap, subst, ◌∙◌, inl, inr}
use Rattle.std.specs.Prelude.{◌⊎◌, IfSome, IsSome, fold}
use Rattle.liq_outside.specs.At.{DiskAt, SinkAt, SourceAt}
use Rattle.liq_outside.specs.Disk.{LeftNow, Only}
use Rattle.liq_types.specs.declared.requests.Command.{Command}
use Rattle.liq_types.specs.declared.requests.Request.{Request}
use Rattle.liq_types.specs.declared.requests.Request.TheVariants.{Do}
use Rattle.liq_types.specs.State.{State}
use Rattle.liq_rule_step.specs.Step.{Allowed, after, ruling, run}
use Rattle.liq_rule_step.proofs.AlikeReads.{Alike}
use Rattle.liq_rule_step.proofs.AlikeReplies.{run_alike}
use Rattle.liq_disk_pair.specs.Commands.{kept_behind}
use Rattle.liq_disk_pair.specs.Kept.{IsKept, IsKeptWith}
use Rattle.liq_disk_pair.specs.Pair.{state_on}
use Rattle.liq_disk_pair.specs.Past.{AtCommand, Fault, InOpening, NoFault, held_at_end}
use Rattle.liq_disk_pair.specs.Unfinished.{HoldsUnfinished, IsRecovered}
use Rattle.liq_store.specs.Keeping.{IsAtRest}
use Rattle.liq_store.specs.Leaving.{RestAtEnd}
use Rattle.liq_word_line.specs.declared.words.Word.TheVariants as word
use Rattle.liq_word_line.specs.Words.{Ask}
use Rattle.liq_word_exit.specs.declared.halts.Halt.TheVariants.{BadLine, ReadFault, WriteFault, DiskFault, Damaged, DamagedInput, NoMemory, Limit, Rotated}
use Rattle.liq_word_exit.specs.Disks.{DisksHold, IsFaultOfRun, IsUnread}
use Rattle.liq_word_exit.specs.Requests.{IsNext}
use Rattle.liq_word_exit.proofs.Opened.{kept_again, some_of, state_formed}
use Rattle.liq_word_exit.specs.Outside.{Outside}
use Rattle.liq_word_exit.specs.Statuses.{End}
use Rattle.liq_serve.specs.Top.{Ends, RunsTo}
use Rattle.liq_serve.specs.Twice.{AreBehind, BeginsBehind, FollowOn}
use Rattle.liq_serve.proofs.Found.{found_of}

module _ (told : Option (List ℕ)) (l r : List ℕ) (start : State) (requests : List Request) where
  abbrev here : State
  here = (run start requests).0

  abbrev held : List Command
  held = held_at_end l r start requests

  -- kept for the state after the requests
  kept_here : (end : End) (a b : List ℕ) → IsKeptWith a b here held
      → BeginsBehind told l r start requests end a b
  kept_here end a b kept = ([], tt, kept)

  -- or for it after one command more
  kept_more : (a b : List ℕ) (c : Command) → (IsNext told requests (Do c) × (ruling here c ≡ Allowed))
      ⊎ ((requests ≡ []) × HoldsUnfinished l r start c) → IsKeptWith a b (after here c) (kept_behind held (c ∷ []))
      → BeginsBehind told l r start requests (Err DiskFault) a b
  kept_more a b c why kept = (c ∷ [], (refl, why), kept)

  -- as an opening that failed left them
  recovered : (a b : List ℕ) → requests ≡ [] → IsRecovered l r start a b
      → BeginsBehind told l r start requests (Err DiskFault) a b
  recovered a b none (inl kept) = kept_here (Err DiskFault) a b
      (subst (λ (rs : List Request). IsKeptWith a b (run start rs).0 (held_at_end l r start rs)) (sym none) kept)
  recovered a b none (inr (c, holds, kept)) = kept_more a b c (inr (none, holds))
      (subst (λ (rs : List Request). IsKeptWith a b (after (run start rs).0 c)
      (kept_behind (held_at_end l r start rs) (c ∷ []))) (sym none) kept)

  module _ {D : Type 0} (disk_at : D → DiskAt) (unread : Option (List ℕ)) (left right : D) where
    -- as they are read at the end
    pub read_behind : (end : End) → IsKept l r start
        → DisksHold disk_at end told unread l r start left right requests → (a b : List ℕ)
        → (disk_at left).seen ≡ Some a → (disk_at right).seen ≡ Some b
        → BeginsBehind told l r start requests end a b
    read_behind (Err DiskFault) were holds a b told_a told_b = by (holds a b told_a told_b) where
      by : (IsUnread told unread requests × (IsKept l r start → IsRecovered l r start a b))
          ⊎ (IsKeptWith a b here held ⊎ ((c : Command) × IsNext told requests (Do c) × (ruling here c ≡ Allowed)
          × IsKeptWith a b (after here c) (kept_behind held (c ∷ []))))
          → BeginsBehind told l r start requests (Err DiskFault) a b
      by (inl (none, gives)) = recovered a b none.0 (gives were)
      by (inr (inl kept)) = kept_here (Err DiskFault) a b kept
      by (inr (inr (c, next, allowed, kept))) = kept_more a b c (inl (next, allowed)) kept
    read_behind (Err NoMemory) were holds a b told_a told_b =
        let so = holds a b told_a told_b in
        kept_here (Err NoMemory) a b (record { kept = so.2 (λ none. were); commands = so.1 })
    read_behind (Ok done) were holds a b told_a told_b = kept_here (Ok done) a b (holds a b told_a told_b)
    read_behind (Err (BadLine n)) were holds a b told_a told_b = kept_here (Err (BadLine n)) a b
        (holds a b told_a told_b)
    read_behind (Err ReadFault) were holds a b told_a told_b = kept_here (Err ReadFault) a b (holds a b told_a told_b)
    read_behind (Err WriteFault) were holds a b told_a told_b = kept_here (Err WriteFault) a b (holds a b told_a told_b)
    read_behind (Err (Damaged side number)) were holds a b told_a told_b = kept_here (Err (Damaged side number)) a b
        (holds a b told_a told_b)
    read_behind (Err (Limit number)) were holds a b told_a told_b = kept_here (Err (Limit number)) a b
        (holds a b told_a told_b)
    read_behind (Err (Rotated generation)) were holds a b told_a told_b = kept_here (Err (Rotated generation)) a b
        (holds a b told_a told_b)
    read_behind (Err (DamagedInput number)) were holds a b told_a told_b = kept_here (Err (DamagedInput number)) a b
        (holds a b told_a told_b)

    only_one : (disk : D) (bytes image : List ℕ) → (disk_at disk).seen ≡ Some bytes → IsAtRest disk_at disk
        → LeftNow disk_at disk image → image ≡ bytes
    only_one disk bytes image told rests left =
        subst (λ (o : Option (List ℕ)). IfSome o (λ was. Only was (LeftNow disk_at disk))) told rests image left

    -- a fault is that of a disk
    faulted : (end : End) (fault : Fault)
        → IsFaultOfRun start end told unread requests fault
        → fault ≢ NoFault → end ≡ Err DiskFault
    faulted (Err DiskFault) fault is some = refl
    faulted (Ok done) fault is some = absurd (some is)
    faulted (Err (BadLine n)) fault is some = absurd (some is)
    faulted (Err ReadFault) fault is some = absurd (some is)
    faulted (Err WriteFault) fault is some = absurd (some is)
    faulted (Err (Damaged side number)) fault is some = absurd (some is)
    faulted (Err NoMemory) fault is some = absurd (some is)
    faulted (Err (Limit number)) fault is some = absurd (some is)
    faulted (Err (Rotated generation)) fault is some = absurd (some is)
    faulted (Err (DamagedInput number)) fault is some = absurd (some is)

    next_at : (c : Command) → ((AtCommand c ≡ InOpening) × IsUnread told unread requests)
        ⊎ ((d : Command) × (AtCommand c ≡ AtCommand d) × IsNext told requests (Do d)
        × (ruling here d ≡ Allowed))
        → IsNext told requests (Do c)
    next_at c (inl (is, none)) = absurd cc
    next_at c (inr (d, is, next, allowed)) =
        let same : d ≡ c = cc in
        subst (λ (e : Command). IsNext told requests (Do e)) same next

    -- it is met at the next line's command
    next_of : (end : End) (c : Command)
        → IsFaultOfRun start end told unread requests (AtCommand c) → IsNext told requests (Do c)
    next_of (Err DiskFault) c is = next_at c is
    next_of (Ok done) c is = absurd cc
    next_of (Err (BadLine n)) c is = absurd cc
    next_of (Err ReadFault) c is = absurd cc
    next_of (Err WriteFault) c is = absurd cc
    next_of (Err (Damaged side number)) c is = absurd cc
    next_of (Err NoMemory) c is = absurd cc
    next_of (Err (Limit number)) c is = absurd cc
    next_of (Err (Rotated generation)) c is = absurd cc
    next_of (Err (DamagedInput number)) c is = absurd cc

    -- or as a crash at the end leaves them
    pub left_behind : (end : End) (x y a b : List ℕ) → (disk_at left).seen ≡ Some x
        → (disk_at right).seen ≡ Some y → IsKept l r start
        → DisksHold disk_at end told unread l r start left right requests
        → (fault : Fault) → IsFaultOfRun start end told unread requests fault
        → RestAtEnd disk_at l r start requests fault left right → LeftNow disk_at left a → LeftNow disk_at right b
        → BeginsBehind told l r start requests end a b
    left_behind end x y a b told_x told_y were holds NoFault is rests at_a at_b =
        read_behind end were holds a b (told_x ∙ ap Some (sym (only_one left x a told_x rests.0 at_a)))
        (told_y ∙ ap Some (sym (only_one right y b told_y rests.1 at_b)))
    left_behind end x y a b told_x told_y were holds InOpening is rests at_a at_b =
        let so = rests a b at_a at_b in
        subst (λ (e : End). BeginsBehind told l r start requests e a b)
        (sym (faulted end InOpening is (λ e. cc))) (recovered a b so.0 so.1)
    left_behind end x y a b told_x told_y were holds (AtCommand c) is rests at_a at_b =
        subst (λ (e : End). BeginsBehind told l r start requests e a b)
        (sym (faulted end (AtCommand c) is (λ e. cc))) (by (rests a b at_a at_b)) where
          by : IsKeptWith a b here held
              ⊎ ((ruling here c ≡ Allowed) × IsKeptWith a b (after here c) (kept_behind held (c ∷ [])))
              → BeginsBehind told l r start requests (Err DiskFault) a b
          by (inl kept) = kept_here (Err DiskFault) a b kept
          by (inr (allowed, kept)) = kept_more a b c (inl (next_of end c is, allowed)) kept

-- ---- two calls

module _
    {S K D : Type 0} (source_at : S → SourceAt) (sink_at : K → SinkAt) (disk_at : D → DiskAt)
    (before middle again later : Outside S K D) where
  abbrev RunsFirst : End → List ℕ → List ℕ → State → Type 0
  RunsFirst end l r start = RunsTo source_at sink_at disk_at before middle end l r start

  -- what a run left begins the next one
  pub runs_behind : (end : End) (l r a b : List ℕ) (start : State)
      → (ran : RunsFirst end l r start)
      → IsSome (disk_at middle.left).seen → IsSome (disk_at middle.right).seen
      → IsKept l r start
      → AreBehind source_at sink_at disk_at before middle l r a b → BeginsBehind (source_at before.source).left l r
      start ran.requests end a b
  runs_behind end l r a b start ran left_tells right_tells were (inl (told_a, told_b)) =
      read_behind (source_at before.source).left l r start ran.requests disk_at (source_at middle.source).left
      middle.left middle.right end were ran.disks a b told_a told_b
  runs_behind end l r a b start ran left_tells right_tells were (inr (only_l, only_r, at_a, at_b)) =
      let told = (source_at before.source).left in
      let unread = (source_at middle.source).left in
      let past = ran.past only_l only_r were in
      let x = some_of (disk_at middle.left).seen left_tells in
      let y = some_of (disk_at middle.right).seen right_tells in
      let at = subst (λ (met : Fault). IsFaultOfRun start end told unread ran.requests met)
      (sym past.fault_is) ran.fault_is in
      left_behind told l r start ran.requests disk_at unread middle.left middle.right end x.0 y.0 a b x.1 y.1 were
      ran.disks past.fault at past.rests at_a at_b

  pub follow_on :
      (status second_status : ℕ) (words others : List (List ℕ))
      → Ends source_at sink_at disk_at before middle status words
      → Ends source_at sink_at disk_at again later second_status others
      → Ask words word.Run → Ask others word.Run → (l r a b : List ℕ) (start : State)
      → (disk_at before.left).seen ≡ Some l → (disk_at before.right).seen ≡ Some r → state_on l r ≡ Ok start
      → IsKept l r start
      → (disk_at again.left).seen ≡ Some a → (disk_at again.right).seen ≡ Some b
      → AreBehind source_at sink_at disk_at before middle l r a b
      → FollowOn source_at sink_at disk_at before middle again later status second_status l r a b start
  follow_on status second_status words others one two asked asked_too l r a b start told_l told_r is were told_a
      told_b behind =
      let e = one.ends word.Run asked in
      let ran = found_of source_at sink_at disk_at before middle e.end _ _ l r start told_l told_r is e.leaves.1 l r
      told_l told_r in
      let begins = runs_behind e.end l r a b start ran (e.causes.disks.left_telling.1 (ap is_some told_l))
      (e.causes.disks.right_telling.1 (ap is_some told_r)) were behind in
      let between = fold after (run start ran.requests).0 begins.0 in
      let t = begins.2.kept.stands.state in
      let stands = begins.2.kept.stands.is in
      let same = kept_again a b between t begins.2.kept stands in
      let f = two.ends word.Run asked_too in
      let second = found_of source_at sink_at disk_at again later f.end _ _ a b t told_a told_b stands f.leaves.1 a b
      told_a told_b in
      let reached : Alike between t =
      record {
        image = same.0.image;
        records = same.0.records;
        left = begins.2.kept.stands.formed;
        right = state_formed a b t
            stands;
      } in
      let then = run_alike second.requests reached in
      record {
        end = e.end;
        status_is = e.status_is;
        first = ran;
        more = begins.0;
        are = begins.1;
        state = t;
        is = stands;
        kept = same.1;
        holds = begins.2.commands;
        begins = same.0;
        ending = f.end;
        later_is = f.status_is;
        second = second;
        ends = record { image = then.image; records = then.records };
      }
