-- Serving an input, as an end of the program.
use Rattle.std.proofs.Common.{◌≡◌, ◌≢◌, ◌<◌, ℕ, zero, suc, List, [], ◌∷◌, map, length, append-nil, true, Option, Some, None, Ok, Err, Result, refl, sym, subst, ap, ◌∙◌, inl, inr, lit<, arith}
use Rattle.std.specs.Prelude.{◌⊎◌, All, Contains, slice_index_or, IfOk, IsOkAnd}
use Rattle.std.specs.List.{AllZip}
use Rattle.liq_outside.specs.At.{DiskAt, SinkAt, SourceAt}
use Rattle.liq_outside.specs.declared.showing.Showing.{Showing}
use Rattle.liq_outside.specs.Showings.{Notes}
use Rattle.liq_outside.proofs.Moments.{weaker}
use Rattle.liq_types.specs.declared.amounts.TheConstants.{LINES_MOST}
use Rattle.liq_types.specs.State.{State}
use Rattle.liq_types.specs.declared.requests.Command.{Command}
use Rattle.liq_types.specs.declared.requests.Request.{Request}
use Rattle.liq_types.specs.declared.requests.Request.TheVariants.{Do}
use Rattle.liq_rule_step.specs.History.{Entry, state_after}
use Rattle.liq_rule_step.specs.History as histories
use Rattle.liq_rule_step.specs.Step as rule
use Rattle.liq_rule_step.specs.Step.{Allowed, Ruling, after_ruling, ruling}
use Rattle.liq_journal.specs.declared.damage.Damage.{Damage}
use Rattle.liq_journal.specs.Opened.{OpenLeaves}
use Rattle.liq_disk_pair.specs.declared.side.Side.{Side}
use Rattle.liq_disk_pair.specs.Commands.{kept_behind}
use Rattle.liq_disk_pair.specs.Kept.{IsKept, IsKeptWith}
use Rattle.liq_disk_pair.specs.Pair.{state_on}
use Rattle.liq_disk_pair.specs.Past.{AtCommand, Fault, InOpening, NoFault, held_at_end}
use Rattle.liq_disk_pair.specs.Unfinished.{LeftLeaves}
use Rattle.liq_text_lines.specs.declared.stops.Stop.{Stop}
use Rattle.liq_text_lines.specs.declared.stops.Stop.TheVariants as stop
use Rattle.liq_text_lines.specs.Lines.{lines_in}
use Rattle.liq_text_lines.specs.Saying.{StopsAfter}
use Rattle.liq_text_scripts.specs.Gathering as scripts
use Rattle.liq_text_scripts.specs.Output.{served}
use Rattle.liq_text_scripts.specs.Asked.{Asks}
use Rattle.liq_text_scripts.specs.BySession.{script_of, scripts_of}
use Rattle.liq_text_scripts.specs.Sessions.{sessions}
use Rattle.liq_sessions.specs.declared.script.Script.{Script}
use Rattle.liq_word_serve.specs.Answered.{AreServedWhole, IsServedWhole, LacksMemory, answered_of}
use Rattle.liq_word_serve.specs.declared.input.Finish.{Finish}
use Rattle.liq_word_serve.specs.declared.input.Finish.TheVariants as finish
use Rattle.liq_word_serve.specs.Input as serving
use Rattle.liq_word_serve.specs.Input.{AnswersInput, AreAtRest, IsShown, Written, reading_of}
use Rattle.liq_store.specs.declared.answers.StoreWhy.{StoreWhy}
use Rattle.liq_store.specs.declared.answers.StoreWhy.TheVariants as why
use Rattle.liq_store.specs.Causes.{Faults}
use Rattle.liq_store.specs.Keeping.{IsAtRest, IsKeptAround}
use Rattle.liq_store.proofs.Appending.{behind_newly}
use Rattle.liq_word_exit.specs.declared.halts.Halt.TheVariants.{BadLine, ReadFault, WriteFault, DiskFault, Damaged, NoMemory, Limit}
use Rattle.liq_word_exit.specs.Causes.{DiskCause, ReadCause, WriteCause}
use Rattle.liq_word_exit.specs.Disks.{DisksStay, EndsDamaged, IsFaultOfTelling, OfBoth}
use Rattle.liq_word_exit.specs.Reading.{ReadsTo}
use Rattle.liq_word_exit.specs.Statuses.{End, status_of}
use Rattle.liq_word_exit.specs.Unsaid.{WritesAll}
use Rattle.liq_word_exit.proofs.Causes.{six}
use Rattle.liq_word_exit.proofs.Damaged.{left_opened}
use Rattle.liq_serve.specs.Finishing.{end_of, halt_at}
use Rattle.liq_word_exit.specs.Outside.{Outside}
use Rattle.liq_serve.specs.Top.{Answers, AreLeft, Finds, Keep, OpensNone, StopsUnopened, Tells}
use Rattle.liq_serve.proofs.Found.{Untold, finds_any, finds_by, of_told, of_untold}

-- ---- the counts

-- of the source, of the sink and of the disks
pub causes_kept :
    (how : Finish) (source source_now sink sink_now : ℕ) (disks disks_now : Faults)
    → scripts.ReadCause (reading_of how) source source_now → serving.WriteCause how sink sink_now
    → serving.DiskCause how disks disks_now
    → ReadCause (end_of how) source source_now × WriteCause (end_of how) sink sink_now
    × DiskCause (end_of how) disks disks_now
causes_kept finish.All _ _ _ _ _ _ s k d = (s, k, d)
causes_kept (finish.NotRead (stop.BadLine number)) _ _ _ _ _ _ s k d = (s, k, d)
causes_kept (finish.NotRead stop.ReadFault) _ _ _ _ _ _ s k d = (s, k, d)
causes_kept (finish.NotRead stop.NoMemory) _ _ _ _ _ _ s k d = (s, k, d)
causes_kept (finish.NotRead stop.Limit) _ _ _ _ _ _ s k d = (s, k, d)
causes_kept (finish.NotOpened why.DiskFault) _ _ _ _ _ _ s k d = (s, k, d)
causes_kept (finish.NotOpened (why.Damaged side damage)) _ _ _ _ _ _ s k d = (s, k, d)
causes_kept (finish.NotOpened why.NoMemory) _ _ _ _ _ _ s k d = (s, k, d)
causes_kept finish.NoMemory _ _ _ _ _ _ s k d = (s, k, d)
causes_kept finish.DiskFault _ _ _ _ _ _ s k d = (s, k, d)
causes_kept finish.WriteFault _ _ _ _ _ _ s k d = (s, k, d)

-- ---- what is written

held_still : {K : Type 0} (sink_at : K → SinkAt) (before now : K) → now ≡ before
    → (sink_at now).held ≡ (sink_at before).held
held_still {K} sink_at before now same = ap (λ (k : K). (sink_at k).held) same

-- before the last line
pub all_served : {K : Type 0} (sink_at : K → SinkAt) (history : List Entry) (before now : K) (how : Finish)
    → Written sink_at how history before now
    → WritesAll (served history) (end_of how) (sink_at before).held (sink_at now).held
all_served sink_at history before now finish.All wrote = wrote
all_served sink_at history before now finish.WriteFault wrote = wrote
all_served sink_at history before now (finish.NotRead (stop.BadLine number)) wrote = held_still sink_at before now wrote
all_served sink_at history before now (finish.NotRead stop.ReadFault) wrote = held_still sink_at before now wrote
all_served sink_at history before now (finish.NotRead stop.NoMemory) wrote = held_still sink_at before now wrote
all_served sink_at history before now (finish.NotRead stop.Limit) wrote = held_still sink_at before now wrote
all_served sink_at history before now (finish.NotOpened why.DiskFault) wrote = held_still sink_at before now wrote
all_served sink_at history before now (finish.NotOpened (why.Damaged side damage)) wrote = held_still sink_at before now
    wrote
all_served sink_at history before now (finish.NotOpened why.NoMemory) wrote = held_still sink_at before now wrote
all_served sink_at history before now finish.NoMemory wrote = held_still sink_at before now wrote
all_served sink_at history before now finish.DiskFault wrote = held_still sink_at before now wrote

-- ---- what the finish says

found_in : {X Y : Type 0} (f : X → Y) (xs : List X) (k : ℕ) (y : Y) → k < length (map f xs)
    → slice_index_or (map f xs) k y ≡ y → (x : X) × Contains xs x × (y ≡ f x)
found_in f [] k y within is = absurd (omega arith)
found_in f (x ∷ xs) zero y within is = (x, (0, omega arith, refl), sym is)
found_in f (x ∷ xs) (suc k) y within is =
    let later = found_in f xs k y (omega arith) is in
    (later.0, (suc later.1.0, omega (arith, later.1.1), later.1.2), later.2)

-- a script that lacks replies is that of a session
lacking : (asked : List (ℕ × Request)) (history : List Entry) → LacksMemory (scripts_of asked) history
    → (history ≡ []) ⊎ ((length history < LINES_MOST)
    × ((session : ℕ) × Contains sessions session × (AreLeft asked history session [] → ⊥)))
lacking asked history (inl none) = inl none
lacking asked history (inr some) =
    let script = some.1.0 in
    let there = some.1.1 in
    let of_one = found_in (script_of asked) sessions there.0 script there.1 there.2 in
    let lacks = subst (λ (s : Script). IsServedWhole history s → ⊥) of_one.2 some.1.2 in
    inr (some.0, (of_one.0, of_one.1, λ none. lacks (none ∙ append-nil (answered_of of_one.0 history))))

-- nothing is left of what is answered whole
none_left : (asked : List (ℕ × Request)) (history : List Entry) → AreServedWhole asked history
    → All (λ session. AreLeft asked history session []) sessions
none_left asked history whole = λ k d there. whole k d there ∙ sym (append-nil _)

-- ---- disks that stood for a state, or were damaged

-- what is found, by cases
pub if_found : {T E : Type 0} (found : Result T E) (P : T → Type 0) → ((x : T) → found ≡ Ok x → P x) → IfOk found P
if_found (Ok x) P good = good x refl
if_found (Err e) P good = tt

is_found : {T A B : Type 0} (found : Result T (A × B)) (P : T → Type 0) → ((x : T) → found ≡ Ok x → P x)
    → ((a : A) (b : B) → found ≡ Err (a, b) → ⊥) → IsOkAnd found P
is_found (Ok x) P good bad = good x refl
is_found (Err (a, b)) P good bad = absurd (bad a b refl)

-- ---- what was read

-- of a word whose reading stopped
pub read_so : {X : Type 0} (Says : List ℕ → X → Type 0) (why_not : Stop) (bytes : List ℕ) (left : Option (List ℕ))
    (said : List X) → StopsAfter Says why_not bytes left said → ReadsTo Says bytes left said (Err (halt_at why_not))
read_so Says (stop.BadLine number) bytes left said h = h
read_so Says stop.ReadFault bytes left said h = h
read_so Says stop.NoMemory bytes left said h = h
read_so Says stop.Limit bytes left said h = (refl, h)

-- so it ends
abbrev pub IsStopping : End → Type 0
IsStopping end = (n : ℕ) × Contains (Err (BadLine n) ∷ Err ReadFault ∷ Err NoMemory ∷ Err (Limit LINES_MOST) ∷ []) end

pub stopping : (why_not : Stop) → IsStopping (Err (halt_at why_not))
stopping (stop.BadLine number) = (number, (0, lit< tt, refl))
stopping stop.ReadFault = (0, (1, lit< tt, refl))
stopping stop.NoMemory = (0, (2, lit< tt, refl))
stopping stop.Limit = (0, (3, lit< tt, refl))

-- ---- where all was answered

pub neither : (n : ℕ) → n ≢ 0 → n ≢ 4 → Contains (0 ∷ 4 ∷ []) n → ⊥
neither n some other (zero, within, is) = some (sym is)
neither n some other (suc zero, within, is) = other (sym is)
neither n some other (suc (suc k), within, is) = omega (arith, within)

-- it is so at 0 and 4
all_answered : (how : Finish) → Contains (0 ∷ 4 ∷ []) (status_of (end_of how)) → (how ≡ finish.All)
    ⊎ (how ≡ finish.WriteFault)
all_answered finish.All at = inl refl
all_answered finish.WriteFault at = inr refl
all_answered finish.NoMemory at = absurd (neither 7 (λ e. omega (arith, e)) (λ e. omega (arith, e)) at)
all_answered finish.DiskFault at = absurd (neither 5 (λ e. omega (arith, e)) (λ e. omega (arith, e)) at)
all_answered (finish.NotRead (stop.BadLine number)) at =
    absurd (neither 2 (λ e. omega (arith, e)) (λ e. omega (arith, e)) at)
all_answered (finish.NotRead stop.ReadFault) at = absurd (neither 3 (λ e. omega (arith, e)) (λ e. omega (arith, e)) at)
all_answered (finish.NotRead stop.NoMemory) at = absurd (neither 7 (λ e. omega (arith, e)) (λ e. omega (arith, e)) at)
all_answered (finish.NotRead stop.Limit) at = absurd (neither 8 (λ e. omega (arith, e)) (λ e. omega (arith, e)) at)
all_answered (finish.NotOpened why.DiskFault) at = absurd (neither 5 (λ e. omega (arith, e)) (λ e. omega (arith, e)) at)
all_answered (finish.NotOpened why.NoMemory) at = absurd (neither 7 (λ e. omega (arith, e)) (λ e. omega (arith, e)) at)
all_answered (finish.NotOpened (why.Damaged side damage)) at =
    let known = six side damage.index in
    absurd (neither (status_of (Err (Damaged side damage.index))) (λ e. omega (arith, known, e))
    (λ e. omega (arith, known, e)) at)

-- what holds of both finishes of that kind
of_answered : (P : Finish → Type 0) {Q : Type 0} → (P finish.All → Q) → (P finish.WriteFault → Q) → (how : Finish)
    → P how → Contains (0 ∷ 4 ∷ []) (status_of (end_of how)) → Q
of_answered P {Q} all cut how so status = by (all_answered how status) where
  by : (how ≡ finish.All) ⊎ (how ≡ finish.WriteFault) → Q
  by (inl is) = all (subst P is so)
  by (inr is) = cut (subst P is so)

module _
    {K D : Type 0} (disk_at : D → DiskAt) (sink_at : K → SinkAt) (left right : D) (before middle after : K)
    (stays : (sink_at after).shown ≡ (sink_at middle).shown) where
  abbrev WasShown : Type 0
  WasShown = Notes disk_at (sink_at before).held left right (sink_at before).shown (sink_at after).shown

  since : Notes disk_at (sink_at before).held left right (sink_at before).shown (sink_at middle).shown → WasShown
  since notes =
      subst (λ (now : Option (List Showing)). Notes disk_at (sink_at before).held left right (sink_at before).shown now)
      (sym stays) notes

  -- what the sink was shown
  pub safe_by : (how : Finish) → IsShown disk_at sink_at left right before middle how
      → Contains (0 ∷ 4 ∷ []) (status_of (end_of how)) → WasShown
  safe_by how is status = of_answered (IsShown disk_at sink_at left right before middle) since since how is status

-- nothing is pending
pub rests_by : {D : Type 0} (disk_at : D → DiskAt) (left right : D) (how : Finish) → AreAtRest disk_at left right how
    → Contains (0 ∷ 4 ∷ []) (status_of (end_of how)) → IsAtRest disk_at left × IsAtRest disk_at right
rests_by disk_at left right how rest status =
    of_answered (AreAtRest disk_at left right) (λ both. both) (λ both. both) how rest status

-- ---- how it came to its end

-- what is kept for the state after a command that was accepted is kept for the one after its request
kept_around : (s : State) (held : List Command) (c : Command) (a b : List ℕ) → ruling s c ≡ Allowed
    → IsKeptWith a b s held ⊎ IsKeptWith a b (rule.after s c) (kept_behind held (c ∷ []))
    → IsKeptAround s held (Do c) a b
kept_around s held c a b allowed (inl kept) = inl kept
kept_around s held c a b allowed (inr kept) = inr (record {
  kept = subst (λ (q : Ruling). IsKept a b (after_ruling s c q).0) (sym allowed) kept.kept;
  commands = kept.commands ∙ sym (behind_newly held s c allowed);
})

module _
    {S K D : Type 0} (source_at : S → SourceAt) (sink_at : K → SinkAt) (disk_at : D → DiskAt)
    (before after : Outside S K D) (asked : List (ℕ × Request)) (history : List Entry) where
  abbrev AreWhole : Type 0
  AreWhole = (l r : List ℕ) (side : Side) (damage : Damage) → (disk_at before.left).seen ≡ Some l
      → (disk_at before.right).seen ≡ Some r → state_on l r ≡ Err (side, damage) → ⊥

  abbrev Unopened : Fault → End → Type 0
  Unopened fault end = OpensNone source_at sink_at disk_at before after history fault end

  abbrev Answered : Fault → End → Type 0
  Answered fault end = Answers source_at sink_at disk_at before after asked history fault end

  -- disks that are not damaged stood for a state
  kept :
      (P : List ℕ → List ℕ → State → List Command → Type 0)
      → ((l r : List ℕ) (start : State) → (disk_at before.left).seen ≡ Some l → (disk_at before.right).seen ≡ Some r
      → state_on l r ≡ Ok start → OfBoth disk_at after.left after.right (λ a b.
      P a b (state_after start history) (held_at_end l r start (histories.requests_of history))))
      → AreWhole → Keep source_at sink_at disk_at before after history P
  kept P disks whole = λ l r told_l told_r. is_found (state_on l r) _ (λ start is. disks l r start told_l told_r is)
      (λ side damage is. whole l r side damage told_l told_r is)

  -- It came to this end, and where a disk met a fault it is this one.
  pub record Came (Meets : Fault → Type 0) (end : End) : Type 0 where
    pub reading : End
    pub read : (bytes : List ℕ) → (source_at before.source).left ≡ Some bytes
        → ReadsTo Asks bytes (source_at after.source).left asked reading
    pub fault : Fault
    pub met : (other : Fault) → Meets other → other ≡ fault
    pub there : Meets fault
    pub so :
        ((reading ≡ end) × (history ≡ []) × (fault ≡ NoFault)
        × StopsUnopened source_at sink_at disk_at before after end)
        ⊎ ((reading ≡ Ok tt) × (Unopened fault end ⊎ Answered fault end))

  abbrev IsWholeRead : Type 0
  IsWholeRead = (bytes : List ℕ) → (source_at before.source).left ≡ Some bytes
      → AllZip Asks (lines_in bytes) asked × ((source_at after.source).left ≡ Some [])

  -- all lines were read
  came_whole : (end : End) (fault : Fault) → IsWholeRead → Unopened fault end ⊎ Answered fault end
      → Came (λ other. other ≡ fault) end
  came_whole end fault read so =
      record {
        reading = Ok tt;
        read = read;
        fault = fault;
        met = λ other is. is;
        there = refl;
        so = inr (refl, so);
      }

  -- a call met a disk's fault
  halted_by : (halted : Option (ℕ × Command)) → serving.Answers finish.DiskFault halted asked history
      → ((l r : List ℕ) (start : State) → (disk_at before.left).seen ≡ Some l → (disk_at before.right).seen ≡ Some r
      → state_on l r ≡ Ok start
      → serving.HoldsAfter disk_at finish.DiskFault halted history l r start after.left after.right)
      → AreWhole → IsWholeRead → Came (λ other. serving.IsFaultAt finish.DiskFault halted other) (Err DiskFault)
  halted_by None h disks whole read = absurd h
  halted_by (Some (session, c)) h disks whole read =
      came_whole (Err DiskFault) (AtCommand c) read
      (inr (
        session,
        c,
        refl,
        h.0,
        h.1,
        h.2,
        kept (λ a b s held. (ruling s c ≡ Allowed) × IsKeptAround s held (Do c) a b)
            (λ l r start told_l told_r is a b told_a told_b.
            let holds = disks l r start told_l told_r is in (
              holds.0,
              kept_around (state_after start history) (held_at_end l r start (histories.requests_of history)) c
                  a b holds.0 (holds.1 a b told_a told_b),
            )) whole,
      ))

  abbrev AnswersTo : Finish → Type 0
  AnswersTo how = AnswersInput disk_at (source_at before.source).left (source_at after.source).left before.left
      before.right (record { left = after.left; right = after.right; finish = how }) asked history

  -- how it ends over damaged disks
  ends_damaged : (how : Finish) → AnswersTo how → (l r : List ℕ) (side : Side) (damage : Damage)
      → (disk_at before.left).seen ≡ Some l → (disk_at before.right).seen ≡ Some r
      → state_on l r ≡ Err (side, damage) → serving.EndsDamaged disk_at how side damage after.left after.right
  ends_damaged how a l r side damage told_l told_r is = (a.damaged l r side damage told_l told_r is).ends

  -- what is found where no store was opened
  abbrev Found : End → Type 0
  Found end = Finds source_at sink_at disk_at before after end (Unit {0}) (λ start commands.
      Contains (5 ∷ 7 ∷ []) (status_of end)
      × OfBoth disk_at before.left before.right (λ l r. DisksStay disk_at end l r start after.left after.right))

  -- it may be any state, where not both disks told their bytes
  found_any : (end : End) → Contains (5 ∷ 7 ∷ []) (status_of end) → Untold disk_at before.left before.right → Found end
  found_any end status none =
      finds_any source_at sink_at disk_at before after end (Unit {0}) _
      (status, of_untold disk_at before.left before.right none _) none

  -- No store was opened. Of damaged disks a stop leaves what an opening does.
  unopened_by : (end : End) (fault : Fault) (w : StoreWhy)
      → (a : AnswersTo (finish.NotOpened w)) → IsFaultOfTelling end fault
      → Tells source_at sink_at disk_at before after [] [] end
      → ((l r : List ℕ) (start : State) → (disk_at before.left).seen ≡ Some l → (disk_at before.right).seen ≡ Some r
      → state_on l r ≡ Ok start
      → Contains (5 ∷ 7 ∷ []) (status_of end) × DisksStay disk_at end l r start after.left after.right)
      → ((l r : List ℕ) (side : Side) (damage : Damage) → (disk_at before.left).seen ≡ Some l
      → (disk_at before.right).seen ≡ Some r → state_on l r ≡ Err (side, damage)
      → EndsDamaged disk_at side damage end after.left after.right)
      → (end ≢ Err DiskFault → w ≢ why.DiskFault) → (Untold disk_at before.left before.right → Found end)
      → Came (λ other. other ≡ fault) end
  unopened_by end fault w a fault_is told stay ends no_fault none =
      came_whole end fault a.read (inl (
        a.answers,
        fault_is,
        finds_by source_at sink_at disk_at before after end (Unit {0}) _
            (λ l r start told_l told_r is.
            let so = stay l r start told_l told_r is in (
              so.0,
              of_told disk_at before.left before.right
                  (λ a b. DisksStay disk_at end a b start after.left after.right) l r told_l told_r so.1,
            ))
            (λ l r side damage told_l told_r is.
            let leaves = a.damaged l r side damage told_l told_r is in (
              tt,
              (
                told,
                record {
                  ends = ends l r side damage told_l told_r is;
                  leaves = record {
                    left_leaves = λ only. weaker disk_at before.left after.left (LeftLeaves l r) (OpenLeaves true l)
                        (leaves.left_leaves only) (λ image there. left_opened l r image (side, damage) there is);
                    right_leaves = leaves.right_leaves;
                    shut = λ other. leaves.shut (λ e. no_fault other (cc e));
                  };
                },
              ),
            ))
            none,
      ))

  pub came_by : (how : Finish)
      (a : AnswersTo how)
      → ((why_not : Stop) → how ≡ finish.NotRead why_not → (after.left ≡ before.left) × (after.right ≡ before.right))
      → (Untold disk_at before.left before.right → Untold disk_at after.left after.right)
      → Tells source_at sink_at disk_at before after [] (served history) (end_of how)
      → Came (λ other. serving.IsFaultAt how a.halted other) (end_of how)
  came_by finish.All a same then written = came_whole (Ok tt) NoFault a.read
      (inr (
        refl,
        kept IsKeptWith a.disks (ends_damaged finish.All a),
        (0, lit< tt, refl),
        none_left asked history a.answers,
      ))
  came_by finish.WriteFault a same then written =
      came_whole (Err WriteFault) NoFault a.read
      (inr (
        refl,
        kept IsKeptWith a.disks (ends_damaged finish.WriteFault a),
        (1, lit< tt, refl),
        none_left asked history a.answers,
      ))
  came_by finish.NoMemory a same then written =
      came_whole (Err NoMemory) NoFault a.read
      (inr (
        refl,
        kept IsKeptWith a.disks (ends_damaged finish.NoMemory a),
        lacking asked history
            a.answers,
      ))
  came_by finish.DiskFault a same then written = halted_by a.halted a.answers a.disks
      (ends_damaged finish.DiskFault a) a.read
  came_by (finish.NotRead why_not) a same then written =
      record {
        reading = Err (halt_at why_not);
        read = λ bytes told. read_so Asks why_not bytes (source_at after.source).left asked (a.read bytes told);
        fault = NoFault;
        met = λ other is. is;
        there = refl;
        so = inl (refl, a.answers, refl, ((same why_not refl).0, (same why_not refl).1, stopping why_not));
      }
  came_by (finish.NotOpened why.DiskFault) a same then written =
      unopened_by (Err DiskFault) InOpening why.DiskFault a refl written
      (λ l r start told_l told_r is. ((0, lit< tt, refl), a.disks l r start told_l told_r is))
      (λ l r side damage told_l told_r is. tt) (λ other. absurd (other refl))
      (found_any (Err DiskFault) (0, lit< tt, refl))
  came_by (finish.NotOpened why.NoMemory) a same then written =
      unopened_by (Err NoMemory) NoFault why.NoMemory a refl written
      (λ l r start told_l told_r is. ((1, lit< tt, refl), a.disks l r start told_l told_r is))
      (ends_damaged (finish.NotOpened why.NoMemory) a) (λ other e. cc)
      (found_any (Err NoMemory) (1, lit< tt, refl))
  came_by (finish.NotOpened (why.Damaged which met)) a same then written =
      unopened_by (Err (Damaged which met.index)) NoFault (why.Damaged which met) a refl written
      (λ l r start told_l told_r is. absurd (a.disks l r start told_l told_r is))
      (λ l r side damage told_l told_r is.
      let h = ends_damaged (finish.NotOpened (why.Damaged which met)) a l r side damage told_l told_r is in
      (h.0, ap (λ (d : Damage). d.index) h.1, h.2)) (λ other e. cc)
      (λ none. inr (
        which,
        met,
        tt,
        written,
        (refl, refl, of_untold disk_at after.left after.right (then none) _),
        of_untold disk_at before.left before.right none _,
      ))
