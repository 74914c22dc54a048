-- What is told whatever the disks tell.
use Rattle.std.proofs.Common.{◌≡◌, ℕ, ◌<◌, List, [], Option, Result, Ok, Err, inl, inr, refl, sym, subst, ap, ◌∙◌}
use Rattle.std.specs.Prelude.{◌⊎◌}
use Rattle.liq_types.specs.declared.events.PoolEvent.{PoolEvent}
use Rattle.liq_types.specs.declared.requests.Command.{Command}
use Rattle.liq_types.specs.Image.{IsLimit}
use Rattle.liq_types.specs.State.{State, opening_with}
use Rattle.liq_rule_step.specs.Events.{events}
use Rattle.liq_rule_sound.specs.SoundState.{IsSoundState}
use Rattle.liq_journal.specs.declared.damage.Damage.{Damage}
use Rattle.liq_journal.specs.Written.{Written}
use Rattle.liq_disk_pair.specs.declared.side.Side.{Side}
use Rattle.liq_disk_pair.specs.Replay.{replay}
use Rattle.liq_disk_pair.proofs.Basing.{outcome_first}
use Rattle.liq_disk_pair.proofs.Generations.{HaveNoRotation, outcome_generation, outcome_limit}
use Rattle.liq_disk_pair.proofs.Replaying.{outcome_sound}
use Rattle.liq_store.specs.declared.answers.StoreWhy.{StoreWhy}
use Rattle.liq_store.specs.declared.answers.StoreWhy.TheVariants as why
use Rattle.liq_text_audit.specs.declared.fault.ReviewFault.{ReviewFault}
use Rattle.liq_text_audit.specs.declared.fault.ReviewFault.TheVariants as review
use Rattle.liq_text_audit.specs.Reviewed.{replay_code, review_of, reviewed}
use Rattle.liq_word_exit.specs.declared.halts.Halt.{Halt}
use Rattle.liq_word_exit.specs.declared.halts.Halt.TheVariants.{BadLine, ReadFault, WriteFault, DiskFault, Damaged, DamagedInput, NoMemory, Limit, Rotated}
use Rattle.liq_word_exit.specs.Statuses.{End}
use Rattle.liq_word_exit.specs.Telling.{TellsAll}
use Rattle.liq_word_exit.specs.Unopened.{halt_of}
use Rattle.liq_word_exit.specs.Unsaid.{WritesAll}
use Rattle.liq_word_state.specs.declared.answers.Asked.{Asked}
use Rattle.liq_word_state.specs.declared.telling.Text.{Text}
use Rattle.liq_word_state.specs.declared.telling.Text.TheVariants as which
use Rattle.liq_word_state.specs.Answers.{asked_text}
use Rattle.liq_word_state.specs.Leads.{LeadTo}
use Rattle.liq_word_state.specs.Reviewing.{halt_on}
use Rattle.liq_word_state.specs.Told.{EndsSome, FindsNone, WritesSome, WritesTold}
use Rattle.liq_word_state.specs.Whole.{StopsWhole}
use Rattle.liq_word_state.specs.Writing.{AuditHolds, WritesText}
use Rattle.liq_word_state.proofs.TextsTold.{all_told, answers_written, audit_reviewed}

-- ---- of no state

-- no store was opened
pub unopened_none : (why_is : StoreWhy) → FindsNone (Err (halt_of why_is))
unopened_none why.DiskFault = tt
unopened_none (why.Damaged side damage) = tt
unopened_none why.NoMemory = tt

-- where only a later generation's state has no text, a halt is told of one of these, or of none
module _ (what : Text) (rotated : (s : State) (commands : List Command) (held : Option (List ℕ))
    → 1 < s.generation → WritesTold what s commands (Err (Rotated s.generation)) held held) where
  stops_some : (halt : Halt) (held : Option (List ℕ)) → StopsWhole halt → WritesSome what (Err halt) held held
  stops_some (Rotated generation) held (s, sound, later, is) = inl (
    s,
    [],
    sound,
    subst (λ (n : ℕ). WritesTold what s [] (Err (Rotated n)) held held) (sym is) (rotated s [] held later),
  )
  stops_some DiskFault held none = inr (tt, refl)
  stops_some (Damaged side number) held none = inr (tt, refl)
  stops_some NoMemory held none = inr (tt, refl)
  stops_some (BadLine n) held none = absurd none
  stops_some ReadFault held none = absurd none
  stops_some WriteFault held none = absurd none
  stops_some (Limit number) held none = absurd none
  stops_some (DamagedInput number) held none = absurd none

pub audit_stops : (halt : Halt) (held : Option (List ℕ)) → StopsWhole halt
    → WritesSome which.Audit (Err halt) held held
audit_stops = stops_some which.Audit (λ s commands held later. (refl, later, refl))

pub answers_stop : (asked : Asked) (halt : Halt) (held : Option (List ℕ)) → StopsWhole halt
    → WritesSome (which.Answers asked) (Err halt) held held
answers_stop asked = stops_some (which.Answers asked) (λ s commands held later. (refl, later, refl))

-- ---- of the state to which commands lead

-- a replay that has no damage comes to a state
came_to : (came : Result State Damage) → ((damage : Damage) → came ≡ Err damage → ⊥) → (s : State) × (came ≡ Ok s)
came_to (Ok s) whole = (s, refl)
came_to (Err damage) whole = absurd (whole damage refl)

review_damaged : (told : List PoolEvent) (came : Result State Damage) (damage : Damage) → came ≡ Err damage
    → review_of told came ≡ Err (review.Refused damage.index (replay_code damage.what))
review_damaged told came damage is = ap (review_of told) is

module _ (limit : ℕ) (known : IsLimit limit) (commands : List Command) (none : HaveNoRotation commands) where
  -- They lead to it. It is of the limit, and sound.
  record Came (s : State) : Type 0 where
    limit_is : s.limit ≡ limit
    leads : LeadTo commands s
    sound : IsSoundState s

  came : (s : State) → replay 1 (opening_with limit) commands ≡ Ok s → Came s
  came s is =
      let w : Written = record { generation = 1; limit = limit; checkpoint = []; commands = commands } in
      let so = outcome_first w refl ∙ is in
      let same = outcome_limit w s none so in
      record {
        limit_is = same;
        leads = (
          outcome_generation w s none so,
          subst (λ (l : ℕ). replay 1 (opening_with l) commands ≡ Ok s) (sym same) is,
        );
        sound = outcome_sound w s known so;
      }

  pub review_some : (end : End) (before now : Option (List ℕ))
      → ((index code : ℕ) → reviewed limit commands ≡ Err (review.Refused index code) → ⊥)
      → ((s : State) → s.limit ≡ limit → replay 1 (opening_with limit) commands ≡ Ok s
      → WritesText (reviewed limit commands) end before now × AuditHolds end s commands)
      → WritesSome which.Audit end before now
  review_some end before now accepted wrote =
      let start = opening_with limit in
      let led = came_to (replay 1 start commands) (λ damage is. accepted damage.index (replay_code damage.what)
      (review_damaged (events start commands) (replay 1 start commands) damage is)) in
      let s = led.0 in
      let state = came s led.1 in
      let so = wrote s state.limit_is led.1 in
      inl (
        s,
        commands,
        state.sound,
        audit_reviewed s commands end before now state.leads
            (subst (λ (l : ℕ). WritesText (reviewed l commands) end before now) (sym state.limit_is) so.0) so.1,
      )

  pub unreviewed_some : (side : Side) (fault : ReviewFault) (held : Option (List ℕ))
      → (fault ≡ review.NoMemory) ⊎ (reviewed limit commands ≡ Err fault)
      → WritesSome which.Audit (Err (halt_on side fault)) held held
  unreviewed_some side (review.Refused index code) held so = inr (tt, refl)
  unreviewed_some side (review.Limit number) held (inl memory) = absurd cc
  unreviewed_some side (review.Limit number) held (inr is) =
      review_some (Err (Limit number)) held held (λ index code refused. absurd (cc (is, refused)))
      (λ s same led. ((is, refl), tt))
  unreviewed_some side review.NoMemory held so = inr (tt, refl)

  pub answered_some : (asked : Asked) (end : End) (before now : Option (List ℕ))
      → ((damage : Damage) → replay 1 (opening_with limit) commands ≡ Err damage → ⊥)
      → WritesText (Ok (asked_text asked limit commands)) end before now
      → WritesSome (which.Answers asked) end before now
  answered_some asked end before now whole wrote =
      let led = came_to (replay 1 (opening_with limit) commands) whole in
      let s = led.0 in
      let state = came s led.1 in
      inl (
        s,
        commands,
        state.sound,
        answers_written s commands asked end before now state.leads
            (subst (λ (l : ℕ). WritesText (Ok (asked_text asked l commands)) end before now) (sym state.limit_is)
            wrote),
      )

-- ---- once the last line is written where that stops

none_written : (end : End) (before now : Option (List ℕ)) → FindsNone end → now ≡ before → WritesAll [] end before now
none_written (Err DiskFault) before now none same = same
none_written (Err (Damaged side number)) before now none same = same
none_written (Err NoMemory) before now none same = same
none_written (Ok done) before now none same = absurd none
none_written (Err _) before now none same = absurd none

pub some_told : (what : Text) (end : End) (fault : Type 0) (before middle now : Option (List ℕ))
    → WritesSome what end before middle
    → ((text : List ℕ) → WritesAll text end before middle → TellsAll text end fault before now)
    → EndsSome what end fault before now
some_told what end fault before middle now (inl found) last =
    inl (found.0, found.1, found.2, all_told what found.0 found.1 end fault before middle now found.3 last)
some_told what end fault before middle now (inr found) last =
    inr (found.0, last [] (none_written end before middle found.0 found.1))
