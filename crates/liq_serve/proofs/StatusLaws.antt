-- To which statuses each word comes, and what a status says of the run's end.
use Rattle.std.proofs.Common.{◌≡◌, ◌≢◌, ℕ, zero, suc, ◌≤◌, List, [], ◌∷◌, length, Option, Some, Ok, Err, refl, ap, arith, inl, inr, lit<}
use Rattle.std.specs.Prelude.{◌⊎◌, Contains}
use Rattle.std.specs.List.{AllZip}
use Rattle.liq_types.specs.declared.amounts.TheConstants.{LINES_MOST}
use Rattle.liq_outside.specs.At.{DiskAt, SinkAt, SourceAt}
use Rattle.liq_types.specs.declared.requests.Command.{Command}
use Rattle.liq_types.specs.declared.requests.Request.{Request}
use Rattle.liq_rule_step.specs.History.{Entry}
use Rattle.liq_journal.specs.declared.damage.Damage.{Damage}
use Rattle.liq_disk_pair.specs.declared.side.Side.{Side}
use Rattle.liq_disk_pair.specs.Past.{Fault, NoFault}
use Rattle.liq_word_exit.specs.declared.halts.Halt.TheVariants.{BadLine, ReadFault, WriteFault, DiskFault, Damaged, DamagedInput, NoMemory, Limit, Rotated}
use Rattle.liq_word_exit.specs.Reading.{ReadsTo}
use Rattle.liq_word_exit.specs.Disks.{EndsDamaged}
use Rattle.liq_word_exit.specs.Outside.{Outside}
use Rattle.liq_word_exit.specs.Statuses.{End, IsDone, status_of}
use Rattle.liq_word_exit.specs.Stops.{EndsAfter}
use Rattle.liq_types.specs.State.{State}
use Rattle.liq_word_exit.proofs.Causes.{six}
use Rattle.liq_text.specs.Spelling.{Spells}
use Rattle.liq_text_lines.specs.Lines.{lines_in}
use Rattle.liq_text_lines.specs.declared.stops.Stop.TheVariants as stop
use Rattle.liq_text_lines.proofs.Sayings.{stops_outside}
use Rattle.liq_word_line.specs.declared.words.Word.{Word}
use Rattle.liq_word_line.specs.declared.words.Word.TheVariants as word
use Rattle.liq_word_state.specs.Audit.{IsAuditOf}
use Rattle.liq_word_state.specs.Report.{reported}
use Rattle.liq_word_state.specs.State.{standing}
use Rattle.liq_word_follow.specs.Followed.{FollowsTo}
use Rattle.liq_serve.specs.ByStatus.{statuses_of}
use Rattle.liq_serve.specs.Top.{Answers, Leaves, OpensNone, ServesTo, StopsUnopened, TellsFound, TellsState}

-- ---- to which statuses each word comes

-- `run` goes on in whatever generation
pub goes_on_known : (end : End) → ((generation : ℕ) → end ≢ Err (Rotated generation))
    → Contains (statuses_of word.Run) (status_of end)
goes_on_known (Ok done) on = (0, lit< tt, refl)
goes_on_known (Err (BadLine n)) on = (1, lit< tt, refl)
goes_on_known (Err ReadFault) on = (2, lit< tt, refl)
goes_on_known (Err WriteFault) on = (3, lit< tt, refl)
goes_on_known (Err DiskFault) on = (4, lit< tt, refl)
goes_on_known (Err (Damaged side number)) on = (5, lit< tt, six side number)
goes_on_known (Err NoMemory) on = (6, lit< tt, refl)
goes_on_known (Err (Limit number)) on = (7, lit< tt, refl)
goes_on_known (Err (Rotated generation)) on = absurd (on generation refl)
goes_on_known (Err (DamagedInput number)) on = (5, lit< tt, refl)

-- a word that may end in each way
answers_known : (end : End) → Contains (statuses_of word.Staking) (status_of end)
answers_known (Ok done) = (0, lit< tt, refl)
answers_known (Err (BadLine n)) = (1, lit< tt, refl)
answers_known (Err ReadFault) = (2, lit< tt, refl)
answers_known (Err WriteFault) = (3, lit< tt, refl)
answers_known (Err DiskFault) = (4, lit< tt, refl)
answers_known (Err (Damaged side number)) = (5, lit< tt, six side number)
answers_known (Err NoMemory) = (6, lit< tt, refl)
answers_known (Err (Limit number)) = (7, lit< tt, refl)
answers_known (Err (Rotated generation)) = (8, lit< tt, refl)
answers_known (Err (DamagedInput number)) = (5, lit< tt, refl)

-- over damaged disks
of_damage : (n : ℕ) → Contains (5 ∷ 6 ∷ 7 ∷ []) n → Contains (statuses_of word.State) n
    × (Contains (statuses_of word.Audit) n × Contains (statuses_of word.Serve) n)
of_damage n (zero, within, is) = ((2, lit< tt, is), ((2, lit< tt, is), (4, lit< tt, is)))
of_damage n (suc zero, within, is) = ((3, lit< tt, is), ((3, lit< tt, is), (5, lit< tt, is)))
of_damage n (suc (suc zero), within, is) = ((4, lit< tt, is), ((4, lit< tt, is), (6, lit< tt, is)))
of_damage n (suc (suc (suc k)), within, is) = absurd (omega (arith, within))

damage_known : {D : Type 0} (at : D → DiskAt) (left right : D) (side : Side) (damage : Damage) (end : End)
    → EndsDamaged at side damage end left right → Contains (5 ∷ 6 ∷ 7 ∷ []) (status_of end)
damage_known at left right side damage (Err DiskFault) ends = (0, lit< tt, refl)
damage_known at left right side damage (Err (Damaged which number)) ends = (1, lit< tt, six which number)
damage_known at left right side damage (Err NoMemory) ends = (2, lit< tt, refl)
damage_known at left right side damage (Ok done) ends = absurd ends
damage_known at left right side damage (Err _) ends = absurd ends

-- where a state is told
of_state : (n : ℕ) → Contains (0 ∷ 4 ∷ 5 ∷ 7 ∷ []) n → Contains (statuses_of word.State) n
of_state n (zero, within, is) = (0, lit< tt, is)
of_state n (suc zero, within, is) = (1, lit< tt, is)
of_state n (suc (suc zero), within, is) = (2, lit< tt, is)
of_state n (suc (suc (suc zero)), within, is) = (4, lit< tt, is)
of_state n (suc (suc (suc (suc k))), within, is) = absurd (omega (arith, within))

-- where an audit is
of_audit : (s : State) (commands : List Command) (end : End) (text : List ℕ) → IsAuditOf s commands end text
    → Contains (statuses_of word.Audit) (status_of end)
of_audit s commands (Ok done) text h = (0, lit< tt, refl)
of_audit s commands (Err WriteFault) text h = (1, lit< tt, refl)
of_audit s commands (Err DiskFault) text h = (2, lit< tt, refl)
of_audit s commands (Err NoMemory) text h = (4, lit< tt, refl)
of_audit s commands (Err (Limit number)) text h = (5, lit< tt, refl)
of_audit s commands (Err (Rotated generation)) text h = (6, lit< tt, refl)
of_audit s commands (Err _) text h = absurd h

-- where `serve` opened no store
of_unopened : (n : ℕ) → Contains (5 ∷ 7 ∷ []) n → Contains (statuses_of word.Serve) n
of_unopened n (zero, within, is) = (4, lit< tt, is)
of_unopened n (suc zero, within, is) = (6, lit< tt, is)
of_unopened n (suc (suc k), within, is) = absurd (omega (arith, within))

-- where it answered all
of_whole : (n : ℕ) → Contains (0 ∷ 4 ∷ []) n → Contains (statuses_of word.Serve) n
of_whole n (zero, within, is) = (0, lit< tt, is)
of_whole n (suc zero, within, is) = (3, lit< tt, is)
of_whole n (suc (suc k), within, is) = absurd (omega (arith, within))

-- where its reading stopped
of_stopping : (end : End) (number : ℕ)
    → Contains (Err (BadLine number) ∷ Err ReadFault ∷ Err NoMemory ∷ Err (Limit LINES_MOST) ∷ []) end
    → Contains (statuses_of word.Serve) (status_of end)
of_stopping end number (zero, within, is) = (1, lit< tt, ap status_of is)
of_stopping end number (suc zero, within, is) = (2, lit< tt, ap status_of is)
of_stopping end number (suc (suc zero), within, is) = (6, lit< tt, ap status_of is)
of_stopping end number (suc (suc (suc zero)), within, is) = (7, lit< tt, ap status_of is)
of_stopping end number (suc (suc (suc (suc k))), within, is) = absurd (omega (arith, within))

-- following reads no lines and asks no disk
follow_known : (end : End) (read : List ℕ) (left : Option (List ℕ)) (text : List ℕ)
    → FollowsTo end read left text → Contains (statuses_of word.Follow) (status_of end)
follow_known (Ok done) read left text h = (0, lit< tt, refl)
follow_known (Err (BadLine n)) read left text h = absurd h.1
follow_known (Err ReadFault) read left text h = (1, lit< tt, refl)
follow_known (Err WriteFault) read left text h = (2, lit< tt, refl)
follow_known (Err DiskFault) read left text h = absurd h.1
follow_known (Err (Damaged side number)) read left text h = absurd h.1
follow_known (Err (DamagedInput number)) read left text h = (3, lit< tt, refl)
follow_known (Err NoMemory) read left text h = (4, lit< tt, refl)
follow_known (Err (Limit number)) read left text h = (5, lit< tt, refl)
follow_known (Err (Rotated generation)) read left text h = (6, lit< tt, refl)

module _
    {S K D : Type 0} (source_at : S → SourceAt) (sink_at : K → SinkAt) (disk_at : D → DiskAt)
    (before after : Outside S K D) where
  of_answers : (asked : List (ℕ × Request)) (history : List Entry) (fault : Fault) (end : End)
      → Answers source_at sink_at disk_at before after asked history fault end
      → Contains (statuses_of word.Serve) (status_of end)
  of_answers asked history fault (Err DiskFault) a = (4, lit< tt, refl)
  of_answers asked history fault (Err NoMemory) a = (6, lit< tt, refl)
  of_answers asked history fault (Ok done) a = of_whole _ a.2
  of_answers asked history fault (Err (BadLine number)) a = of_whole _ a.2
  of_answers asked history fault (Err ReadFault) a = of_whole _ a.2
  of_answers asked history fault (Err WriteFault) a = of_whole _ a.2
  of_answers asked history fault (Err (Damaged side number)) a = of_whole _ a.2
  of_answers asked history fault (Err (DamagedInput number)) a = of_whole _ a.2
  of_answers asked history fault (Err (Limit number)) a = of_whole _ a.2
  of_answers asked history fault (Err (Rotated generation)) a = of_whole _ a.2

  serve_known : (end : End) → ServesTo source_at sink_at disk_at before after end
      → Contains (statuses_of word.Serve) (status_of end)
  serve_known end serves = by serves.came where
    by : ((serves.reading ≡ end) × (serves.history ≡ []) × (serves.fault ≡ NoFault)
        × StopsUnopened source_at sink_at disk_at before after end)
        ⊎ ((serves.reading ≡ Ok tt)
        × (OpensNone source_at sink_at disk_at before after serves.history serves.fault end
        ⊎ Answers source_at sink_at disk_at before after serves.asked serves.history serves.fault end))
        → Contains (statuses_of word.Serve) (status_of end)
    by (inl (stopped, none, no_fault, (left, right, (number, stopping)))) = of_stopping end number stopping
    by (inr (whole, inl (none, fault, inl (s, commands, sound, (status, stay), so)))) =
        of_unopened (status_of end) status
    by (inr (whole, inl (none, fault, inr (side, damage, q, told, ends, so)))) =
        (of_damage (status_of end) (damage_known disk_at after.left after.right side damage end ends)).1.1
    by (inr (whole, inr answers)) = of_answers serves.asked serves.history serves.fault end answers

  state_known : (text : State → List ℕ) (end : End) → TellsState source_at sink_at disk_at before after text end
      → Contains (statuses_of word.State) (status_of end)
  state_known text end (same, inl (s, commands, sound, ((it, (status, is), told), stay), so)) =
      of_state (status_of end) status
  state_known text end (same, inr (side, damage, q, told, ends, so)) =
      (of_damage (status_of end) (damage_known disk_at after.left after.right side damage end ends)).0

  audit_known : (end : End)
      → TellsFound source_at sink_at disk_at before after end
      (λ s commands text. IsAuditOf s commands end text)
      → Contains (statuses_of word.Audit) (status_of end)
  audit_known end (inl (s, commands, sound, ((text, audit, told), stay), so)) = of_audit s commands end text audit
  audit_known end (inr (side, damage, q, told, ends, so)) =
      (of_damage (status_of end) (damage_known disk_at after.left after.right side damage end ends)).1.0

  pub status_known : (one : Word) (end : End) → Leaves source_at sink_at disk_at before after one end
      → Contains (statuses_of one) (status_of end)
  status_known word.Run end leaves = leaves.0
  status_known word.Serve end leaves = serve_known end leaves
  status_known word.Staking end leaves = answers_known end
  status_known word.Rewards end leaves = answers_known end
  status_known word.State end leaves = state_known standing end leaves
  status_known word.Report end leaves = state_known reported end leaves
  status_known word.Audit end leaves = audit_known end leaves.1
  status_known word.Follow end leaves =
      let f = leaves.1 in follow_known end f.0 (source_at after.source).left f.2.0 f.2.1
  status_known (word.Gen seed count) end leaves = leaves.1

-- ---- where all lines are requests

pub neither : {A B : Type 0} → (A → ⊥) → (B → ⊥) → A ⊎ B → ⊥
neither no_a no_b (inl a) = no_a a
neither no_a no_b (inr b) = no_b b

pub run_done : (start : State) (bytes : List ℕ) (left : Option (List ℕ)) (all : List Request)
    → AllZip Spells (lines_in bytes) all → length all ≤ LINES_MOST → (end : End)
    → (status_of end ≢ 3) → (status_of end ≢ 4) → (status_of end ≢ 5)
    → (answered : List Request) → EndsAfter start end (Some bytes) left answered
    → ReadsTo Spells bytes left answered end → IsDone (status_of end)
run_done start bytes left all spelled few (Ok done) r w d answered why e = inl refl
run_done start bytes left all spelled few (Err (BadLine n)) r w d answered why e =
    absurd (neither (λ is. cc) (λ is. cc) (stops_outside Spells (stop.BadLine n) bytes left answered all spelled few e))
run_done start bytes left all spelled few (Err ReadFault) r w d answered why e = absurd (r refl)
run_done start bytes left all spelled few (Err WriteFault) r w d answered why e = absurd (w refl)
run_done start bytes left all spelled few (Err NoMemory) r w d answered why e = inr refl
run_done start bytes left all spelled few (Err DiskFault) r w d answered why e = absurd (d refl)
run_done start bytes left all spelled few (Err (Damaged side number)) r w d answered why e = absurd why
run_done start bytes left all spelled few (Err (Limit number)) r w d answered why e =
    absurd (neither (λ is. cc) (λ is. cc) (stops_outside Spells stop.Limit bytes left answered all spelled few e.1))
run_done start bytes left all spelled few (Err (Rotated generation)) r w d answered why e = absurd why
run_done start bytes left all spelled few (Err (DamagedInput number)) r w d answered why e = absurd why
