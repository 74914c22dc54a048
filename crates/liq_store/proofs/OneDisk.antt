-- What one disk is found to be, by its opening and its replay.
use Rattle.std.proofs.Common.{◌≡◌, ◌∙◌, ◌↔◌, ℕ, List, length, Option, Some, None, IfSome, IsSome, Bool, true, Result, Ok, Err, refl, sym, ap, subst, rules}
use Rattle.liq_types.specs.State.{State}
use Rattle.liq_core.specs.Core.{Core, StandsFor}
use Rattle.liq_journal.specs.Bodies.{IsJournalOf}
use Rattle.liq_journal.specs.Crash.{Stands}
use Rattle.liq_journal.specs.Opened.{IsOpened}
use Rattle.liq_journal.specs.Settled.{JournalOn}
use Rattle.liq_journal.specs.Written.{Open, Written, found_on, is_generation}
use Rattle.liq_journal.specs.declared.damage.Damage.{Damage}
use Rattle.liq_journal.proofs.Parity.{parity_of}
use Rattle.liq_disk_pair.specs.Replay.{base_of, outcome, replay_from}
use Rattle.liq_disk_pair.proofs.Standings.{standing_faulty}
use Rattle.liq_disk_records.specs.declared.answers.AcceptedFault.{AcceptedFault}
use Rattle.liq_disk_records.specs.declared.answers.AcceptedFault.TheVariants.{DiskFault, Damaged, NoMemory}
use Rattle.liq_store.specs.declared.standing.StandFault.{StandFault}
use Rattle.liq_store.specs.declared.standing.Stood.{Stood}
use Rattle.liq_store.specs.declared.standing.Stood.TheVariants.{Nothing, Holding}
use Rattle.liq_disk_records.specs.Reading.{CountsFault}
use Rattle.liq_disk_records.specs.Replays.{Replays}
use Rattle.liq_store.specs.Bases.{BeginsTo}
use Rattle.liq_store.specs.Standing.{Continues, FailsTo, HoldsTo, IsFoundOn, IsWhyOn}

-- ---- from its beginning

-- where it has none, or the damage of its checkpoint
pub base_fails : (w : Written) (why : AcceptedFault) → BeginsTo (base_of w) (Err why) → FailsTo w why
base_fails w DiskFault h = tt
base_fails w (Damaged damage) h = ap (λ (base : Result State Damage). replay_from base w.commands) h
base_fails w NoMemory h = tt

pub leads_on : (w : Written) (s : State) (core : Core) → base_of w ≡ Ok s → Replays s w.commands core (Ok tt)
    → (t : State) × (outcome w ≡ Ok t) × StandsFor core t
leads_on w s core begins h = (h.0, ap (λ (base : Result State Damage). replay_from base w.commands) begins ∙ h.1, h.2)

pub fails_on : (w : Written) (s : State) (core : Core) (why : AcceptedFault) → base_of w ≡ Ok s
    → Replays s w.commands core (Err why) → FailsTo w why
fails_on w s core DiskFault begins h = tt
fails_on w s core (Damaged damage) begins h = ap (λ (base : Result State Damage). replay_from base w.commands)
    begins ∙ h
fails_on w s core NoMemory begins h = tt

-- no fault is counted where no device was asked
pub uncounted : (why : AcceptedFault) (before after : ℕ) → (why ≡ DiskFault → ⊥) → after ≡ before
    → CountsFault why before after
uncounted DiskFault before after none same = absurd (none refl)
uncounted (Damaged damage) before after none same = same
uncounted NoMemory before after none same = same

-- ---- its bytes

-- what is told before is told after
pub told_too : (old new : Option (List ℕ)) → (IsSome new ↔ IsSome old) → (held : List ℕ) → old ≡ Some held
    → (after : List ℕ) × (new ≡ Some after)
told_too old None telling held told =
    let some : IsSome old = subst (λ (o : Option (List ℕ)). IsSome o) (sym told) (some_is held) in
    absurd (none_is (telling.1 some))
  where
    some_is : (l : List ℕ) → IsSome (Some l)
    some_is l = refl

    none_is : IsSome {T = List ℕ} None → ⊥
    none_is is = absurd (search rules)
told_too old (Some after) telling held told = (after, refl)

pub some_same : (a b : List ℕ) (o : Option (List ℕ)) → o ≡ Some a → o ≡ Some b → a ≡ b
some_same a b o first second = let both : Some a ≡ Some b = sym first ∙ second in cc

-- what an opening left is the journal that it found
pub record OpenedAs (odd : Bool) (held after : List ℕ) (generation limit start count : ℕ) (checkpoint : List ℕ) :
    Type 0 where
  pub written : Written
  pub found : found_on odd held ≡ Open written
  pub stands : Stands odd after written
  pub journal : IsJournalOf generation start after written
  pub generation_is : written.generation ≡ generation
  pub limit_is : written.limit ≡ limit
  pub count_is : length written.commands ≡ count
  pub checkpoint_is : written.checkpoint ≡ checkpoint

pub opened_as : (old new : Option (List ℕ)) (odd : Bool) (generation limit start count : ℕ) (checkpoint : List ℕ)
    → (IsSome new ↔ IsSome old) → is_generation odd generation ≡ true
    → IfSome old (λ held. IsOpened odd held generation limit start count checkpoint)
    → ((held : List ℕ) (w : Written) → old ≡ Some held → found_on odd held ≡ Open w
    → IfSome new (λ after. Stands odd after w))
    → (held : List ℕ) → old ≡ Some held → (after : List ℕ) × (new ≡ Some after)
    × OpenedAs odd held after generation limit start count checkpoint
opened_as old new odd generation limit start count checkpoint telling may opened stands held told =
    let here = told_too old new telling held told in
    let is : IsOpened odd held generation limit start count checkpoint =
    subst (λ (o : Option (List ℕ)). IfSome o (λ l. IsOpened odd l generation limit start count checkpoint)) told
    opened in
    let left : Stands odd here.0 is.written = subst (λ (o : Option (List ℕ)). IfSome o (λ l. Stands odd l is.written))
    here.1 (stands held is.written told is.found) in (
      here.0,
      here.1,
      record {
        written = is.written;
        found = is.found;
        stands = left;
        journal = record {
          found = subst (λ (b : Bool). found_on b here.0 ≡ Open is.written) (sym (parity_of odd generation may))
              left.found;
          generation_is = is.generation_is;
          start_is = is.start_is;
        };
        generation_is = is.generation_is;
        limit_is = is.limit_is;
        count_is = is.count_is;
        checkpoint_is = is.checkpoint_is;
      },
    )

pub found_by : {D : Type 0} (odd : Bool) (held : List ℕ) (w : Written) (journal : JournalOn D)
    (result : Result (Stood D) (StandFault D)) → found_on odd held ≡ Open w → w.generation ≡ journal.generation
    → HoldsTo w result → Continues journal result → IsFoundOn odd held result
found_by odd held w journal (Ok (Nothing disk)) found generation holds continues = absurd holds
found_by odd held w journal (Ok (Holding now core)) found generation holds continues = record {
  written = w;
  found = found;
  generation_is = generation ∙ sym (ap (λ j. j.generation) continues.same);
  state = holds.0;
  came = holds.1;
  stands = holds.2;
}
found_by odd held w journal (Err met) found generation holds continues = why met.why holds
  where
    why : (y : AcceptedFault) → FailsTo w y → IsWhyOn odd held y
    why DiskFault h = tt
    why (Damaged damage) h = standing_faulty odd held w damage found h
    why NoMemory h = tt
