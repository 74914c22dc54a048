-- How the records are gone through.
use Rattle.std.proofs.Common.{◌≡◌, ℕ, suc, ◌+◌, ◌*◌, ◌-◌, ◌<◌, List, [], ◌∷◌, ◌++◌, length, take, drop, Option, Some, None, IfSome, Result, Ok, Err, true, false, refl, sym, ◌∙◌, ap, subst, arith, length-append}
use Rattle.std.proofs.lemmas.List.{drop-drop}
use Rattle.liq_types.specs.declared.requests.Command.{Command}
use Rattle.liq_journal.specs.declared.damage.Damage.{Damage}
use Rattle.liq_journal.specs.declared.damage.What.{What}
use Rattle.liq_journal.specs.declared.answers.LookFault.{LookFault}
use Rattle.liq_journal.specs.declared.answers.LookFault.TheVariants as fault
use Rattle.liq_journal.specs.Records.{records, begins_whole}
use Rattle.liq_disk_header.specs.Layout.{piece}
use Rattle.liq_journal.specs.Written.{Found, Open, Damaged, record_on, with_command, found_record, found_records, most_records}
use Rattle.liq_journal.specs.Counted.{AreRecords, IsFaultIn}
use Rattle.liq_journal.specs.Tested.{IsTested, IsFaultOf}
use Rattle.liq_journal.proofs.Reading.{records_whole, records_none, records_zero}

abbrev pub prefixed : List Command → Found → Found
prefixed [] found = found
prefixed (command ∷ commands) found = with_command command (prefixed commands found)

prefixed_more : (commands : List Command) (command : Command) (found : Found)
    → prefixed commands (with_command command found) ≡ prefixed (commands ++ command ∷ []) found
prefixed_more [] command found = refl
prefixed_more (first ∷ commands) command found = ap (with_command first) (prefixed_more commands command found)

prefixed_damaged : (commands : List Command) (damage : Damage) → prefixed commands (Damaged damage) ≡ Damaged damage
prefixed_damaged [] damage = refl
prefixed_damaged (first ∷ commands) damage = ap (with_command first) (prefixed_damaged commands damage)

prefixed_open : (commands : List Command) (generation limit : ℕ) (checkpoint : List ℕ)
    → prefixed commands (Open (record {
      generation = generation;
      limit = limit;
      checkpoint = checkpoint;
      commands = [];
    })) ≡ Open (record {
      generation = generation;
      limit = limit;
      checkpoint = checkpoint;
      commands = commands;
    })
prefixed_open [] generation limit checkpoint = refl
prefixed_open (first ∷ commands) generation limit checkpoint =
    ap (with_command first) (prefixed_open commands generation limit checkpoint)

-- so many records were gone through
pub record ReadTo (generation start : ℕ) (held : List ℕ) (count : ℕ) : Type 0 where
  pub commands : List Command
  pub counted : length commands ≡ count
  pub left : (limit : ℕ) (checkpoint : List ℕ) (most : ℕ) → most_records ≡ count + most
      → found_records generation limit checkpoint 1 start (records most_records (drop start held))
      ≡ prefixed commands (found_records generation limit checkpoint (count + 1) (start + 129 * count)
      (records most (drop (start + 129 * count) held)))

module _ (generation start : ℕ) (held : List ℕ) where
  pub read_none : ReadTo generation start held 0
  read_none = record {
    commands = [];
    counted = refl;
    left = λ limit checkpoint most fuel.
        let m : most_records ≡ most = omega (arith, fuel) in
        let i : 1 ≡ 0 + 1 = refl in
        let p : start ≡ start + 129 * 0 = omega arith in
        ap (λ (n : ℕ). found_records generation limit checkpoint 1 start (records n (drop start held))) m
        ∙ ap (λ (n : ℕ). found_records generation limit checkpoint 1 n (records most (drop n held))) p;
  }

  module _ (count : ℕ) (so_far : ReadTo generation start held count) where
    abbrev place : ℕ
    place = start + 129 * count

    whole_left : (limit : ℕ) (checkpoint : List ℕ) (most : ℕ) → most_records ≡ count + suc most
        → begins_whole (drop place held) ≡ true
        → found_records generation limit checkpoint 1 start (records most_records (drop start held))
        ≡ prefixed so_far.commands (found_record (count + 1) (record_on generation (count + 1) (place + 1)
        (piece (place + 1) 128 held)) (found_records generation limit checkpoint (count + 1 + 1) (place + 129)
        (records most (drop (place + 129) held))))
    whole_left limit checkpoint most fuel whole =
        so_far.left limit checkpoint (suc most) fuel
        ∙ ap (λ (l : List (List ℕ)). prefixed so_far.commands (found_records generation limit checkpoint
        (count + 1) place l))
        (records_whole most (drop place held) whole
        ∙ (λ i. take 128 (drop-drop 1 place held i) ∷ records most (drop-drop 129 place held i)))

    pub read_more : (command : Command) → begins_whole (drop place held) ≡ true
        → record_on generation (count + 1) (place + 1) (piece (place + 1) 128 held) ≡ Ok command
        → ReadTo generation start held (count + 1)
    read_more command whole is = record {
      commands = so_far.commands ++ command ∷ [];
      counted = length-append so_far.commands (command ∷ []) ∙ ap (λ (n : ℕ). n + 1) so_far.counted;
      left = λ limit checkpoint most fuel.
          let p : place + 129 ≡ start + 129 * (count + 1) = omega arith in
          whole_left limit checkpoint most (omega (arith, fuel)) whole
          ∙ ap (λ (r : Result Command What). prefixed so_far.commands (found_record (count + 1) r
          (found_records generation limit checkpoint (count + 1 + 1) (place + 129)
          (records most (drop (place + 129) held))))) is
          ∙ prefixed_more so_far.commands command (found_records generation limit checkpoint (count + 1 + 1)
          (place + 129) (records most (drop (place + 129) held)))
          ∙ ap (λ (n : ℕ). prefixed (so_far.commands ++ command ∷ []) (found_records generation limit checkpoint
          (count + 1 + 1) n (records most (drop n held)))) p;
    }

    ended : (limit : ℕ) (checkpoint : List ℕ) (most : ℕ) → most_records ≡ count + most → records most (drop place held)
        ≡ [] → found_records generation limit checkpoint 1 start (records most_records (drop start held))
        ≡ Open (record { generation = generation; limit = limit; checkpoint = checkpoint; commands = so_far.commands })
    ended limit checkpoint most fuel none =
        so_far.left limit checkpoint most fuel
        ∙ ap (λ (l : List (List ℕ)). prefixed so_far.commands (found_records generation limit checkpoint
        (count + 1) place l)) none ∙ prefixed_open so_far.commands generation limit checkpoint

    pub read_end : count < 1000001 → begins_whole (drop place held) ≡ false → AreRecords generation start held count
    read_end few none = record {
      commands = so_far.commands;
      counted = so_far.counted;
      found = λ limit checkpoint. ended limit checkpoint (1000001 - count) (omega arith) (records_none (1000001 - count)
          (drop place held) none);
    }

    pub read_full : count ≡ 1000001 → AreRecords generation start held count
    read_full all = record {
      commands = so_far.commands;
      counted = so_far.counted;
      found = λ limit checkpoint. ended limit checkpoint 0 (omega arith) (records_zero (drop place held));
    }

    pub read_fault : (damage : Damage) → count < 1000001 → begins_whole (drop place held) ≡ true
        → damage.index ≡ count + 1 → record_on generation (count + 1) (place + 1) (piece (place + 1) 128 held)
        ≡ Err damage.what → IsFaultIn generation start held (fault.Damaged damage)
    read_fault damage few whole index is = λ limit checkpoint.
        whole_left limit checkpoint (1000000 - count) (omega arith) whole
        ∙ ap (λ (r : Result Command What). prefixed so_far.commands (found_record (count + 1) r
        (found_records generation limit checkpoint (count + 1 + 1) (place + 129) (records (1000000 - count)
        (drop (place + 129) held))))) is
        ∙ ap (λ (n : ℕ). prefixed so_far.commands (Damaged (record { index = n; what = damage.what }))) (sym index)
        ∙ prefixed_damaged so_far.commands damage

-- the same where the bytes are told
module _ (told now : Option (List ℕ)) (same : now ≡ told) (generation start count : ℕ) where
  pub told_more : (body : List ℕ) → IfSome told (λ held. ReadTo generation start held count)
      → IfSome now (λ held. IsTested generation (count + 1) (start + 129 * count) held (Some body))
      → IfSome told (λ held. ReadTo generation start held (count + 1))
  told_more body so_far tested =
      go told so_far (subst (λ (o : Option (List ℕ)). IfSome o (λ held. IsTested generation (count + 1)
      (start + 129 * count) held (Some body))) same tested)
    where
      go : (o : Option (List ℕ)) → IfSome o (λ held. ReadTo generation start held count)
          → IfSome o (λ held. IsTested generation (count + 1) (start + 129 * count) held (Some body))
          → IfSome o (λ held. ReadTo generation start held (count + 1))
      go None so tested = tt
      go (Some held) so tested = read_more generation start held count so tested.1.1.0 tested.0 tested.1.1.1

  pub told_end : count < 1000001 → IfSome told (λ held. ReadTo generation start held count)
      → IfSome now (λ held. IsTested generation (count + 1) (start + 129 * count) held None)
      → IfSome told (λ held. AreRecords generation start held count)
  told_end few so_far tested =
      go told so_far (subst (λ (o : Option (List ℕ)). IfSome o (λ held. IsTested generation (count + 1)
      (start + 129 * count) held None)) same tested)
    where
      go : (o : Option (List ℕ)) → IfSome o (λ held. ReadTo generation start held count)
          → IfSome o (λ held. IsTested generation (count + 1) (start + 129 * count) held None)
          → IfSome o (λ held. AreRecords generation start held count)
      go None so tested = tt
      go (Some held) so tested = read_end generation start held count so few tested

  pub told_fault : (why : LookFault) → count < 1000001 → IfSome told (λ held. ReadTo generation start held count)
      → IfSome now (λ held. IsFaultOf generation (count + 1) (start + 129 * count) held why)
      → IfSome told (λ held. IsFaultIn generation start held why)
  told_fault why few so_far tested =
      go why told so_far (subst (λ (o : Option (List ℕ)). IfSome o (λ held. IsFaultOf generation (count + 1)
      (start + 129 * count) held why)) same tested)
    where
      go : (y : LookFault) (o : Option (List ℕ)) → IfSome o (λ held. ReadTo generation start held count)
          → IfSome o (λ held. IsFaultOf generation (count + 1) (start + 129 * count) held y)
          → IfSome o (λ held. IsFaultIn generation start held y)
      go y None so tested = tt
      go fault.DiskFault (Some held) so tested = tt
      go (fault.Damaged damage) (Some held) so tested = read_fault generation start held count so damage few tested.0
          tested.1.0 tested.1.1

pub told_full : (told : Option (List ℕ)) (generation start count : ℕ) → count ≡ 1000001
    → IfSome told (λ held. ReadTo generation start held count)
    → IfSome told (λ held. AreRecords generation start held 1000001)
told_full None generation start count all so_far = tt
told_full (Some held) generation start count all so_far = subst (λ (n : ℕ). AreRecords generation start held n) all
    (read_full generation start held count so_far all)

pub told_none : (told : Option (List ℕ)) (generation start : ℕ) → IfSome told (λ held. ReadTo generation start held 0)
told_none None generation start = tt
told_none (Some held) generation start = read_none generation start held
