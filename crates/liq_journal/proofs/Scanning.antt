-- What a whole disk is found to be.
use Rattle.std.proofs.Common.{◌≡◌, ◌⊎◌, inl, ℕ, ◌+◌, ◌≤◌, List, length, take, drop, Option, Some, None, IfSome, Result, Ok, Err, Bool, true, false, not, nat_lt, if◌then◌else◌, refl, sym, ◌∙◌, ap, subst, arith, length-take, length-drop}
use Rattle.std.specs.Str.{bytes_eq}
use Rattle.std.proofs.lemmas.Bool.Decides.{nat_tests}
use Rattle.liq_journal.specs.declared.damage.What.TheVariants.{Digest, Form}
use Rattle.liq_disk_header.specs.declared.head.Head.{Head}
use Rattle.liq_journal.specs.declared.scanned.Scanned.{Scanned}
use Rattle.liq_journal.specs.declared.answers.LookFault.{LookFault}
use Rattle.liq_journal.specs.declared.answers.LookFault.TheVariants as look
use Rattle.liq_journal.specs.declared.answers.OpenWhy.{OpenWhy}
use Rattle.liq_journal.specs.declared.answers.OpenWhy.TheVariants as why
use Rattle.liq_journal.specs.declared.damage.Damage.{Damage}
use Rattle.liq_journal.specs.Header.{IsHeadOf, IsSoundHeadOf, MaybeHeadOf, MaybeSoundHeadOf, IsDamageOf}
use Rattle.liq_journal.specs.Opened.{IsScanOf, IsWhyOf, why_of}
use Rattle.liq_journal.specs.Counted.{AreRecords, IsFaultIn}
use Rattle.liq_disk_header.specs.Layout.{Layout, layout_on, layout_with, fields_size, header_size, piece, start_on, digest_on, header_digest}
use Rattle.liq_journal.specs.Written.{Open, first_fault, header_tests, last_tests}
use Rattle.liq_disk_header.specs.Header.{place_tests}
use Rattle.liq_journal.proofs.Heading.{Headed, found_behind_it}
use Rattle.liq_journal.proofs.Heading.{forms_fit}
use Rattle.liq_journal.proofs.HeaderFound.{found_absent, found_damaged, look_damaged, look_open}
use Rattle.liq_journal.proofs.Told.{if_some, if_both}
use Rattle.liq_journal.specs.Look.{look_on}
use Rattle.liq_journal.specs.declared.answers.Look.{Look}
use Rattle.liq_journal.specs.declared.answers.Look.TheVariants as answer

-- the checkpoint was read, where the bytes behind the header are there
abbrev pub IsReadBehind : ℕ → Head → List ℕ → List ℕ → Type 0
IsReadBehind header head checkpoint held = header + head.size ≤ length held → checkpoint ≡ piece header head.size held

-- the version of a head
abbrev pub layout_of : Head → Layout
layout_of head = layout_with head.limit

-- those of its fields that are digested
abbrev pub digested : Layout → Head → List ℕ
digested layout head = take (fields_size layout) head.fields

-- a header whose fields are right
module _ (layout : Layout) (odd : Bool) (head : Head) (held : List ℕ) (h : IsHeadOf layout odd held head) where
  start : start_on layout held ≡ header_size layout + head.size
  start = ap (λ (k : ℕ). header_size layout + k) (sym h.fields.size)

  long : header_size layout + head.size ≤ length held
  long = let l = h.long in let s = start in omega arith

  -- and the digest that was worked out over it and its checkpoint
  module _ (computed : List ℕ) (is : computed ≡ header_digest (digested layout head)
      (piece (header_size layout) head.size held)) where
    digest_is : digest_on layout held ≡ computed
    digest_is = (λ i. header_digest (sym h.fields.fields i) (piece (header_size layout) (sym h.fields.size i) held))
        ∙ sym is

    first_is : first_fault (header_tests layout odd held) ≡ (if not (bytes_eq head.stored computed)
        then Some (Digest head.stored computed) else None)
    first_is =
        let l : nat_lt (length held) (start_on layout held) ≡ false = let e = h.long in grind (arith, nat_tests) in
        forms_fit (place_tests layout odd held) (last_tests layout held) h.places
        ∙ ap (λ (b : Bool). if b then Some (Form (length held)) else first_fault (drop 1 (last_tests layout held))) l
        ∙ (λ i. if not (bytes_eq (sym h.fields.stored i) (digest_is i))
        then Some (Digest (sym h.fields.stored i) (digest_is i)) else None)

    first_with : (differs : Bool) → not (bytes_eq head.stored computed) ≡ differs
        → first_fault (header_tests layout odd held) ≡ (if differs then Some (Digest head.stored computed) else None)
    first_with differs so = first_is ∙ ap (λ (b : Bool). if b then Some (Digest head.stored computed) else None) so

  -- and no fault, and the checkpoint that was read
  module _ (no_fault : first_fault (header_tests layout odd held) ≡ None) (checkpoint : List ℕ) (read : IsReadBehind
      (header_size layout) head checkpoint held) where
    headed : Headed layout odd held head.generation checkpoint (header_size layout + head.size)
    headed = record {
      layout_is = h.layout_is;
      gate = h.gate;
      tests = no_fault;
      generation_is = sym h.fields.generation;
      checkpoint_is = ap (λ (k : ℕ). piece (header_size layout) k held) (sym h.fields.size) ∙ sym (read long);
      start_is = start;
      long = long;
    }

    size_is : length checkpoint ≡ head.size
    size_is = ap length (read long) ∙ length-take head.size (drop (header_size layout) held)
        ∙ (let d = length-drop (header_size layout) held in let l = long in omega arith)

-- the tests of a sound header, by the version that its name tells
sound_tests : (odd : Bool) (held : List ℕ) (head : Head) → IsSoundHeadOf odd held head
    → first_fault (header_tests (layout_on held) odd held) ≡ None
sound_tests odd held head s = ap (λ (l : Layout). first_fault (header_tests l odd held)) s.is_head.layout_is
    ∙ s.no_fault

-- a look tells a sound header's generation
sound_looked : (odd : Bool) (held : List ℕ) (head : Head) → IsSoundHeadOf odd held head
    → look_on odd held ≡ Ok (answer.Open head.generation)
sound_looked odd held head s = look_open odd held s.is_head.gate (sound_tests odd held head s)
    ∙ ap (λ (g : ℕ). Ok (answer.Open g)) (sym s.is_head.fields.generation)

-- what is told of a header whose digest was worked out by the head's own numbers
module _ (odd : Bool) (head : Head) (computed : List ℕ) (header count : ℕ) (at : header ≡ header_size (layout_of head))
    (many : count ≡ fields_size (layout_of head)) where
  -- the digest over the checkpoint, where it is there
  abbrev IsDigestOf : List ℕ → Type 0
  IsDigestOf held = header + head.size ≤ length held
      → computed ≡ header_digest (take count head.fields) (piece header head.size held)

  worked_out : (held : List ℕ) → IsHeadOf (layout_of head) odd held head → IsDigestOf held
      → computed ≡ header_digest (digested (layout_of head) head) (piece (header_size (layout_of head)) head.size held)
  worked_out held h is =
      is (subst (λ (n : ℕ). n + head.size ≤ length held) (sym at) (long (layout_of head) odd head held h))
      ∙ (λ i. header_digest (take (many i) head.fields) (piece (at i) head.size held))

  module _ (told now : Option (List ℕ)) (same : now ≡ told) (heads : IfSome told (λ held. MaybeHeadOf odd held
      (Some head))) (reads : IfSome now IsDigestOf) where
    reads_told : IfSome told IsDigestOf
    reads_told = subst (λ (o : Option (List ℕ)). IfSome o IsDigestOf) same reads

    pub told_digest : not (bytes_eq head.stored computed) ≡ true
        → IfSome told (λ held. IsDamageOf odd held (look.Damaged (record {
          index = 0;
          what = Digest head.stored computed;
        })))
    told_digest differs = if_both told (λ held. MaybeHeadOf odd held (Some head)) IsDigestOf
        (λ held. IsDamageOf odd held (look.Damaged (record { index = 0; what = Digest head.stored computed })))
        (λ held h r.
        look_damaged odd held (Digest head.stored computed) h.gate
        (ap (λ (l : Layout). first_fault (header_tests l odd held)) h.layout_is
        ∙ first_with (layout_of head) odd head held h computed (worked_out held h r) true differs)) heads reads_told

    pub told_sound : not (bytes_eq head.stored computed) ≡ false
        → IfSome told (λ held. MaybeSoundHeadOf odd held (Some head))
    told_sound equal = if_both told (λ held. MaybeHeadOf odd held (Some head)) IsDigestOf
        (λ held. MaybeSoundHeadOf odd held (Some head))
        (λ held h r. record {
          is_head = h;
          no_fault = first_with (layout_of head) odd head held h computed
              (worked_out held h r) false equal;
        }) heads reads_told

-- what is told of a sound header, and of its checkpoint and records
module _ (odd : Bool) (head : Head) (told : Option (List ℕ)) (sounds : IfSome told (λ held. MaybeSoundHeadOf odd held
    (Some head))) where
  -- the answer is what a look tells, or there is none
  abbrev Tells : Result Look LookFault → List ℕ → Type 0
  Tells answer_is held = (answer_is ≡ look_on odd held) ⊎ (answer_is ≡ Err look.DiskFault)

  pub told_look : IfSome told (Tells (Ok (answer.Open head.generation)))
  told_look = if_some told (λ held. MaybeSoundHeadOf odd held (Some head)) (Tells (Ok (answer.Open head.generation)))
      (λ held s. inl (sym (sound_looked odd held head s))) sounds

  -- why its checkpoint was not read: a device's fault, or no memory
  pub told_unread : (y : OpenWhy) → (y ≡ why.Absent → ⊥) → ((damage : Damage) → y ≡ why.Damaged damage → ⊥)
      → IfSome told (λ held. IsWhyOf odd held y)
  told_unread y not_absent not_damaged = if_some told (λ held. MaybeSoundHeadOf odd held (Some head))
      (λ held. IsWhyOf odd held y) (why_is y not_absent not_damaged) sounds
    where
      why_is : (v : OpenWhy) → (v ≡ why.Absent → ⊥) → ((damage : Damage) → v ≡ why.Damaged damage → ⊥) → (held : List ℕ)
          → IsSoundHeadOf odd held head → IsWhyOf odd held v
      why_is why.Absent not_absent_2 not_damaged_2 held s = absurd (not_absent_2 refl)
      why_is (why.Damaged damage) not_absent_2 not_damaged_2 held s = absurd (not_damaged_2 damage refl)
      why_is why.DiskFault not_absent_2 not_damaged_2 held s = tt
      why_is why.NoMemory not_absent_2 not_damaged_2 held s = (head.generation, sound_looked odd held head s)

  abbrev start_behind : ℕ
  start_behind = header_size (layout_of head) + head.size

  -- The checkpoint is read behind the header, and the records behind it.
  module _ (checkpoint : List ℕ) (header : ℕ) (known : header ≡ header_size (layout_of head))
      (mid : Option (List ℕ)) (first : mid ≡ told) (read : IfSome mid (IsReadBehind header head checkpoint))
      (now : Option (List ℕ)) (next : now ≡ mid) where
    reads : IfSome told (IsReadBehind (header_size (layout_of head)) head checkpoint)
    reads = subst (λ (n : ℕ). IfSome told (IsReadBehind n head checkpoint)) known
        (subst (λ (o : Option (List ℕ)). IfSome o (IsReadBehind header head checkpoint)) first read)

    still : now ≡ told
    still = next ∙ first

    record HeadIs (held : List ℕ) : Type 0 where
      headed_so : Headed (layout_of head) odd held head.generation checkpoint start_behind
      size_so : length checkpoint ≡ head.size
      limit_so : head.limit ≡ (layout_of head).limit

    head_is : IfSome told HeadIs
    head_is = if_both told (λ held. MaybeSoundHeadOf odd held (Some head)) (IsReadBehind (header_size (layout_of head))
        head checkpoint) HeadIs
        (λ held s r. record {
          headed_so = headed (layout_of head) odd head held s.is_head s.no_fault checkpoint r;
          size_so = size_is (layout_of head) odd head held s.is_head s.no_fault checkpoint r;
          limit_so = s.is_head.fields.limit;
        }) sounds reads

    pub told_scan : (s : Scanned) → s.generation ≡ head.generation → s.limit ≡ head.limit → s.start ≡ start_behind
        → s.checkpoint.items ≡ checkpoint → IfSome now (λ held. AreRecords head.generation start_behind held s.count)
        → IfSome told (λ held. IsScanOf odd held s)
    told_scan s generation limit start_2 bytes records_2 =
        if_both told HeadIs (λ held. AreRecords head.generation start_behind held s.count) (λ held. IsScanOf odd held s)
        scan_of head_is
        (subst (λ (o : Option (List ℕ)). IfSome o (λ held. AreRecords head.generation start_behind held s.count)) still
        records_2)
      where
        scan_of : (held : List ℕ) → HeadIs held → AreRecords head.generation start_behind held s.count
            → IsScanOf odd held s
        scan_of held h a = record {
          written = record {
            generation = head.generation;
            limit = head.limit;
            checkpoint = checkpoint;
            commands = a.commands;
          };
          found = found_behind_it (layout_of head) odd held head.generation checkpoint start_behind h.headed_so
              ∙ a.found (layout_of head).limit checkpoint
              ∙ ap (λ (l : ℕ). Open (record {
                generation = head.generation;
                limit = l;
                checkpoint = checkpoint;
                commands = a.commands;
              })) (sym h.limit_so);
          generation_is = sym generation;
          limit_is = sym limit;
          checkpoint_is = sym bytes;
          start_is = ap (λ (k : ℕ). header_size (layout_of head) + k) h.size_so ∙ sym start_2;
          count_is = a.counted;
        }

    pub told_record_fault : (y : LookFault) → IfSome now (λ held. IsFaultIn head.generation start_behind held y)
        → IfSome told (λ held. IsWhyOf odd held (why_of y))
    told_record_fault y fault_2 =
        if_both told HeadIs (λ held. IsFaultIn head.generation start_behind held y) (λ held. IsWhyOf odd held
        (why_of y)) (why_is y) head_is
        (subst (λ (o : Option (List ℕ)). IfSome o (λ held. IsFaultIn head.generation start_behind held y)) still
        fault_2)
      where
        why_is : (v : LookFault) (held : List ℕ) → HeadIs held → IsFaultIn head.generation start_behind held v
            → IsWhyOf odd held (why_of v)
        why_is look.DiskFault held h f = tt
        why_is (look.Damaged damage) held h f = found_behind_it (layout_of head) odd held head.generation checkpoint
            start_behind h.headed_so ∙ f (layout_of head).limit checkpoint

-- what a header that isn't open or is damaged is found to be
pub told_absent_header : (odd : Bool) (told : Option (List ℕ)) → IfSome told (λ held. MaybeSoundHeadOf odd held None)
    → IfSome told (λ held. IsWhyOf odd held why.Absent)
told_absent_header odd told is = if_some told (λ held. MaybeSoundHeadOf odd held None)
    (λ held. IsWhyOf odd held why.Absent) (found_absent odd) is

pub told_header_fault : (odd : Bool) (told : Option (List ℕ)) (y : LookFault)
    → IfSome told (λ held. IsDamageOf odd held y) → IfSome told (λ held. IsWhyOf odd held (why_of y))
told_header_fault odd told y is = if_some told (λ held. IsDamageOf odd held y) (λ held. IsWhyOf odd held (why_of y))
    (why_is y) is
  where
    why_is : (v : LookFault) (held : List ℕ) → IsDamageOf odd held v → IsWhyOf odd held (why_of v)
    why_is look.DiskFault held d = tt
    why_is (look.Damaged damage) held d = found_damaged odd held damage d
