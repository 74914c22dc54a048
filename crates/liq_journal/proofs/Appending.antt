-- What each write of an append leaves.
use Rattle.std.proofs.Common.{◌≡◌, ◌⊎◌, inl, inr, ⊎_elim, ℕ, zero, suc, ◌+◌, ◌*◌, ◌-◌, ◌<◌, ◌≤◌, List, [], ◌∷◌, ◌++◌, length, take, drop, get_or, Option, Some, None, option_map, IfSome, Ok, Err, Bool, false, not, if◌then◌else◌, refl, sym, ◌∙◌, ap, subst, arith, length-take, length-drop, length-append, append_assoc}
use Rattle.std.specs.Str.{bytes_eq}
use Rattle.std.proofs.lemmas.Slice.Eq.{bytes_eq-Decides}
use Rattle.std.proofs.lemmas.List.{take-take, take_at, drop_at, get_or-drop, drop-drop, append-nil, get_or-append_right}
use Rattle.liq_types.specs.declared.requests.Command.{Command}
use Rattle.liq_wire.specs.Fields.{command_of}
use Rattle.liq_outside.specs.At.{DiskAt}
use Rattle.liq_outside.specs.Disk.{Torn, overwritten, Only, LeftNow, LeavesOnly}
use Rattle.liq_outside.proofs.Moments.{weaker, at_last}
use Rattle.liq_outside.proofs.Steps.{torn_whole}
use Rattle.liq_journal.specs.Settled.{JournalOn, IsSettled}
use Rattle.liq_journal.specs.declared.damage.What.TheVariants.{Digest, Form}
use Rattle.liq_journal.specs.Records.{records}
use Rattle.liq_disk_header.specs.Layout.{piece}
use Rattle.liq_journal.specs.Written.{Written, Open, found_records, most_records, found_on, start_of, end_of, EndsWith, and_then, opened, record_on, command_from}
use Rattle.liq_disk_header.specs.RecordDigest.{record_digest}
use Rattle.liq_disk_header.proofs.Hashed.{length-record_digest}
use Rattle.liq_journal.specs.Crash.{Stands, BeforeOrAfter, GatedLeaves, IsBodyOf, gated}
use Rattle.liq_disk_header.specs.Header.{is_odd}
use Rattle.liq_journal.proofs.Reading.{records_whole, records_none, records_alike, is_whole, isnt_open, front_behind, byte_alike}
use Rattle.liq_journal.proofs.Heading.{is_open, header_decides, of_records, found_more}

-- a record read back
pub read_record : (generation index place : ℕ) (body digest : List ℕ) (command : Command) → length body ≡ 96
    → digest ≡ record_digest generation index body → IsBodyOf body command
    → record_on generation index place (body ++ digest) ≡ Ok command
unfolding record_on
read_record generation index place body digest command size stored of =
    let front : take 96 (body ++ digest) ≡ body = take_at body digest 96 size in
    let behind : drop 96 (body ++ digest) ≡ digest = drop_at body digest 96 size in
    let e : not (bytes_eq (drop 96 (body ++ digest)) (record_digest generation index (take 96 (body ++ digest))))
    ≡ false =
    ap (λ (l : List ℕ). not (bytes_eq l (record_digest generation index (take 96 (body ++ digest))))) behind
    ∙ ap (λ (l : List ℕ). not (bytes_eq digest (record_digest generation index l))) front
    ∙ equal digest (record_digest generation index body) stored in
    ap (λ (b : Bool). if b
    then Err (Digest (drop 96 (body ++ digest)) (record_digest generation index (take 96 (body ++ digest))))
    else command_from place (command_of (take 96 (body ++ digest)))) e
    ∙ ap (λ (l : List ℕ). command_from place (command_of l)) front
    ∙ ap (command_from place) of.spelled
    ∙ ap (λ (b : Bool). if b then Err (Form place) else Ok command) of.no_rotation
  where
    equal : (xs ys : List ℕ) → xs ≡ ys → not (bytes_eq xs ys) ≡ false
    equal xs ys is = grind (arith, bytes_eq-Decides)

module _ (odd : Bool) (held : List ℕ) (w : Written) (found : found_on odd held ≡ Open w) where
  abbrev start : ℕ
  start = start_of w

  abbrev count : ℕ
  count = length w.commands

  abbrev raws : List (List ℕ)
  raws = records most_records (drop start held)

  counted : length raws ≡ count
  counted = (of_records w.generation w.limit w.checkpoint 1 start raws w (is_open odd held w found).behind).count

  -- what is found where the same bytes stand up to the end
  read_on : (image : List ℕ) (most : ℕ) → most_records ≡ count + most → end_of w ≤ length held
      → take (end_of w) image ≡ take (end_of w) held
      → found_on odd image ≡ found_records w.generation w.limit w.checkpoint 1 start (raws
      ++ records most (drop (end_of w) image))
  read_on image most fuel there alike =
      let more = records_alike count most_records most (drop start held) (drop start image) fuel counted
      (front_behind start (129 * count) held image alike) in
      let at : drop (129 * count) (drop start image) ≡ drop (end_of w) image = drop-drop (129 * count) start image in
      header_decides odd held image w (end_of w) found (omega arith) there alike
      ∙ ap (found_records w.generation w.limit w.checkpoint 1 start) (more
      ∙ ap (λ (l : List ℕ). raws ++ records most l) at)

  gate_at : (image : List ℕ) → get_or (drop (end_of w) image) 0 0 ≡ get_or image (end_of w) 0
  gate_at image = get_or-drop (end_of w) image 0 0 ∙ (let e : end_of w + 0 ≡ end_of w = omega arith
      in ap (λ (n : ℕ). get_or image n 0) e)

  -- a gate that isn't open ends them
  pub held_on : (image : List ℕ) (most : ℕ) → most_records ≡ count + most → end_of w ≤ length held
      → take (end_of w) image ≡ take (end_of w) held → (get_or image (end_of w) 0 ≡ 1 → ⊥) → found_on odd image ≡ Open w
  held_on image most fuel there alike shut =
      read_on image most fuel there alike
      ∙ ap (λ (l : List (List ℕ)). found_records w.generation w.limit w.checkpoint 1 start (raws ++ l))
      (records_none most (drop (end_of w) image) (isnt_open (drop (end_of w) image) (λ is. shut (sym (gate_at image)
      ∙ is))))
      ∙ ap (found_records w.generation w.limit w.checkpoint 1 start) (append-nil raws)
      ∙ (is_open odd held w found).behind

  -- an open gate, a record and a closed gate
  pub one_more : (image : List ℕ) (most : ℕ) (command : Command) → most_records ≡ count + suc most
      → end_of w ≤ length held → take (end_of w) image ≡ take (end_of w) held → get_or image (end_of w) 0 ≡ 1
      → end_of w + 128 < length image
      → record_on w.generation (count + 1) (end_of w + 1) (piece (end_of w + 1) 128 image) ≡ Ok command
      → (get_or image (end_of w + 129) 0 ≡ 1 → ⊥) → found_on odd image ≡ Open (and_then w command)
  one_more image most command fuel there alike gate long read shut =
      let rest = drop (end_of w) image in
      let size = length-drop (end_of w) image in
      let whole = records_whole most rest (is_whole rest (gate_at image ∙ gate) (omega arith)) in
      let raw : take 128 (drop 1 rest) ≡ piece (end_of w + 1) 128 image =
      ap (take 128) (drop-drop 1 (end_of w) image) in
      let next : drop 129 rest ≡ drop (end_of w + 129) image = drop-drop 129 (end_of w) image in
      let shut_next : get_or (drop 129 rest) 0 0 ≡ 1 → ⊥ = λ is. shut (sym (ap (λ (l : List ℕ). get_or l 0 0) next
      ∙ get_or-drop (end_of w + 129) image 0 0 ∙ (let e : end_of w + 129 + 0 ≡ end_of w + 129 = omega arith
      in ap (λ (n : ℕ). get_or image n 0) e)) ∙ is) in
      let none = records_none most (drop 129 rest) (isnt_open (drop 129 rest) shut_next) in
      let at : start + 129 * length raws + 1 ≡ end_of w + 1 = omega (arith, counted) in
      let i : 1 + length raws ≡ count + 1 = omega (arith, counted) in
      let here : record_on w.generation (1 + length raws) (start + 129 * length raws + 1)
      (piece (end_of w + 1) 128 image) ≡ Ok command =
      ap (λ (n : ℕ). record_on w.generation n (start + 129 * length raws + 1) (piece (end_of w + 1) 128 image)) i
      ∙ ap (λ (n : ℕ). record_on w.generation (count + 1) n (piece (end_of w + 1) 128 image)) at ∙ read in
      read_on image (suc most) fuel there alike
      ∙ ap (λ (l : List (List ℕ)). found_records w.generation w.limit w.checkpoint 1 start (raws ++ l)) (whole
      ∙ (λ i. raw i ∷ none i))
      ∙ found_more w.generation w.limit w.checkpoint 1 start raws (piece (end_of w + 1) 128 image) w command
      (is_open odd held w found).behind here

-- an end with one command more
end_more : (w : Written) (command : Command) → end_of (and_then w command) ≡ end_of w + 129
end_more w command = let e = length-append w.commands (command ∷ []) in omega arith

module _ (odd : Bool) (held : List ℕ) (w : Written) (stands : Stands odd held w) (few : length w.commands
    < 1000000) where
  there : end_of w < length held
  there = stands.ended.there

  left : ℕ
  left = 1000000 - length w.commands

  fuel : most_records ≡ length w.commands + suc left
  unfolding left
  fuel = omega arith

  -- behind the closed gate, whatever stands there
  pub stage_left : (n : ℕ) (image : List ℕ) → Torn (end_of w + 1) n held image → Stands odd image w
  stage_left n image torn =
      let gate = byte_alike (end_of w + 1) held image torn.before (end_of w) (omega arith) ∙ stands.ended.is in
      let front : take (end_of w) image ≡ take (end_of w) held =
      sym (take-take (end_of w) (end_of w + 1) image (omega arith)) ∙ ap (take (end_of w)) torn.before
      ∙ take-take (end_of w) (end_of w + 1) held (omega arith) in
      record {
        found = held_on odd held w stands.found image (suc left) fuel (omega (arith, there)) front
            (λ is. let e = sym gate ∙ is in absurd (cc (e)));
        ended = record { there = omega (arith, torn.no_shorter, there); is = gate };
      }

  module _ (body digest : List ℕ) (command : Command) (size : length body ≡ 96) (digest_size : length digest
      ≡ 32) (stored : digest ≡ record_digest w.generation (length w.commands + 1) body) (of :
      IsBodyOf body command) where
    abbrev pub record_bytes : List ℕ
    record_bytes = (body ++ digest) ++ 0 ∷ []

    long_record : length record_bytes ≡ 129
    long_record = let a = length-append (body ++ digest) (0 ∷ []) in let b = length-append body digest in omega arith

    -- the record is there, behind the closed gate
    abbrev pub staged : List ℕ
    staged = overwritten held (end_of w + 1) record_bytes

    whole : Torn (end_of w + 1) (length record_bytes) held staged
    whole = torn_whole held (end_of w + 1) record_bytes (omega (arith, there))

    pub staged_stands : Stands odd staged w
    staged_stands = stage_left (length record_bytes) staged whole

    front_size : length (take (end_of w + 1) held) ≡ end_of w + 1
    front_size = length-take (end_of w + 1) held ∙ omega (arith, there)

    behind_staged : drop (end_of w + 1) staged ≡ record_bytes ++ drop (end_of w + 1 + length record_bytes) held
    behind_staged = ap (drop (end_of w + 1)) (append_assoc (take (end_of w + 1) held) record_bytes
        (drop (end_of w + 1 + length record_bytes) held)) ∙ drop_at (take (end_of w + 1) held) (record_bytes
        ++ drop (end_of w + 1 + length record_bytes) held) (end_of w + 1) front_size

    long_staged : end_of w + 130 ≤ length staged
    long_staged =
        let e = ap length behind_staged in
        let a = length-append record_bytes (drop (end_of w + 1 + length record_bytes) held) in
        let d = length-drop (end_of w + 1) staged in
        omega (arith, long_record)

    -- any byte at the gate
    module _ (image : List ℕ) (torn : Torn (end_of w) 1 staged image) where
      rest_is : drop (end_of w + 1) image ≡ record_bytes ++ drop (end_of w + 1 + length record_bytes) held
      rest_is = torn.behind ∙ behind_staged

      raw_is : piece (end_of w + 1) 128 image ≡ body ++ digest
      raw_is =
          let n = length-append body digest in
          ap (take 128) (rest_is ∙ append_assoc (body ++ digest) (0 ∷ []) (drop (end_of w + 1 + length record_bytes)
          held)) ∙ take_at (body ++ digest) (0 ∷ drop (end_of w + 1 + length record_bytes) held) 128 (omega arith)

      next_is : get_or image (end_of w + 129) 0 ≡ 0
      next_is =
          let n = length-append body digest in
          let e : end_of w + 129 ≡ end_of w + 1 + 128 = omega arith in
          ap (λ (k : ℕ). get_or image k 0) e ∙ sym (get_or-drop (end_of w + 1) image 128 0)
          ∙ ap (λ (l : List ℕ). get_or l 128 0) (rest_is
          ∙ append_assoc (body ++ digest) (0 ∷ []) (drop (end_of w + 1 + length record_bytes) held))
          ∙ get_or-append_right (body ++ digest) (0 ∷ drop (end_of w + 1 + length record_bytes) held) 128 128 0
          (omega arith) (omega arith)
          ∙ (let z : 128 - 128 ≡ 0 = refl
          in ap (λ (k : ℕ). get_or (0 ∷ drop (end_of w + 1 + length record_bytes) held) k 0) z)

      long_image : end_of w + 130 ≤ length image
      long_image = omega (arith, torn.no_shorter, long_staged)

      front_is : take (end_of w) image ≡ take (end_of w) staged
      front_is = torn.before

      pub ends_more : EndsWith 0 image (and_then w command)
      ends_more =
          let e = end_more w command in
          record { there = omega (arith, long_image); is = ap (λ (k : ℕ). get_or image k 0) e ∙ next_is }

      -- the gate is open
      pub after : get_or image (end_of w) 0 ≡ 1 → Stands odd image (and_then w command)
      after gate = record {
        found = one_more odd staged w staged_stands.found image left command fuel (omega (arith, long_staged)) front_is
            gate (omega (arith, long_image))
            (ap (record_on w.generation (length w.commands + 1) (end_of w + 1)) raw_is
            ∙ read_record w.generation (length w.commands + 1) (end_of w + 1) body digest command size stored of)
            (λ is. let e = sym next_is ∙ is in absurd (cc (e)));
        ended = ends_more;
      }

      -- the gate is not open
      pub before : (get_or image (end_of w) 0 ≡ 1 → ⊥) → found_on odd image ≡ Open w
      before shut = held_on odd staged w staged_stands.found image (suc left) fuel (omega (arith, long_staged))
          front_is shut

    -- the gate written over is a part of its write too
    reopened : (image : List ℕ) → Torn (end_of w) 1 staged image → Torn (end_of w) 1 staged (opened (end_of w) image)
    reopened image torn =
        let there_2 : end_of w ≤ length image = omega (arith, torn.no_shorter, long_staged) in
        let again = torn_whole image (end_of w) (1 ∷ []) there_2 in
        record {
          before = again.before ∙ torn.before;
          behind = again.behind ∙ torn.behind;
          no_shorter = omega (arith, again.no_shorter, torn.no_shorter);
          no_longer = omega (arith, again.no_longer, torn.no_longer);
        }

    open_gate : (image : List ℕ) → end_of w < length image → get_or (opened (end_of w) image) (end_of w) 0 ≡ 1
    open_gate image there_2 =
        let front : length (take (end_of w) image) ≡ end_of w = length-take (end_of w) image ∙ omega arith in
        ap (λ (l : List ℕ). get_or l (end_of w) 0) (append_assoc (take (end_of w) image) (1 ∷ [])
        (drop (end_of w + 1) image))
        ∙ get_or-append_right (take (end_of w) image) (1 ∷ drop (end_of w + 1) image) (end_of w) (end_of w) 0 front
        (omega arith)
        ∙ (let z : end_of w - end_of w ≡ 0 = omega arith
        in ap (λ (k : ℕ). get_or (1 ∷ drop (end_of w + 1) image) k 0) z)

    byte_cases : (n : ℕ) → (n ≡ 0) ⊎ ((n ≡ 1) ⊎ ((n ≡ 0 → ⊥) × (n ≡ 1 → ⊥)))
    byte_cases zero = inl refl
    byte_cases (suc zero) = inr (inl refl)
    byte_cases (suc (suc n)) = inr (inr ((λ is. absurd (omega arith)), (λ is. absurd (omega arith))))

    pub gate_left : (image : List ℕ) → Torn (end_of w) 1 staged image → BeforeOrAfter odd w command image
    gate_left image torn = elim (byte_cases (get_or image (end_of w) 0)) [
      | inl closed ↦ inl (record {
        found = before image torn (λ is. let e = sym closed ∙ is in absurd (cc (e)));
        ended = record { there = omega (arith, long_image image torn); is = closed };
      })
      | inr more ↦ elim more [
        | inl open_one ↦ inr (inr (after image torn open_one))
        | inr other ↦ inr (inl (record {
          found = before image torn other.1;
          opened = (after (opened (end_of w) image) (reopened image torn) (open_gate image (omega (
            arith,
            long_image image torn,
          )))).found;
          ended = ends_more image torn;
        }))
      ]
    ]

    -- both writes done
    pub appended : Stands odd (overwritten staged (end_of w) (1 ∷ [])) (and_then w command)
    appended = after (overwritten staged (end_of w) (1 ∷ [])) (torn_whole staged (end_of w) (1 ∷ []) (omega (
      arith,
      long_staged,
    ))) (open_gate staged (omega (arith, long_staged)))

-- what is known of the journal is what stands on the disk
pub record Agrees (generation start count : ℕ) (w : Written) : Type 0 where
  pub generation_is : w.generation ≡ generation
  pub start_is : start_of w ≡ start
  pub count_is : length w.commands ≡ count

agrees : (generation start count : ℕ) (held : List ℕ) (w : Written) → IsSettled generation start count held
    → Stands (is_odd generation) held w → Agrees generation start count w
agrees generation start count held w settled stands =
    let both : Open settled.written ≡ Open w = sym settled.stands.found ∙ stands.found in
    let same : settled.written ≡ w = cc (both) in
    subst (λ (v : Written). Agrees generation start count v) same (record {
      generation_is = settled.generation_is;
      start_is = settled.start_is;
      count_is = settled.count_is;
    })

module _ {D : Type 0} (at : D → DiskAt) (j : JournalOn D) (body record_of : List ℕ) where
  abbrev gate : ℕ
  gate = j.start + 129 * j.count

  -- the clauses of an append
  abbrev pub Crashes : D → Type 0
  Crashes new = (held : List ℕ) (w : Written) (command : Command) → (at j.disk).seen ≡ Some held
      → Only held (LeftNow at j.disk) → Stands (is_odd j.generation) held w → IsBodyOf body command
      → LeavesOnly at j.disk new (BeforeOrAfter (is_odd j.generation) w command)

  abbrev pub Appends : D → Type 0
  Appends new = (held : List ℕ) (w : Written) (command : Command) → (at j.disk).seen ≡ Some held
      → Stands (is_odd j.generation) held w → IsBodyOf body command → (after : List ℕ) × ((at new).seen ≡ Some after)
      × Stands (is_odd j.generation) after (and_then w command)

  -- the writes as they are told
  abbrev pub Gated : D → Type 0
  Gated new = (held : List ℕ) → (at j.disk).seen ≡ Some held → Only held (LeftNow at j.disk)
      → LeavesOnly at j.disk new (GatedLeaves gate held record_of)

  abbrev pub Reads : D → Type 0
  Reads new = (held after : List ℕ) (w : Written) (command : Command) → (at j.disk).seen ≡ Some held
      → Only held (LeftNow at j.disk) → Stands (is_odd j.generation) held w → IsBodyOf body command
      → (at new).seen ≡ Some after → BeforeOrAfter (is_odd j.generation) w command after

  pub reads : (new : D) → ((held : List ℕ) → (at new).seen ≡ Some held → LeftNow at new held) → Crashes new → Reads new
  reads new stays crashes held after w command told only stands of told_after =
      at_last at j.disk new (BeforeOrAfter (is_odd j.generation) w command) (crashes held w command told only stands of)
      after (stays after told_after)

  module _ (settled : IfSome (at j.disk).seen (IsSettled j.generation j.start j.count)) (few : j.count < 1000000) where
    known : (held : List ℕ) (w : Written) → (at j.disk).seen ≡ Some held → Stands (is_odd j.generation) held w
        → Agrees j.generation j.start j.count w
    known held w told stands = agrees j.generation j.start j.count held w (subst (λ (o : Option (List ℕ)). IfSome o
        (IsSettled j.generation j.start j.count)) told settled) stands

    gate_is : (w : Written) → Agrees j.generation j.start j.count w → end_of w ≡ gate
    gate_is w a = let s = a.start_is in let c = a.count_is in omega arith

    module _ (size : length body ≡ 96) (is : record_of ≡ (body ++ record_digest j.generation (j.count + 1) body) ++ 0
        ∷ []) (new : D) where
      stored : (w : Written) → Agrees j.generation j.start j.count w → record_digest j.generation (j.count + 1) body
          ≡ record_digest w.generation (length w.commands + 1) body
      stored w a = ap (λ (n : ℕ). record_digest n (j.count + 1) body) (sym a.generation_is)
          ∙ ap (λ (n : ℕ). record_digest w.generation (n + 1) body) (sym a.count_is)

      abbrev staged_of : List ℕ → Written → List ℕ
      staged_of held w = overwritten held (end_of w + 1) ((body ++ record_digest j.generation (j.count + 1) body)
          ++ 0 ∷ [])

      staged_is : (held : List ℕ) (w : Written) → Agrees j.generation j.start j.count w
          → overwritten held (gate + 1) record_of ≡ staged_of held w
      staged_is held w a =
          ap (λ (l : List ℕ). overwritten held (gate + 1) l) is
          ∙ ap (λ (n : ℕ). overwritten held (n + 1) ((body ++ record_digest j.generation (j.count + 1) body) ++ 0 ∷ []))
          (sym (gate_is w a))

      pub crashes : Gated new → Crashes new
      crashes leaves held w command told only stands of =
          let a = known held w told stands in
          let few_2 : length w.commands < 1000000 = let c = a.count_is in omega arith in
          weaker at j.disk new (GatedLeaves gate held record_of) (BeforeOrAfter (is_odd j.generation) w command)
          (leaves held told only)
          (λ image either. ⊎_elim
          (λ torn. inl (stage_left (is_odd j.generation) held w stands few_2 (length record_of) image
          (subst (λ (n : ℕ). Torn (n + 1) (length record_of) held image) (sym (gate_is w a)) torn)))
          (λ torn. gate_left (is_odd j.generation) held w stands few_2 body (record_digest j.generation
          (j.count + 1) body) command size (length-record_digest j.generation (j.count + 1) body)
          (stored w a) of image
          (subst (λ (l : List ℕ). Torn (end_of w) 1 l image) (staged_is held w a)
          (subst (λ (n : ℕ). Torn n 1 (overwritten held (gate + 1) record_of) image) (sym (gate_is w a)) torn)))
          either)

      pub appends : (at new).seen ≡ option_map (gated gate record_of) (at j.disk).seen → Appends new
      appends written held w command told stands of =
          let a = known held w told stands in
          let few_2 : length w.commands < 1000000 = let c = a.count_is in omega arith in (
            overwritten (staged_of held w) (end_of w) (1 ∷ []),
            written ∙ ap (option_map (gated gate record_of)) told
                ∙ (λ i. Some (overwritten (staged_is held w a i) (sym (gate_is w a) i) (1 ∷ []))),
            appended (is_odd j.generation) held w stands few_2 body (record_digest j.generation (j.count + 1) body)
                command size (length-record_digest j.generation (j.count + 1) body) (stored w a) of,
          )

      -- what is told then is settled again
      pub settles : (at new).seen ≡ option_map (gated gate record_of) (at j.disk).seen → (command : Command)
          → IsBodyOf body command → IfSome (at new).seen (IsSettled j.generation j.start (j.count + 1))
      settles written command of = elim (some_or_none (at j.disk).seen) [
        | inl none ↦
            let e : (at new).seen ≡ None = written ∙ ap (option_map (gated gate record_of)) none in
            subst (λ (o : Option (List ℕ)). IfSome o (IsSettled j.generation j.start (j.count + 1))) (sym e) tt
        | inr some ↦
            let s = subst (λ (o : Option (List ℕ)). IfSome o (IsSettled j.generation j.start j.count)) some.1 settled in
            let a = appends written some.0 s.written command some.1 s.stands of in
            let n = length-append s.written.commands (command ∷ []) in
            let c = s.count_is in
            subst (λ (o : Option (List ℕ)). IfSome o (IsSettled j.generation j.start (j.count + 1))) (sym a.1)
            (record {
              written = and_then s.written command;
              stands = a.2;
              generation_is = s.generation_is;
              start_is = s.start_is;
              count_is = omega arith;
            })
      ]
        where
          some_or_none : (o : Option (List ℕ)) → (o ≡ None) ⊎ ((held : List ℕ) × (o ≡ Some held))
          some_or_none None = inl refl
          some_or_none (Some held) = inr (held, refl)
