-- What a creation writes, and what a crash leaves of it.
use Rattle.std.proofs.Common.{◌≡◌, inl, inr, ℕ, ◌+◌, ◌<◌, ◌≤◌, ◌^◌, List, [], ◌∷◌, ◌++◌, length, take, drop, get_or, Option, Some, None, option_map, IfSome, IsSome, rules, Bool, true, false, not, nat_lt, refl, sym, ◌∙◌, ap, subst, arith, length-take, length-drop, length-append, append_assoc, take-append-drop}
use Rattle.std.specs.Str.{bytes_eq}
use Rattle.std.proofs.lemmas.Bool.Decides.{nat_tests}
use Rattle.std.proofs.lemmas.Slice.Eq.{bytes_eq-Decides}
use Rattle.std.proofs.lemmas.List.{take-take, take_at, drop_at, get_or-drop, drop-drop}
use Rattle.byteorder.specs.Endian.{big_bytes, big_number}
use Rattle.byteorder.specs.Numbers.{big_number-reads_back}
use Rattle.liq_types.specs.declared.amounts.TheConstants.{LIM}
use Rattle.liq_wire.specs.Fields.{number_at}
use Rattle.liq_outside.specs.At.{DiskAt}
use Rattle.liq_outside.specs.Disk.{Torn, overwritten, Only, LeftNow, LeavesOnly, Elapses, Follows}
use Rattle.liq_outside.proofs.Moments.{chained, weaker, at_last, call}
use Rattle.liq_journal.specs.Records.{records}
use Rattle.liq_disk_header.specs.Layout.{Layout, IsVersion, version_2, layout_named, fields_size, header_size, piece, name_on, generation_on, size_on, own_on, fields_on, stored_on, start_on, checkpoint_on, header_digest, digest_on, header_of, fields_of}
use Rattle.liq_journal.specs.Written.{Written, header_tests, found_records, most_records, start_of, end_of, opened}
use Rattle.liq_disk_header.specs.Header.{is_generation, is_size, is_odd}
use Rattle.liq_journal.specs.Crash.{CrashOfCreate, CreateLeaves, HasGate, IsShut, ReadsOfCreate, SettleLeaves, Stands, beginning, filled}
use Rattle.liq_journal.proofs.Reading.{records_none, isnt_open}
use Rattle.liq_journal.proofs.Heading.{Headed, found_behind_it, no_fault}
use Rattle.liq_disk_header.proofs.Hashed.{length-header_digest}
use Rattle.liq_disk_header.proofs.Versions.{is_version_2}

-- behind place 0 a shut gate stays
pub shut_stays : (at n : ℕ) (held image : List ℕ) → 1 ≤ at → IsShut held → Torn at n held image → IsShut image
shut_stays at n held image behind shut torn =
    sym (take-take 1 at image behind) ∙ ap (take 1) torn.before ∙ take-take 1 at held behind ∙ shut

pub write_leaves_shut : {D : Type 0} (at : D → DiskAt) (old new : D) (place n : ℕ)
    → 1 ≤ place → Elapses at old new → Follows (Torn place n) (LeftNow at old) (LeftNow at new)
    → ((image : List ℕ) → LeftNow at old image → IsShut image) → LeavesOnly at old new IsShut
write_leaves_shut at old new place n behind time follows shut =
    call at old new IsShut time shut (λ image left. let from = follows image left
    in shut_stays place n from.0 image behind (shut from.0 from.1) from.2)

-- a write behind a front
over_front : (front back bytes : List ℕ) (at : ℕ) → length front ≡ at → overwritten (front ++ back) at bytes
    ≡ front ++ bytes ++ drop (length bytes) back
over_front front back bytes at size =
    let a : take at (front ++ back) ≡ front = take_at front back at size in
    let b : drop (at + length bytes) (front ++ back) ≡ drop (length bytes) back =
    sym (drop-drop (length bytes) at (front ++ back)) ∙ ap (drop (length bytes)) (drop_at front back at size) in
    (λ i. a i ++ bytes ++ b i)

-- a header that is written, of a version that meets what it has to
module _ (layout : Layout) (version : IsVersion layout) (generation : ℕ) (checkpoint : List ℕ) where
  abbrev size : ℕ
  size = length checkpoint

  abbrev fields : List ℕ
  fields = fields_of layout generation size

  abbrev header : List ℕ
  header = header_of layout generation checkpoint

  length-fields : length fields ≡ fields_size layout
  length-fields =
      let a = length-append layout.name (big_bytes 8 generation) in
      let b = length-append (layout.name ++ big_bytes 8 generation) (big_bytes 8 size) in
      let d = length-append (layout.name ++ big_bytes 8 generation ++ big_bytes 8 size) layout.own in
      omega (arith, version.named)

  length-header : 1 + length header ≡ header_size layout
  length-header = let e = length-append fields (header_digest fields checkpoint)
      in let d = length-header_digest fields checkpoint in let f = length-fields in omega arith

  abbrev rest_of : List ℕ → List ℕ
  rest_of held = drop 1 (drop size (drop (length header) (drop 1 held)))

  abbrev front : List ℕ
  front = ((0 ∷ []) ++ header) ++ checkpoint

  length-front : length front ≡ header_size layout + size
  length-front = let a = length-append ((0 ∷ []) ++ header) checkpoint in let h = length-header in omega arith

  filled_is : (held : List ℕ) → IsShut held → filled layout generation checkpoint held ≡ front ++ (0 ∷ [])
      ++ rest_of held
  filled_is held shut =
      let parts : held ≡ (0 ∷ []) ++ drop 1 held = sym (take-append-drop 1 held)
      ∙ ap (λ (l : List ℕ). l ++ drop 1 held) shut in
      let h = length-header in
      let one : overwritten held 1 header ≡ ((0 ∷ []) ++ header) ++ drop (length header) (drop 1 held) =
      ap (λ (l : List ℕ). overwritten l 1 header) parts ∙ over_front (0 ∷ []) (drop 1 held) header 1 refl in
      let two : overwritten (overwritten held 1 header) (header_size layout) checkpoint
      ≡ front ++ drop size (drop (length header) (drop 1 held)) =
      ap (λ (l : List ℕ). overwritten l (header_size layout) checkpoint) one
      ∙ over_front ((0 ∷ []) ++ header) (drop (length header) (drop 1 held)) checkpoint (header_size layout)
      (omega arith) in
      ap (λ (l : List ℕ). overwritten l (header_size layout + size) (0 ∷ [])) two
      ∙ over_front front (drop size (drop (length header) (drop 1 held))) (0 ∷ []) (header_size layout + size)
      length-front

  abbrev digest : List ℕ
  digest = header_digest fields checkpoint

  -- with the gate open
  abbrev created : List ℕ → List ℕ
  created rest = 1 ∷ (fields ++ (digest ++ (checkpoint ++ (0 ∷ rest))))

  created_is : (held : List ℕ) → IsShut held → opened 0 (filled layout generation checkpoint held)
      ≡ created (rest_of held)
  created_is held shut =
      ap (opened 0) (filled_is held shut)
      ∙ ap (λ (l : List ℕ). 1 ∷ l) (append_assoc (header ++ checkpoint) (0 ∷ []) (rest_of held)
      ∙ append_assoc header checkpoint (0 ∷ rest_of held)
      ∙ append_assoc fields digest (checkpoint ++ (0 ∷ rest_of held)))

  module _ (small : generation < 2 ^ 64) (small_size : size < 2 ^ 64) (rest : List ℕ) where
    abbrev behind : List ℕ
    behind = digest ++ (checkpoint ++ (0 ∷ rest))

    fields_there : drop 1 (created rest) ≡ layout.name ++ (big_bytes 8 generation ++ (big_bytes 8 size
        ++ (layout.own ++ behind)))
    fields_there =
        append_assoc (layout.name ++ big_bytes 8 generation ++ big_bytes 8 size) layout.own behind
        ∙ append_assoc (layout.name ++ big_bytes 8 generation) (big_bytes 8 size) (layout.own ++ behind)
        ∙ append_assoc layout.name (big_bytes 8 generation) (big_bytes 8 size ++ (layout.own ++ behind))

    behind_name : drop 9 (created rest) ≡ big_bytes 8 generation ++ (big_bytes 8 size ++ (layout.own ++ behind))
    behind_name = sym (drop-drop 8 1 (created rest)) ∙ ap (drop 8) fields_there
        ∙ drop_at layout.name (big_bytes 8 generation ++ (big_bytes 8 size ++ (layout.own ++ behind))) 8 version.named

    behind_generation : drop 17 (created rest) ≡ big_bytes 8 size ++ (layout.own ++ behind)
    behind_generation = sym (drop-drop 8 9 (created rest)) ∙ ap (drop 8) behind_name

    behind_size : drop 25 (created rest) ≡ layout.own ++ behind
    behind_size = sym (drop-drop 8 17 (created rest)) ∙ ap (drop 8) behind_generation

    behind_fields : drop (1 + fields_size layout) (created rest) ≡ behind
    behind_fields = sym (drop-drop (fields_size layout) 1 (created rest))
        ∙ drop_at fields behind (fields_size layout) length-fields

    behind_header : drop (header_size layout) (created rest) ≡ checkpoint ++ (0 ∷ rest)
    behind_header =
        (let e : header_size layout ≡ 1 + fields_size layout + 32 = omega arith
        in ap (λ (n : ℕ). drop n (created rest)) e)
        ∙ sym (drop-drop 32 (1 + fields_size layout) (created rest)) ∙ ap (drop 32) behind_fields
        ∙ drop_at digest (checkpoint ++ (0 ∷ rest)) 32 (length-header_digest fields checkpoint)

    behind_checkpoint : drop (header_size layout + size) (created rest) ≡ 0 ∷ rest
    behind_checkpoint = sym (drop-drop size (header_size layout) (created rest)) ∙ ap (drop size) behind_header
        ∙ drop_at checkpoint (0 ∷ rest) size refl

    reads_name : name_on (created rest) ≡ layout.name
    reads_name = ap (take 8) fields_there
        ∙ take_at layout.name (big_bytes 8 generation ++ (big_bytes 8 size ++ (layout.own ++ behind))) 8 version.named

    reads_generation : generation_on (created rest) ≡ generation
    unfolding number_at
    reads_generation = ap (big_number 8) behind_name ∙ big_number-reads_back 8 generation (big_bytes 8 size
        ++ (layout.own ++ behind)) small

    reads_size : size_on (created rest) ≡ size
    unfolding number_at
    reads_size = ap (big_number 8) behind_generation ∙ big_number-reads_back 8 size (layout.own ++ behind) small_size

    reads_own : own_on layout (created rest) ≡ layout.own
    reads_own = ap (take (length layout.own)) behind_size ∙ take_at layout.own behind (length layout.own) refl

    reads_fields : fields_on layout (created rest) ≡ fields
    reads_fields = take_at fields behind (fields_size layout) length-fields

    reads_stored : stored_on layout (created rest) ≡ digest
    reads_stored = ap (take 32) behind_fields ∙ take_at digest (checkpoint ++ (0 ∷ rest)) 32
        (length-header_digest fields checkpoint)

    reads_checkpoint : checkpoint_on layout (created rest) ≡ checkpoint
    reads_checkpoint = ap (λ (n : ℕ). piece (header_size layout) n (created rest)) reads_size
        ∙ ap (take size) behind_header ∙ take_at checkpoint (0 ∷ rest) size refl

    long : header_size layout + size < length (created rest)
    long = let e = ap length behind_checkpoint in let d = length-drop (header_size layout + size) (created rest)
        in omega arith

    starts : start_on layout (created rest) ≡ header_size layout + size
    starts = ap (λ (n : ℕ). header_size layout + n) reads_size

    created_headed : (odd : Bool) → is_generation odd generation ≡ true → is_size generation size ≡ true
        → Headed layout odd (created rest) generation checkpoint (header_size layout + size)
    created_headed odd fits fits_size = record {
      layout_is = ap layout_named reads_name ∙ version.by_name;
      gate = (let l = long in grind (arith, nat_tests));
      tests = no_fault (header_tests layout odd (created rest)) (
        equal (name_on (created rest)) layout.name reads_name,
        (
          ap (λ (n : ℕ). not (is_generation odd n)) reads_generation ∙ ap not fits,
          (
            (λ i. not (is_size (reads_generation i) (reads_size i))) ∙ ap not fits_size,
            (
              equal (own_on layout (created rest)) layout.own reads_own,
              (
                not_short (created rest) (start_on layout (created rest)) (let s = starts in let l = long
                    in omega arith),
                (
                  equal (stored_on layout (created rest)) (digest_on layout (created rest)) (reads_stored
                      ∙ (λ i. header_digest (sym reads_fields i) (sym reads_checkpoint i))),
                  tt,
                ),
              ),
            ),
          ),
        ),
      );
      generation_is = reads_generation;
      checkpoint_is = reads_checkpoint;
      start_is = starts;
      long = let l = long in omega arith;
    }
      where
        equal : (xs ys : List ℕ) → xs ≡ ys → not (bytes_eq xs ys) ≡ false
        equal xs ys is = grind (arith, bytes_eq-Decides)

        not_short : (l : List ℕ) (n : ℕ) → n ≤ length l → nat_lt (length l) n ≡ false
        not_short l n le = grind (arith, nat_tests)

    no_records : records most_records (drop (header_size layout + size) (created rest)) ≡ []
    no_records = ap (records most_records) behind_checkpoint
        ∙ records_none most_records (0 ∷ rest) (isnt_open (0 ∷ rest) (λ is. absurd (cc (is))))

    shut_behind : get_or (created rest) (header_size layout + size) 0 ≡ 0
    shut_behind = (let z : header_size layout + size ≡ header_size layout + size + 0 = omega arith
        in ap (λ (n : ℕ). get_or (created rest) n 0) z)
        ∙ sym (get_or-drop (header_size layout + size) (created rest) 0 0)
        ∙ ap (λ (l : List ℕ). get_or l 0 0) behind_checkpoint

-- what was filled stands once its gate is opened
module _ (generation : ℕ) (checkpoint : List ℕ) (small : generation < 2 ^ 64) (small_size : length checkpoint
    < 2 ^ 64) (odd : Bool) (fits : is_generation odd generation ≡ true) (fits_size :
    is_size generation (length checkpoint) ≡ true) where
  abbrev new : Written
  new = beginning generation checkpoint

  created_stands : (rest : List ℕ) → Stands odd (created version_2 is_version_2 generation checkpoint rest) new
  created_stands rest =
      let e : end_of new ≡ start_of new = omega arith in
      let l = long version_2 is_version_2 generation checkpoint small small_size rest in
      record {
        found = found_behind_it version_2 odd (created version_2 is_version_2 generation checkpoint rest) generation
            checkpoint (start_of new) (created_headed version_2 is_version_2 generation checkpoint small small_size rest
            odd fits fits_size)
            ∙ ap (found_records generation LIM checkpoint 1 (start_of new))
            (no_records version_2 is_version_2 generation checkpoint small small_size rest);
        ended = record {
          there = omega arith;
          is = ap (λ (n : ℕ). get_or (created version_2 is_version_2 generation checkpoint rest) n 0) e
              ∙ shut_behind version_2 is_version_2 generation checkpoint small small_size rest;
        };
      }

  pub filled_stands : (held : List ℕ) → IsShut held
      → Stands odd (opened 0 (filled version_2 generation checkpoint held)) new
  filled_stands held shut = subst (λ (l : List ℕ). Stands odd l new)
      (sym (created_is version_2 is_version_2 generation checkpoint held shut))
      (created_stands (rest_of version_2 is_version_2 generation checkpoint held))

-- what a creation leaves, part by part
module _ (odd : Bool) (held : List ℕ) (w : Written) where
  pub of_shutting : (image : List ℕ) → SettleLeaves 0 held image → CreateLeaves odd held w image
  of_shutting image leaves = inr (inl leaves)

  pub of_filling : (image : List ℕ) → IsShut image → CreateLeaves odd held w image
  of_filling image shut = inl (inr (some_byte image shut, first_zero image shut))
    where
      some_byte : (l : List ℕ) → IsShut l → 0 < length l
      some_byte [] is = absurd (cc (is))
      some_byte (x ∷ l) is = omega arith

      first_zero : (l : List ℕ) → IsShut l → get_or l 0 0 ≡ 0
      first_zero [] is = refl
      first_zero (x ∷ l) is = cc

  pub of_opening : (before image : List ℕ) → Stands odd (opened 0 before) w → Torn 0 1 before image
      → CreateLeaves odd held w image
  of_opening before image stands torn =
      inr (inr (subst (λ (l : List ℕ). Stands odd (1 ∷ l) w) (sym torn.behind) stands))

-- a shut gate at place 0
pub gate_shut : (told : Option (List ℕ)) → IfSome told (HasGate 0) → IfSome told IsShut
gate_shut None gate = tt
gate_shut (Some []) gate = absurd (let n = gate.there in omega arith)
gate_shut (Some (x ∷ held)) gate = ap (λ (n : ℕ). n ∷ []) gate.shut

pub some_of : (o : Option (List ℕ)) → IsSome o → (x : List ℕ) × (o ≡ Some x)
some_of None is = absurd (search rules)
some_of (Some x) is = (x, refl)

pub some_is : (o : Option (List ℕ)) (x : List ℕ) → o ≡ Some x → IsSome o
some_is o x is = let s : IsSome (Some x) = search rules in subst (λ (p : Option (List ℕ)). IsSome p) (sym is) s

-- how long a disk is after a write
pub long_after : (o new : Option (List ℕ)) (at n : ℕ) (bytes : List ℕ)
    → new ≡ option_map (λ held. overwritten held at bytes) o → IfSome o (λ held. at ≤ length held)
    → n ≡ at + length bytes → IfSome new (λ held. n ≤ length held)
long_after None new at n bytes is inside so = subst (λ (o : Option (List ℕ)). IfSome o (λ held. n ≤ length held))
    (sym is) tt
long_after (Some held) new at n bytes is inside so =
    let long : n ≤ length (overwritten held at bytes) = simp (length-append, length-take, length-drop) (omega arith) in
    subst (λ (o : Option (List ℕ)). IfSome o (λ l. n ≤ length l)) (sym is) long

-- three writes behind one another
module _ (layout : Layout) (generation : ℕ) (checkpoint : List ℕ) where
  abbrev checkpoint_put : List ℕ → List ℕ
  checkpoint_put held = overwritten held (header_size layout) checkpoint

  abbrev gate_put : List ℕ → List ℕ
  gate_put held = overwritten held (header_size layout + length checkpoint) (0 ∷ [])

  put_all : (header_2 : List ℕ) (o : Option (List ℕ)) → header_2 ≡ header_of layout generation checkpoint
      → option_map gate_put (option_map checkpoint_put (option_map (λ held. overwritten held 1 header_2) o))
      ≡ option_map (filled layout generation checkpoint) o
  put_all header_2 None is = refl
  put_all header_2 (Some held) is = ap (λ (h : List ℕ). Some (gate_put (checkpoint_put (overwritten held 1 h)))) is

  pub filled_told : (header_2 : List ℕ) (o a b d : Option (List ℕ)) → header_2 ≡ header_of layout generation checkpoint
      → a ≡ option_map (λ held. overwritten held 1 header_2) o → b ≡ option_map checkpoint_put a
      → d ≡ option_map gate_put b → d ≡ option_map (filled layout generation checkpoint) o
  filled_told header_2 o a b d is ia ib id = id ∙ ap (option_map gate_put) (ib ∙ ap (option_map checkpoint_put) ia)
      ∙ put_all header_2 o is

module _ {D : Type 0} (at : D → DiskAt) where
  pub shut_on : (old mid new : D) → LeavesOnly at old mid IsShut → (((image : List ℕ) → LeftNow at mid image
      → IsShut image) → LeavesOnly at mid new IsShut) → LeavesOnly at old new IsShut
  shut_on old mid new first second = chained at old mid new IsShut first (second (at_last at old mid IsShut first))

  pub only_shut : (disk : D) (told : Option (List ℕ)) → IfSome told IsShut
      → IfSome told (λ after. Only after (LeftNow at disk)) → IsSome told → (image : List ℕ) → LeftNow at disk image
      → IsShut image
  only_shut disk None shut only is image left = absurd (search rules)
  only_shut disk (Some held) shut only is image left = subst IsShut (sym (only image left)) shut

  -- the whole of a creation
  module _ (old mid full new : D) (held : List ℕ) (generation : ℕ) (checkpoint : List ℕ) where
    abbrev Leaves : List ℕ → Type 0
    Leaves = CreateLeaves (is_odd generation) held (beginning generation checkpoint)

    pub after_shut : LeavesOnly at old mid (SettleLeaves 0 held) → LeavesOnly at old mid Leaves
    after_shut first = weaker at old mid (SettleLeaves 0 held) Leaves first (of_shutting (is_odd generation) held
        (beginning generation checkpoint))

    pub after_fill : LeavesOnly at old mid (SettleLeaves 0 held) → LeavesOnly at mid full IsShut
        → LeavesOnly at old full Leaves
    after_fill first second = chained at old mid full Leaves (after_shut first) (weaker at mid full IsShut Leaves second
        (of_filling (is_odd generation) held (beginning generation checkpoint)))

    module _ (small : generation < 2 ^ 64) (small_size : length checkpoint
        < 2 ^ 64) (fits : is_generation (is_odd generation) generation ≡ true) (fits_size :
        is_size generation (length checkpoint) ≡ true) (shut : IfSome (at mid).seen IsShut) (is : IsSome (at mid).seen)
        (written : (at full).seen ≡ option_map (filled version_2 generation checkpoint) (at mid).seen) where
      pub full_is : (s : List ℕ) × (IsShut s × ((at full).seen ≡ Some (filled version_2 generation checkpoint s)))
      full_is =
          let s = some_of (at mid).seen is in (
            s.0,
            (
              subst (λ (o : Option (List ℕ)). IfSome o IsShut) s.1 shut,
              written
                  ∙ ap (option_map (filled version_2 generation checkpoint)) s.1,
            ),
          )

      pub stands_then : (s : List ℕ) → IsShut s
          → Stands (is_odd generation) (opened 0 (filled version_2 generation checkpoint s))
          (beginning generation checkpoint)
      stands_then s shut_s = filled_stands generation checkpoint small small_size (is_odd generation) fits fits_size
          s shut_s

      pub after_open : LeavesOnly at old full Leaves → IfSome (at full).seen (λ after. Only after (LeftNow at full))
          → ((f : List ℕ) → (at full).seen ≡ Some f → Only f (LeftNow at full) → LeavesOnly at full new (Torn 0 1 f))
          → LeavesOnly at old new Leaves
      after_open first durable third =
          let f = full_is in
          let told = f.1.1 in
          let only = subst (λ (o : Option (List ℕ)). IfSome o (λ after. Only after (LeftNow at full))) told durable in
          chained at old full new Leaves first (weaker at full new
          (Torn 0 1 (filled version_2 generation checkpoint f.0)) Leaves
          (third (filled version_2 generation checkpoint f.0) told only)
          (λ image torn. of_opening (is_odd generation) held (beginning generation checkpoint)
          (filled version_2 generation checkpoint f.0) image (stands_then f.0 f.1.0) torn))

      pub made : (at new).seen ≡ option_map (λ l. overwritten l 0 (1 ∷ [])) (at full).seen → (after : List ℕ)
          × ((at new).seen ≡ Some after) × Stands (is_odd generation) after (beginning generation checkpoint)
      made gate = let f = full_is in (
        opened 0 (filled version_2 generation checkpoint f.0),
        gate
            ∙ ap (option_map (λ (l : List ℕ). overwritten l 0 (1 ∷ []))) f.1.1,
        stands_then f.0 f.1.0,
      )

  -- what is read at the end is what a crash may leave then
  pub reads_then : (old new : D) (generation : ℕ) (checkpoint : List ℕ) → ((held : List ℕ) → (at new).seen ≡ Some held
      → LeftNow at new held) → CrashOfCreate at old new generation checkpoint
      → ReadsOfCreate at old new generation checkpoint
  reads_then old new generation checkpoint stays crash held after told only told_after =
      at_last at old new (CreateLeaves (is_odd generation) held (beginning generation checkpoint))
      (crash held told only) after (stays after told_after)
