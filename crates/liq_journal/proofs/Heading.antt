-- How a header decides what stands behind it, and which bytes decide a header.
use Rattle.std.proofs.Common.{◌≡◌, ℕ, suc, ◌+◌, ◌*◌, ◌≤◌, List, [], ◌∷◌, ◌++◌, length, take, drop, Option, Some, None, Result, Ok, Err, Bool, true, false, not, nat_lt, if◌then◌else◌, refl, sym, ◌∙◌, ap, subst, arith, length-take, length-drop}
use Rattle.std.specs.Str.{bytes_eq}
use Rattle.std.proofs.lemmas.Bool.Decides.{nat_tests}
use Rattle.liq_types.specs.Image.{IsLimit}
use Rattle.liq_types.specs.declared.requests.Command.{Command}
use Rattle.liq_wire.specs.Fields.{first_place}
use Rattle.liq_journal.specs.declared.damage.What.{What}
use Rattle.liq_journal.specs.declared.damage.What.TheVariants.{Form}
use Rattle.liq_journal.specs.Records.{records}
use Rattle.liq_disk_header.specs.Layout.{Layout, layout_with, layout_named, layout_on, fields_size, header_size, least_header, piece, generation_on, size_on, start_on, checkpoint_on, header_digest}
use Rattle.liq_disk_header.specs.Header.{is_generation, is_size, is_absent}
use Rattle.liq_journal.specs.Written.{first_fault, forms_then, header_tests, record_on, Written, Found, Absent, Damaged, Open, with_command, found_record, found_records, found_behind, most_records, found_in, found_on, and_then, start_of}
use Rattle.liq_disk_header.proofs.Versions.{one_version}
use Rattle.liq_journal.proofs.Reading.{piece_alike, byte_alike, length_alike, number_alike}

abbrev pub AreFalse : List (Bool × What) → Type 0
AreFalse [] = Unit {0}
AreFalse (test ∷ tests) = (test.0 ≡ false) × AreFalse tests

first_false : (b : Bool) (what : What) (others : Option What) → (if b then Some what else others) ≡ None → (b ≡ false)
    × (others ≡ None)
first_false true what others is = absurd (cc)
first_false false what others is = (refl, is)

pub are_false : (tests : List (Bool × What)) → first_fault tests ≡ None → AreFalse tests
are_false [] is = tt
are_false (test ∷ tests) is = let first = first_false test.0 test.1 (first_fault tests) is
    in (first.0, are_false tests first.1)

pub no_fault : (tests : List (Bool × What)) → AreFalse tests → first_fault tests ≡ None
no_fault [] false_all = refl
no_fault (test ∷ tests) (first, rest) = ap (λ (b : Bool). if b then Some test.1 else first_fault tests) first
    ∙ no_fault tests rest

-- the first field that is wrong is the first fault
pub form_found : (tests : List (Bool × ℕ)) (rest : List (Bool × What)) (place : ℕ) → first_place tests ≡ Some place
    → first_fault (forms_then tests rest) ≡ Some (Form place)
form_found [] rest place is = absurd (cc (is))
form_found ((true, at) ∷ tests) rest place is = cc (is)
form_found ((false, at) ∷ tests) rest place is = form_found tests rest place is

-- where none is, the first fault is behind them
pub forms_fit : (tests : List (Bool × ℕ)) (rest : List (Bool × What)) → first_place tests ≡ None
    → first_fault (forms_then tests rest) ≡ first_fault rest
forms_fit [] rest is = refl
forms_fit ((true, at) ∷ tests) rest is = absurd (cc (is))
forms_fit ((false, at) ∷ tests) rest is = forms_fit tests rest is

-- an open header of this version with no fault
pub record Headed (layout : Layout) (odd : Bool) (bytes : List ℕ) (generation : ℕ) (checkpoint : List ℕ) (start : ℕ) :
    Type 0 where
  pub layout_is : layout_on bytes ≡ layout
  pub gate : is_absent bytes ≡ false
  pub tests : first_fault (header_tests layout odd bytes) ≡ None
  pub generation_is : generation_on bytes ≡ generation
  pub checkpoint_is : checkpoint_on layout bytes ≡ checkpoint
  pub start_is : start_on layout bytes ≡ start
  pub long : start ≤ length bytes

found_headed : (layout : Layout) (odd : Bool) (bytes : List ℕ) (generation : ℕ) (checkpoint : List ℕ) (start : ℕ)
    → Headed layout odd bytes generation checkpoint start → found_in layout odd bytes
    ≡ found_records generation layout.limit checkpoint 1 start (records most_records (drop start bytes))
found_headed layout odd bytes generation checkpoint start h =
    ap (λ (b : Bool). if b then Absent
    else found_behind layout bytes (first_fault (header_tests layout odd bytes))) h.gate
    ∙ ap (found_behind layout bytes) h.tests
    ∙ (λ i. found_records (h.generation_is i) layout.limit (h.checkpoint_is i) 1 (h.start_is i) (records most_records
    (drop (h.start_is i) bytes)))

pub found_behind_it : (layout : Layout) (odd : Bool) (bytes : List ℕ) (generation : ℕ) (checkpoint : List ℕ) (start : ℕ)
    → Headed layout odd bytes generation checkpoint start
    → found_on odd bytes ≡ found_records generation layout.limit checkpoint 1 start (records most_records
    (drop start bytes))
unfolding found_on
found_behind_it layout odd bytes generation checkpoint start headed =
    ap (λ (l : Layout). found_in l odd bytes) headed.layout_is
    ∙ found_headed layout odd bytes generation checkpoint start headed

-- what was found open
pub record RecordOpen (index : ℕ) (read : Result Command What) (rest : Found) (w : Written) : Type 0 where
  pub command : Command
  pub others : Written
  pub is : read ≡ Ok command
  pub behind : rest ≡ Open others
  pub together : w ≡ record others { commands = command ∷ others.commands }

pub record_open : (index : ℕ) (read : Result Command What) (rest : Found) (w : Written) → found_record index read rest
    ≡ Open w → RecordOpen index read rest w
record_open index (Err what) rest w is = absurd (cc)
record_open index (Ok command) Absent w is = absurd (cc)
record_open index (Ok command) (Damaged damage) w is = absurd (cc)
record_open index (Ok command) (Open others) w is = record {
  command = command;
  others = others;
  is = refl;
  behind = refl;
  together = cc;
}

pub record OfRecords (generation limit : ℕ) (checkpoint : List ℕ) (raws : List (List ℕ)) (w : Written) : Type 0 where
  pub generation_is : w.generation ≡ generation
  pub limit_is : w.limit ≡ limit
  pub checkpoint_is : w.checkpoint ≡ checkpoint
  pub count : length raws ≡ length w.commands

pub of_records : (generation limit : ℕ) (checkpoint : List ℕ) (index place : ℕ) (raws : List (List ℕ)) (w : Written)
    → found_records generation limit checkpoint index place raws ≡ Open w → OfRecords generation limit checkpoint raws w
of_records generation limit checkpoint index place [] w is =
    let e : record { generation = generation; limit = limit; checkpoint = checkpoint; commands = [] } ≡ w = cc in
    subst (λ (v : Written). OfRecords generation limit checkpoint [] v) e (record {
      generation_is = refl;
      limit_is = refl;
      checkpoint_is = refl;
      count = refl;
    })
of_records generation limit checkpoint index place (raw ∷ raws) w is =
    let o = record_open index (record_on generation index (place + 1) raw) (found_records generation limit checkpoint
    (index + 1) (place + 129) raws) w is in
    let rest = of_records generation limit checkpoint (index + 1) (place + 129) raws o.others o.behind in
    subst (λ (v : Written). OfRecords generation limit checkpoint (raw ∷ raws) v) (sym o.together)
    (record {
      generation_is = rest.generation_is;
      limit_is = rest.limit_is;
      checkpoint_is = rest.checkpoint_is;
      count = ap suc rest.count;
    })

-- one record more
pub found_more : (generation limit : ℕ) (checkpoint : List ℕ) (index place : ℕ) (raws : List (List ℕ)) (raw : List ℕ)
    (w : Written) (command : Command) → found_records generation limit checkpoint index place raws ≡ Open w
    → record_on generation (index + length raws) (place + 129 * length raws + 1) raw ≡ Ok command
    → found_records generation limit checkpoint index place (raws ++ raw ∷ []) ≡ Open (and_then w command)
found_more generation limit checkpoint index place [] raw w command is read =
    let e : record { generation = generation; limit = limit; checkpoint = checkpoint; commands = [] } ≡ w = cc in
    let i : index ≡ index + 0 = omega arith in
    let p : place + 1 ≡ place + 129 * 0 + 1 = omega arith in
    let here : record_on generation index (place + 1) raw ≡ Ok command =
    ap (λ (n : ℕ). record_on generation n (place + 1) raw) i
    ∙ ap (λ (n : ℕ). record_on generation (index + 0) n raw) p ∙ read in
    ap (λ (r : Result Command What). found_record index r (Open (record {
      generation = generation;
      limit = limit;
      checkpoint = checkpoint;
      commands = [];
    }))) here ∙ ap (λ (v : Written). Open (and_then v command)) e
found_more generation limit checkpoint index place (first ∷ raws) raw w command is read =
    let o = record_open index (record_on generation index (place + 1) first) (found_records generation limit checkpoint
    (index + 1) (place + 129) raws) w is in
    let i : index + 1 + length raws ≡ index + suc (length raws) = omega arith in
    let p : place + 129 + 129 * length raws + 1 ≡ place + 129 * suc (length raws) + 1 = omega arith in
    let here : record_on generation (index + 1 + length raws) (place + 129 + 129 * length raws + 1) raw ≡ Ok command =
    ap (λ (n : ℕ). record_on generation n (place + 129 + 129 * length raws + 1) raw) i
    ∙ ap (λ (n : ℕ). record_on generation (index + suc (length raws)) n raw) p ∙ read in
    let rest = found_more generation limit checkpoint (index + 1) (place + 129) raws raw o.others command o.behind here
    in
    ap (λ (r : Result Command What). found_record index r (found_records generation limit checkpoint (index + 1)
    (place + 129) (raws ++ raw ∷ []))) o.is ∙ ap (with_command o.command) rest
    ∙ ap (λ (v : Written). Open (and_then v command)) (sym o.together)

pub record IsOpen (layout : Layout) (odd : Bool) (bytes : List ℕ) (w : Written) (start : ℕ) : Type 0 where
  pub headed : Headed layout odd bytes w.generation w.checkpoint start
  pub limit_is : w.limit ≡ layout.limit
  pub behind : found_records w.generation w.limit w.checkpoint 1 start (records most_records (drop start bytes))
      ≡ Open w

module _ (layout : Layout) (odd : Bool) (bytes : List ℕ) (w : Written) where
  found_cases : (b : Bool) (fault : Option What) → (if b then Absent else found_behind layout bytes fault) ≡ Open w
      → (b ≡ false) × ((fault ≡ None) × (found_behind layout bytes None ≡ Open w))
  found_cases true fault is = absurd (cc)
  found_cases false (Some what) is = absurd (cc)
  found_cases false None is = (refl, (refl, is))

  open_in : layout_on bytes ≡ layout → found_in layout odd bytes ≡ Open w
      → IsOpen layout odd bytes w (header_size layout + length w.checkpoint)
  open_in layout_is is =
      let cases = found_cases (is_absent bytes) (first_fault (header_tests layout odd bytes)) is in
      let all = are_false (header_tests layout odd bytes) cases.1.0 in
      let long : start_on layout bytes ≤ length bytes = let e = all.1.1.1.1.0 in grind (arith, nat_tests) in
      let of = of_records (generation_on bytes) layout.limit (checkpoint_on layout bytes) 1 (start_on layout bytes)
      (records most_records (drop (start_on layout bytes) bytes)) w cases.1.1 in
      let size : length w.checkpoint ≡ size_on bytes = ap length of.checkpoint_is
      ∙ length-take (size_on bytes) (drop (header_size layout) bytes)
      ∙ (let l = length-drop (header_size layout) bytes in omega (arith, l, long)) in
      let start : start_on layout bytes ≡ header_size layout + length w.checkpoint =
      ap (λ (n : ℕ). header_size layout + n) (sym size) in
      record {
        headed = record {
          layout_is = layout_is;
          gate = cases.0;
          tests = cases.1.0;
          generation_is = sym of.generation_is;
          checkpoint_is = sym of.checkpoint_is;
          start_is = start;
          long = subst (λ (n : ℕ). n ≤ length bytes) start long;
        };
        limit_is = of.limit_is;
        behind = (λ i. found_records (of.generation_is i) (of.limit_is i) (of.checkpoint_is i) 1 (sym start i)
            (records most_records (drop (sym start i) bytes))) ∙ cases.1.1;
      }

pub is_open : (odd : Bool) (bytes : List ℕ) (w : Written) → found_on odd bytes ≡ Open w
    → IsOpen (layout_on bytes) odd bytes w (start_of w)
unfolding found_on
is_open odd bytes w is =
    let o = open_in (layout_on bytes) odd bytes w refl is in
    let same : layout_on bytes ≡ layout_with w.limit = sym (one_version bytes).by_limit
    ∙ ap layout_with (sym o.limit_is) in
    subst (IsOpen (layout_on bytes) odd bytes w) (ap (λ (l : Layout). header_size l + length w.checkpoint) same) o

-- and its limit is one of two
pub has_limit : (odd : Bool) (bytes : List ℕ) (w : Written) → found_on odd bytes ≡ Open w → IsLimit w.limit
has_limit odd bytes w found = subst IsLimit (sym (is_open odd bytes w found).limit_is) (one_version bytes).limit

-- an open disk's generation is one that it may have
pub has_generation : (odd : Bool) (bytes : List ℕ) (w : Written) → found_on odd bytes ≡ Open w
    → is_generation odd w.generation ≡ true
has_generation odd bytes w found =
    let headed = (is_open odd bytes w found).headed in
    let all = are_false (header_tests (layout_on bytes) odd bytes) headed.tests in
    ap (is_generation odd) (sym headed.generation_is) ∙ is_true (is_generation odd (generation_on bytes)) all.1.0
  where
    is_true : (b : Bool) → not b ≡ false → b ≡ true
    is_true true is = refl
    is_true false is = absurd (cc (is))

pub absent_found : (odd : Bool) (bytes : List ℕ) → is_absent bytes ≡ true → found_on odd bytes ≡ Absent
unfolding found_on
absent_found odd bytes is = ap (λ (b : Bool). if b then Absent
    else found_behind (layout_on bytes) bytes (first_fault (header_tests (layout_on bytes) odd bytes))) is

-- the same bytes up to its end are the same header
module _ (layout : Layout) (odd : Bool) (held image : List ℕ) (generation : ℕ) (checkpoint : List ℕ) (start m : ℕ)
    (h : Headed layout odd held generation checkpoint start) (within : start ≤ m) (alike : take m image ≡ take m held)
    (there : m ≤ length held) where
  at_least : header_size layout ≤ m
  at_least = omega (arith, h.start_is, within)

  same_piece : (place count : ℕ) → place + count ≤ header_size layout → piece place count image ≡ piece place count held
  same_piece place count fits = piece_alike m held image alike place count (omega (arith, at_least, fits))

  same_layout : layout_on image ≡ layout
  same_layout = ap layout_named (same_piece 1 8 (omega arith)) ∙ h.layout_is

  same_generation : generation_on image ≡ generation_on held
  same_generation = number_alike m held image alike 9 8 (omega (arith, at_least))

  same_size : size_on image ≡ size_on held
  same_size = number_alike m held image alike 17 8 (omega (arith, at_least))

  same_start : start_on layout image ≡ start
  same_start = ap (λ (n : ℕ). header_size layout + n) same_size ∙ h.start_is

  same_checkpoint : checkpoint_on layout image ≡ checkpoint_on layout held
  same_checkpoint = ap (λ (n : ℕ). piece (header_size layout) n image) same_size
      ∙ piece_alike m held image alike (header_size layout) (size_on held) (omega (arith, h.start_is, within))

  long_image : m ≤ length image
  long_image = length_alike m held image alike there

  same_absent : is_absent image ≡ false
  same_absent =
      let gate = byte_alike m held image alike 0 (omega (arith, at_least)) in
      let was = h.gate in
      let long : least_header ≤ length image = omega (arith, long_image, at_least) in
      grind (arith, nat_tests)

  same_tests : first_fault (header_tests layout odd image) ≡ None
  same_tests =
      let all = are_false (header_tests layout odd held) h.tests in
      let long : nat_lt (length image) (start_on layout image) ≡ false = let e = same_start in let l = long_image
      in grind (arith, nat_tests) in
      no_fault (header_tests layout odd image) (
        ap (λ (l : List ℕ). not (bytes_eq l layout.name)) (same_piece 1 8 (omega arith)) ∙ all.0,
        (
          ap (λ (g : ℕ). not (is_generation odd g)) same_generation ∙ all.1.0,
          (
            (λ i. not (is_size (same_generation i) (same_size i))) ∙ all.1.1.0,
            (
              ap (λ (l : List ℕ). not (bytes_eq l layout.own)) (same_piece 25 (length layout.own) (omega arith))
                  ∙ all.1.1.1.0,
              (
                long,
                (
                  (λ i. not (bytes_eq (same_piece (1 + fields_size layout) 32 (omega arith) i)
                      (header_digest (same_piece 1 (fields_size layout) (omega arith) i) (same_checkpoint i))))
                      ∙ all.1.1.1.1.1.0,
                  tt,
                ),
              ),
            ),
          ),
        ),
      )

  headed_alike : Headed layout odd image generation checkpoint start
  headed_alike = record {
    layout_is = same_layout;
    gate = same_absent;
    tests = same_tests;
    generation_is = same_generation ∙ h.generation_is;
    checkpoint_is = same_checkpoint ∙ h.checkpoint_is;
    start_is = same_start;
    long = omega (arith, long_image, within);
  }

-- of bytes that begin as an open journal does, up to its records, their records decide what is found
pub header_decides : (odd : Bool) (held image : List ℕ) (w : Written) (m : ℕ) → found_on odd held ≡ Open w
    → start_of w ≤ m → m ≤ length held → take m image ≡ take m held
    → found_on odd image ≡ found_records w.generation w.limit w.checkpoint 1 (start_of w) (records most_records
    (drop (start_of w) image))
header_decides odd held image w m found within there alike =
    let o = is_open odd held w found in
    found_behind_it (layout_on held) odd image w.generation w.checkpoint (start_of w)
    (headed_alike (layout_on held) odd held image w.generation w.checkpoint (start_of w) m o.headed within alike there)
    ∙ ap (λ (limit : ℕ). found_records w.generation limit w.checkpoint 1 (start_of w) (records most_records
    (drop (start_of w) image))) (sym o.limit_is)
