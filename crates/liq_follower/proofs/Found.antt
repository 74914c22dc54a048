-- What is found behind a whole journal, and of a beginning of one.
use Rattle.std.proofs.Common.{◌≡◌, inl, inr, ℕ, zero, suc, ◌+◌, ◌*◌, ◌-◌, ◌≤◌, List, [], ◌∷◌, ◌++◌, length, take, drop, get_or, Result, Ok, Err, Bool, true, false, refl, sym, ◌∙◌, ap, arith, length-append}
use Rattle.std.specs.Prelude.{◌&&◌, ◌==◌, nat_lt, nat_le}
use Rattle.std.specs.Str.{bytes_eq}
use Rattle.std.proofs.lemmas.Bool.{cases_Bool}
use Rattle.std.proofs.lemmas.Bool.Decides.{nat_tests}
use Rattle.std.proofs.lemmas.List.{append-nil, drop-append-le, drop_all, drop_at, drop-drop, take-append-le, take_all, take_at}
use Rattle.liq_types.specs.declared.requests.Command.{Command}
use Rattle.liq_journal.specs.declared.damage.What.{What}
use Rattle.liq_disk_header.specs.Layout.{generation_on, header_size, layout_named, layout_on, name_on}
use Rattle.liq_journal.specs.Records.{begins_whole, records}
use Rattle.liq_journal.specs.Written.{Damaged, Open, Written, and_then, end_of, found_on, found_record, found_records, most_records, record_on, start_of, with_command}
use Rattle.liq_journal.proofs.Heading.{IsOpen, found_more, header_decides, is_open, of_records, record_open}
use Rattle.liq_journal.proofs.Reading.{byte_alike, front_behind, is_whole, isnt_long, number_alike, piece_alike, records_alike, records_none, records_whole, records_zero, whole_gate, whole_long}
use Rattle.liq_follower.specs.Fed.{has_header, is_turned}

pub both : (gate n m : ℕ) → gate ≡ 1 → n ≤ m → ((gate == 1) && nat_le n m) ≡ true
both gate n m one long = grind (arith, nat_tests)

pub turned_by : (bytes : List ℕ)
    → is_turned bytes ≡ (has_header bytes && (bytes_eq (name_on bytes) (layout_on bytes).name && nat_lt 1
    (generation_on bytes)))
unfolding is_turned
turned_by bytes = refl

pub first_unturned : (bytes : List ℕ) → generation_on bytes ≡ 1 → is_turned bytes ≡ false
first_unturned bytes first = turned_by bytes ∙ by (has_header bytes) (bytes_eq (name_on bytes) (layout_on bytes).name)
  where
    last : nat_lt 1 (generation_on bytes) ≡ false
    last = ap (nat_lt 1) first

    by : (a b : Bool) → (a && (b && nat_lt 1 (generation_on bytes))) ≡ false
    by true true = last
    by true false = refl
    by false b = refl

-- ---- records

-- the record behind these is the first that is none
found_bad : (generation limit : ℕ) (checkpoint : List ℕ) (index place : ℕ) (raws : List (List ℕ)) (raw : List ℕ)
    (w : Written) (fault : What)
    → found_records generation limit checkpoint index place raws ≡ Open w
    → record_on generation (index + length raws) (place + 129 * length raws + 1) raw ≡ Err fault
    → found_records generation limit checkpoint index place (raws ++ raw ∷ [])
    ≡ Damaged (record { index = index + length raws; what = fault })
found_bad generation limit checkpoint index place [] raw w fault is read =
    let i : index ≡ index + 0 = omega arith in
    let p : place + 1 ≡ place + 129 * 0 + 1 = omega arith in
    let here : record_on generation index (place + 1) raw ≡ Err fault =
    ap (λ (n : ℕ). record_on generation n (place + 1) raw) i ∙ ap (λ (n : ℕ). record_on generation (index + 0) n raw) p
    ∙ read in
    ap (λ (r : Result Command What). found_record index r (found_records generation limit checkpoint (index + 1)
    (place + 129) [])) here
    ∙ ap (λ (n : ℕ). Damaged (record { index = n; what = fault })) i
found_bad generation limit checkpoint index place (first ∷ raws) raw w fault is read =
    let o = record_open index (record_on generation index (place + 1) first) (found_records generation limit checkpoint
    (index + 1) (place + 129) raws) w is in
    let i : index + 1 + length raws ≡ index + suc (length raws) = omega arith in
    let p : place + 129 + 129 * length raws + 1 ≡ place + 129 * suc (length raws) + 1 = omega arith in
    let here : record_on generation (index + 1 + length raws) (place + 129 + 129 * length raws + 1) raw ≡ Err fault =
    ap (λ (n : ℕ). record_on generation n (place + 129 + 129 * length raws + 1) raw) i
    ∙ ap (λ (n : ℕ). record_on generation (index + suc (length raws)) n raw) p ∙ read in
    let rest = found_bad generation limit checkpoint (index + 1) (place + 129) raws raw o.others fault o.behind here in
    ap (λ (r : Result Command What). found_record index r (found_records generation limit checkpoint (index + 1)
    (place + 129) (raws ++ raw ∷ []))) o.is
    ∙ ap (with_command o.command) rest
    ∙ ap (λ (n : ℕ). Damaged (record { index = n; what = fault })) i

-- the records of a beginning are the first ones
pub records_front : (fuel : ℕ) (xs ys : List ℕ) → (more : List (List ℕ))
    × (records fuel (xs ++ ys) ≡ records fuel xs ++ more)
records_front zero xs ys = ([], records_zero (xs ++ ys) ∙ sym (ap (λ (l : List (List ℕ)). l ++ []) (records_zero xs)))
records_front (suc fuel) xs ys = elim (cases_Bool (begins_whole xs)) [
  | inr none ↦ (
    records (suc fuel) (xs ++ ys),
    sym (ap (λ (l : List (List ℕ)). l ++ records (suc fuel) (xs ++ ys)) (records_none (suc fuel) xs none)),
  )
  | inl whole ↦
      let n = length-append xs ys in
      let l = whole_long xs whole in
      let alike : take 129 (xs ++ ys) ≡ take 129 xs = take-append-le 129 xs ys (omega (arith, l)) in
      let gate : get_or (xs ++ ys) 0 0 ≡ 1 = byte_alike 129 xs (xs ++ ys) alike 0 (omega arith) ∙ whole_gate xs whole in
      let raw : take 128 (drop 1 (xs ++ ys)) ≡ take 128 (drop 1 xs) = piece_alike 129 xs (xs ++ ys) alike 1 128
      (omega arith) in
      let d : drop 129 (xs ++ ys) ≡ drop 129 xs ++ ys = drop-append-le 129 xs ys (omega (arith, l)) in
      let rest = records_front fuel (drop 129 xs) ys in (
        rest.0,
        records_whole fuel (xs ++ ys) (is_whole (xs ++ ys) gate (omega (arith, n, l)))
            ∙ (λ i. raw i ∷ records fuel (d i))
            ∙ ap (λ (m : List (List ℕ)). take 128 (drop 1 xs) ∷ m) rest.1
            ∙ ap (λ (m : List (List ℕ)). m ++ rest.0) (sym (records_whole fuel xs whole)),
      )
]

-- so many of the records are open with the first commands
pub record FrontOf (generation limit : ℕ) (checkpoint : List ℕ) (index place : ℕ) (raws : List (List ℕ)) (w : Written) :
    Type 0 where
  pub written : Written
  pub found : found_records generation limit checkpoint index place raws ≡ Open written
  pub commands : written.commands ≡ take (length raws) w.commands

pub found_front : (generation limit : ℕ) (checkpoint : List ℕ) (index place : ℕ) (raws more : List (List ℕ))
    (w : Written)
    → found_records generation limit checkpoint index place (raws ++ more) ≡ Open w
    → FrontOf generation limit checkpoint index place raws w
found_front generation limit checkpoint index place [] more w is = record {
  written = record { generation = generation; limit = limit; checkpoint = checkpoint; commands = [] };
  found = refl;
  commands = refl;
}
found_front generation limit checkpoint index place (raw ∷ raws) more w is =
    let o = record_open index (record_on generation index (place + 1) raw) (found_records generation limit checkpoint
    (index + 1) (place + 129) (raws ++ more)) w is in
    let rest = found_front generation limit checkpoint (index + 1) (place + 129) raws more o.others o.behind in
    record {
      written = record rest.written { commands = o.command ∷ rest.written.commands };
      found = ap (λ (r : Result Command What). found_record index r (found_records generation limit checkpoint
          (index + 1) (place + 129) raws)) o.is
          ∙ ap (with_command o.command) rest.found;
      commands = ap (λ (cs : List Command). o.command ∷ cs) rest.commands
          ∙ ap (λ (u : Written). take (suc (length raws)) u.commands) (sym o.together);
    }

-- ---- behind a whole journal

module _ (front : List ℕ) (w : Written) (found : found_on true front ≡ Open w) (ends : length front
    ≡ end_of w) (few : length w.commands ≤ 1000000) where
  abbrev raws : List (List ℕ)
  raws = records most_records (drop (start_of w) front)

  o : IsOpen (layout_on front) true front w (start_of w)
  o = is_open true front w found

  counted : length raws ≡ length w.commands
  counted = (of_records w.generation w.limit w.checkpoint 1 (start_of w) raws w o.behind).count

  front_open : get_or front 0 0 ≡ 1
  front_open = let absent = o.headed.gate in grind (arith, nat_tests)

  header_within : header_size (layout_on front) ≤ end_of w
  header_within = let s = o.headed.start_is in omega arith

  module _ (rest : List ℕ) where
    abbrev bytes : List ℕ
    bytes = front ++ rest

    alike : take (end_of w) bytes ≡ take (end_of w) front
    alike = take_at front rest (end_of w) ends ∙ sym (take_all (end_of w) front (omega arith))

    behind : drop (end_of w) bytes ≡ rest
    behind = drop_at front rest (end_of w) ends

    pub long : length bytes ≡ end_of w + length rest
    long = length-append front rest ∙ ap (λ (n : ℕ). n + length rest) ends

    -- what is found, by the records of the front and those behind it
    read_on : (most : ℕ) → most_records ≡ length w.commands + most
        → found_on true bytes ≡ found_records w.generation w.limit w.checkpoint 1 (start_of w) (raws
        ++ records most rest)
    read_on most fuel =
        let n = 129 * length w.commands in
        let more = records_alike (length w.commands) most_records most (drop (start_of w) front)
        (drop (start_of w) bytes) fuel counted (front_behind (start_of w) n front bytes alike) in
        let at : drop n (drop (start_of w) bytes) ≡ rest = drop-drop n (start_of w) bytes ∙ behind in
        header_decides true front bytes w (end_of w) found (omega arith) (omega arith) alike
        ∙ ap (found_records w.generation w.limit w.checkpoint 1 (start_of w)) (more
        ∙ ap (λ (l : List ℕ). raws ++ records most l) at)

    -- where no whole record begins there, it is what it is without them
    pub stays_open : begins_whole rest ≡ false → found_on true bytes ≡ Open w
    stays_open none =
        let left = 1000001 - length w.commands in
        read_on left (omega arith)
        ∙ ap (λ (l : List (List ℕ)). found_records w.generation w.limit w.checkpoint 1 (start_of w) (raws ++ l))
        (records_none left rest none)
        ∙ ap (found_records w.generation w.limit w.checkpoint 1 (start_of w)) (append-nil raws)
        ∙ o.behind

    same_layout : layout_on bytes ≡ layout_on front
    same_layout = ap layout_named (piece_alike (end_of w) front bytes alike 1 8 (omega arith))

    pub open_gate : get_or bytes 0 0 ≡ 1
    open_gate = byte_alike (end_of w) front bytes alike 0 (omega arith) ∙ front_open

    pub has : has_header bytes ≡ true
    has = both (get_or bytes 0 0) (header_size (layout_on bytes)) (length bytes) open_gate
        (let l = ap header_size same_layout in let n = long in let h = header_within in omega arith)

    pub same_generation : generation_on bytes ≡ w.generation
    same_generation = number_alike (end_of w) front bytes alike 9 8 (omega arith) ∙ o.headed.generation_is

  -- ---- one record more

  module _ (raw : List ℕ) (size : length raw ≡ 128) (index : ℕ) (next : index ≡ 1 + length w.commands) where
    abbrev record_is : List ℕ
    record_is = 1 ∷ raw

    records_are : (left : ℕ) → records (suc left) record_is ≡ raw ∷ []
    records_are left =
        let first : take 128 (drop 1 record_is) ≡ raw = take_all 128 raw (omega arith) in
        let nothing : drop 129 record_is ≡ [] = drop_all 129 record_is (omega arith) in
        let none : records left (drop 129 record_is) ≡ [] = ap (records left) nothing
        ∙ records_none left [] (isnt_long [] (omega arith)) in
        records_whole left record_is (is_whole record_is refl (omega arith)) ∙ (λ i. first i ∷ none i)

    read_more : found_on true (front ++ record_is) ≡ found_records w.generation w.limit w.checkpoint 1 (start_of w)
        (raws ++ raw ∷ [])
    read_more =
        let left = 1000000 - length w.commands in
        read_on record_is (suc left) (omega arith)
        ∙ ap (λ (l : List (List ℕ)). found_records w.generation w.limit w.checkpoint 1 (start_of w) (raws ++ l))
        (records_are left)

    index_is : 1 + length raws ≡ index
    index_is = let c = counted in omega arith

    abbrev place : ℕ
    place = start_of w + 129 * length raws + 1

    here : record_on w.generation (1 + length raws) place raw ≡ record_on w.generation index place raw
    here = ap (λ (n : ℕ). record_on w.generation n place raw) index_is

    pub found_next : (c : Command) → ((at : ℕ) → record_on w.generation index at raw ≡ Ok c)
        → found_on true (front ++ record_is) ≡ Open (and_then w c)
    found_next c read = read_more ∙ found_more w.generation w.limit w.checkpoint 1 (start_of w) raws raw w c o.behind
        (here ∙ read place)

    pub found_none : ((at : ℕ) → (fault : What) × (record_on w.generation index at raw ≡ Err fault))
        → (fault : What) × (found_on true (front ++ record_is) ≡ Damaged (record { index = index; what = fault }))
    found_none read =
        let bad = read place in (
          bad.0,
          read_more
              ∙ found_bad w.generation w.limit w.checkpoint 1 (start_of w) raws raw w bad.0 o.behind (here ∙ bad.1)
              ∙ ap (λ (n : ℕ). Damaged (record { index = n; what = bad.0 })) index_is,
        )
