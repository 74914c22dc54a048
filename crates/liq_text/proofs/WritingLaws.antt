-- Words written one after the other.
use Rattle.std.proofs.Common.{Option, Some, None, Result, Ok, Err, cond, inl, suc, ◌≡◌, ℕ, ◌+◌, ◌*◌, ◌-◌, ◌<◌, ◌≤◌, List, [], ◌∷◌, ◌++◌, length, get_or, set, take, drop, refl, sym, ap, ◌∙◌, append_assoc, drop-cons, add-one, mul-le-mul_right, ◌^◌, lit<, arith}
use Rattle.std.specs.Prelude.{decimal, map, is_ok, OnOk}
use Rattle.std.specs.List.{join_with_byte, AllByRecursion}
use Rattle.std.proofs.lemmas.Fmt.{length-decimal-le_wide}
use Rattle.std.proofs.lemmas.List.{append-nil, drop-set, take_all}
use Rattle.std.proofs.Math.ListN.{drop_of_length-le}
use Rattle.liq_types.specs.declared.requests.Request.{Request}
use Rattle.liq_types.specs.declared.hints.HintWords.{HintWords}
use Rattle.liq_text.specs.Spelling.{Word, text, account, number, hint, SpellEach, request_words, CanBeHint, HasSpelling, AppendsLine}
use Rattle.liq_text.specs.Writing.{spaced, words_line, written, piece_of, hint_words, IsInRange}

-- ---- a loop over numbers

pub spaced_next : {A : Type 0} (written : A → List ℕ) (out next : List ℕ) (numbers : List A) (i : ℕ) (n : A)
    (whole : List ℕ) → i < length numbers → n ≡ get_or numbers i n → next ≡ out ++ (32 ∷ written n)
    → out ++ spaced (map written (drop i numbers)) ≡ whole → next ++ spaced (map written (drop (i + 1) numbers)) ≡ whole
spaced_next {A} written out next numbers i n whole lt item e so_far =
    let cut : drop i numbers ≡ n ∷ drop (i + 1) numbers =
    rw (add-one, drop-cons numbers i n) (ap (λ (x : A). x ∷ drop (suc i) numbers) (sym item)) in
    ap (λ (x : List ℕ). x ++ spaced (map written (drop (i + 1) numbers))) e
    ∙ append_assoc out (32 ∷ written n) (spaced (map written (drop (i + 1) numbers)))
    ∙ ap (λ (ns : List A). out ++ spaced (map written ns)) (sym cut)
    ∙ so_far

pub spaced_end : {A : Type 0} (written : A → List ℕ) (out : List ℕ) (numbers : List A) (i : ℕ) (whole : List ℕ)
    → length numbers ≤ i → out ++ spaced (map written (drop i numbers)) ≡ whole → out ≡ whole
spaced_end {A} written out numbers i whole le e =
    let none : drop i numbers ≡ [] = drop_of_length-le numbers le in
    sym (append-nil out) ∙ ap (λ (ns : List A). out ++ spaced (map written ns)) (sym none) ∙ e

pub next_times : (i w : ℕ) → (i + 1) * w ≡ i * w + w
next_times i w = grind arith

-- the room of one more of n numbers of at most w bytes, i of which are written
pub room_for : (len room n i w : ℕ) → i < n → len + n * w ≤ room + i * w → len + w ≤ room
room_for len room n i w lt left =
    let more : (i + 1) * w ≤ n * w = mul-le-mul_right w (omega arith) in
    omega (arith, next_times i w, more)

-- ---- numbers written from the last to the first

pub number_short : (n : ℕ) → n < 2 ^ 64 → length (decimal n) ≤ 20
number_short n small = length-decimal-le_wide 20 n (lit< tt) (omega (arith, small)) (omega (arith, small))

pub nothing_behind : (buf numbers : List ℕ) (end all : ℕ) → length buf ≤ end → length numbers ≤ all
    → drop end buf ≡ spaced (map decimal (drop all numbers))
nothing_behind buf numbers end all over behind = drop_of_length-le buf over
    ∙ ap (λ (ns : List ℕ). spaced (map decimal ns)) (sym (drop_of_length-le numbers behind))

pub put_before : (old buf : List ℕ) (behind start at left i : ℕ) (numbers : List ℕ) → i + 1 ≡ left
    → left ≤ length numbers → drop behind old ≡ spaced (map decimal (drop left numbers))
    → drop start buf ≡ decimal (get_or numbers i 0) ++ drop behind old → at + 1 ≡ start → at < length buf
    → drop at (set buf at 32) ≡ spaced (map decimal (drop i numbers))
put_before old buf behind start at left i numbers next within so_far written step room =
    let lt : i < length numbers = omega arith in
    let cut : drop i numbers ≡ get_or numbers i 0 ∷ drop (i + 1) numbers = rw (add-one, drop-cons numbers i 0) refl in
    let whole : drop i numbers ≡ get_or numbers i 0 ∷ drop left numbers = cut
    ∙ ap (λ (k : ℕ). get_or numbers i 0 ∷ drop k numbers) next in
    let front : drop (at + 1) buf ≡ decimal (get_or numbers i 0) ++ spaced (map decimal (drop left numbers)) =
    ap (λ (k : ℕ). drop k buf) step ∙ written ∙ ap (λ (t : List ℕ). decimal (get_or numbers i 0) ++ t) so_far in
    drop-set buf at 32 room ∙ ap (λ (t : List ℕ). 32 ∷ t) front ∙ ap (λ (ns : List ℕ). spaced (map decimal ns))
    (sym whole)

-- ---- joined words

pub join_spaced : (piece : List ℕ) (pieces : List (List ℕ)) → join_with_byte 32 (piece ∷ pieces)
    ≡ piece ++ spaced pieces
join_spaced piece [] = sym (append-nil piece)
join_spaced piece (next ∷ pieces) = ap (λ (rest : List ℕ). piece ++ (32 ∷ rest)) (join_spaced next pieces)

pub put_behind : (out mid new piece : List ℕ) (pieces : List (List ℕ)) → mid ≡ out ++ piece → new ≡ mid ++ spaced pieces
    → new ≡ out ++ join_with_byte 32 (piece ∷ pieces)
put_behind out mid new piece pieces first second =
    second ∙ ap (λ (m : List ℕ). m ++ spaced pieces) first ∙ append_assoc out piece (spaced pieces)
    ∙ ap (λ (t : List ℕ). out ++ t) (sym (join_spaced piece pieces))

-- and the line end behind them
pub line_put : (out a b c word : List ℕ) (pieces : List (List ℕ)) → a ≡ out ++ word → b ≡ a ++ spaced pieces
    → c ≡ b ++ 10 ∷ [] → c ≡ out ++ words_line (word ∷ pieces)
line_put out a b c word pieces first second third =
    third ∙ ap (λ (t : List ℕ). t ++ 10 ∷ []) (put_behind out a b word pieces first second)
    ∙ append_assoc out (join_with_byte 32 (word ∷ pieces)) (10 ∷ [])

-- what is so at Ok, and else not, is so on Ok
pub on_same : {T E : Type 0} {Q : Type 0} (r : Result T E) (now more same : List ℕ) → now ≡ cond (is_ok r) more same
    → (now ≡ more → Q) → OnOk r Q
on_same (Ok x) now more same is f = f is
on_same (Err e) now more same is f = tt

pub list_before : (buf rest numbers : List ℕ) (start : ℕ) → 1 ≤ length numbers
    → drop start buf ≡ decimal (get_or numbers 0 0) ++ rest
    → rest ≡ spaced (map decimal (take (length numbers - 1) (drop 1 numbers)))
    → drop start buf ≡ join_with_byte 32 (map decimal numbers)
list_before buf rest [] start some written behind = absurd (omega arith)
list_before buf rest (n ∷ ns) start some written behind =
    let all : take (length (n ∷ ns) - 1) ns ≡ ns = take_all (length (n ∷ ns) - 1) ns (omega arith) in
    written ∙ ap (λ (t : List ℕ). decimal n ++ t) (behind ∙ ap (λ (t : List ℕ). spaced (map decimal t)) all)
    ∙ sym (join_spaced (decimal n) (map decimal ns))

pub no_list : (buf numbers : List ℕ) (end : ℕ) → length buf ≤ end → length numbers < 1
    → drop end buf ≡ join_with_byte 32 (map decimal numbers)
no_list buf [] end over none = drop_of_length-le buf over
no_list buf (n ∷ ns) end over none = absurd (omega arith)

-- ---- the words of a request

written_numbers : (numbers : List ℕ) (words : List Word) → written (map number numbers ++ words)
    ≡ spaced (map decimal numbers) ++ written words
written_numbers [] words = refl
written_numbers (n ∷ ns) words = ap (λ (rest : List ℕ). (32 ∷ decimal n) ++ rest) (written_numbers ns words)
    ∙ sym (append_assoc (32 ∷ decimal n) (spaced (map decimal ns)) (written words))

pub written_words : (out a b c d name : List ℕ) (numbers : List ℕ) (h : Option HintWords) → a ≡ out ++ (32 ∷ [])
    → b ≡ a ++ name → c ≡ b ++ spaced (map decimal numbers) → d ≡ c ++ written (hint_words h)
    → d ≡ out ++ written (text name ∷ (map number numbers ++ hint_words h))
written_words out a b c d name numbers h ea eb ec ed =
    let one : b ≡ out ++ (32 ∷ name) = eb ∙ ap (λ (x : List ℕ). x ++ name) ea ∙ append_assoc out (32 ∷ []) name in
    let two : c ≡ out ++ ((32 ∷ name) ++ spaced (map decimal numbers)) = ec
    ∙ ap (λ (x : List ℕ). x ++ spaced (map decimal numbers)) one
    ∙ append_assoc out (32 ∷ name) (spaced (map decimal numbers)) in
    let rest : ((32 ∷ name) ++ spaced (map decimal numbers)) ++ written (hint_words h) ≡ (32 ∷ name)
    ++ written (map number numbers ++ hint_words h) =
    append_assoc (32 ∷ name) (spaced (map decimal numbers)) (written (hint_words h))
    ∙ ap (λ (x : List ℕ). (32 ∷ name) ++ x) (sym (written_numbers numbers (hint_words h))) in
    ed ∙ ap (λ (x : List ℕ). x ++ written (hint_words h)) two
    ∙ append_assoc out ((32 ∷ name) ++ spaced (map decimal numbers)) (written (hint_words h))
    ∙ ap (λ (x : List ℕ). out ++ x) rest

pub put_two_behind : (out a b c first second : List ℕ) (pieces : List (List ℕ)) → a ≡ out ++ first
    → b ≡ a ++ (32 ∷ second) → c ≡ b ++ spaced pieces → c ≡ out ++ join_with_byte 32 (first ∷ second ∷ pieces)
put_two_behind out a b c first second pieces ea eb ec =
    put_behind out a c first (second ∷ pieces) ea (ec ∙ ap (λ (x : List ℕ). x ++ spaced pieces) eb
    ∙ append_assoc a (32 ∷ second) (spaced pieces))

-- each word is spelled by how it is written
pub spells_each : (words : List Word) → AllByRecursion IsInRange words → AllByRecursion CanBeHint words
    → SpellEach (map piece_of words) words
spells_each [] range hints = tt
spells_each (text t ∷ words) range hints = (refl, spells_each words range.1 hints.1)
spells_each (account a ∷ words) range hints = ((range.0, refl), spells_each words range.1 hints.1)
spells_each (number n ∷ words) range hints = ((range.0, refl), spells_each words range.1 hints.1)
spells_each (hint None ∷ words) range hints = (inl refl, spells_each words range.1 hints.1)
spells_each (hint (Some a) ∷ words) range hints = ((hints.0, refl), spells_each words range.1 hints.1)

-- what was appended is a line of the request
pub appends_line : (old new : List ℕ) (r : Request) → new ≡ old ++ join_with_byte 32 (map piece_of (request_words r))
    → AllByRecursion IsInRange (request_words r) → HasSpelling r → AppendsLine old new r
appends_line old new r e range hints =
    let line = join_with_byte 32 (map piece_of (request_words r)) in
    (line, e, (map piece_of (request_words r), refl, spells_each (request_words r) range hints))
