-- Words that are read one after the other by a reader that may fail, and asked only at the end whether it did.
use Rattle.std.proofs.Common.{◌≡◌, ℕ, cond, Bool, true, false, List, [], ◌∷◌, Option, Some, None, refl, sym, ◌∙◌}
use Rattle.std.specs.Prelude.{codes, not, ◌||◌, unwrap_or}
use Rattle.std.specs.Bool.{then_some}
use Rattle.std.specs.Option.{is_some}
use Rattle.std.specs.Str.{bytes_eq}
use Rattle.liq_types.specs.declared.requests.Request.{Request}
use Rattle.liq_types.specs.declared.requests.Request.TheVariants.{Do}
use Rattle.liq_types.specs.declared.requests.Call.{Call}
use Rattle.liq_text.specs.declared.names.Verb.{Verb}
use Rattle.liq_text.specs.Names.{verb_of}
use Rattle.liq_text.specs.Reading.{◌>>=◌, Kind, an_account, a_number, a_hint, Value, value_of, Makes, first, others, is_empty, fields, number_of, account_of, hint_of, verb_kinds, call_with, arguments_of, call_of, request_of, pieces_of, session_of, session_request_of}
use Rattle.liq_text.specs.Pieces.{first_word, nothing, value_read, fails, finished, unless}
use Rattle.liq_text.proofs.SpellingLaws.{Values, made}
use Rattle.liq_text.proofs.ReadingLaws.{number_of-empty}

-- ---- no word is read as nothing

number_of-nil : number_of [] ≡ None
number_of-nil = sym (number_of-empty [] refl)

account_of-nil : account_of [] ≡ None
unfolding account_of
account_of-nil = rw number_of-nil refl

hint_of-nil : hint_of [] ≡ None
unfolding hint_of
hint_of-nil = rw account_of-nil refl

pub value_of-first_word : (kind : Kind) (pieces : List (List ℕ)) → value_of kind (first_word pieces)
    ≡ first (value_of kind) pieces
unfolding first first_word
value_of-first_word an_account [] = account_of-nil
value_of-first_word a_number [] = number_of-nil
value_of-first_word a_hint [] = hint_of-nil
value_of-first_word kind (piece ∷ pieces) = refl

pub value_known : (kind : Kind) (pieces : List (List ℕ)) (v : Value kind) → Some v ≡ value_of kind (first_word pieces)
    → v ≡ value_read kind pieces
unfolding value_read
value_known kind pieces v e = rw (← value_of-first_word kind pieces, ← e) refl

pub well_known : (kind : Kind) (failed : Bool) (pieces : List (List ℕ)) (v : Value kind)
    → Some v ≡ value_of kind (first_word pieces) → failed ≡ fails kind failed pieces
unfolding fails
well_known kind true pieces v e = refl
well_known kind false pieces v e = rw (← value_of-first_word kind pieces, ← e) refl

pub value_unknown : (kind : Kind) (pieces : List (List ℕ)) → None ≡ value_of kind (first_word pieces)
    → nothing kind ≡ value_read kind pieces
unfolding value_read
value_unknown kind pieces e = rw (← value_of-first_word kind pieces, ← e) refl

pub fails_unknown : (kind : Kind) (failed : Bool) (pieces : List (List ℕ)) → None ≡ value_of kind (first_word pieces)
    → true ≡ fails kind failed pieces
unfolding fails
fails_unknown kind true pieces e = refl
fails_unknown kind false pieces e = rw (← value_of-first_word kind pieces, ← e) refl

-- ---- a form

abbrev values_read : (kinds : List Kind) → List (List ℕ) → Values kinds
values_read [] pieces = tt
values_read (kind ∷ kinds) pieces = (value_read kind pieces, values_read kinds (others pieces))

abbrev fails_at : List Kind → Bool → List (List ℕ) → Bool
fails_at [] failed pieces = failed
fails_at (kind ∷ kinds) failed pieces = fails_at kinds (fails kind failed pieces) (others pieces)

abbrev left_by : List Kind → List (List ℕ) → List (List ℕ)
left_by [] pieces = pieces
left_by (kind ∷ kinds) pieces = left_by kinds (others pieces)

read_on : {A B : Type 0} (failed : Bool) (o : Option A) (d : A) (f : A → Option B)
    → unless (failed || not (is_some o)) (f (unwrap_or o d)) ≡ unless failed (o >>= f)
unfolding unless
read_on true None d f = refl
read_on true (Some x) d f = refl
read_on false None d f = refl
read_on false (Some x) d f = refl

where_true : {A : Type 0} (b : Bool) (x : A) → then_some b x ≡ cond b (Some x) None
where_true true x = refl
where_true false x = refl

form_read : {A : Type 0} (kinds : List Kind) (make : Makes kinds A) (failed : Bool) (pieces : List (List ℕ))
    → finished (made kinds make (values_read kinds pieces)) (fails_at kinds failed pieces) (left_by kinds pieces)
    ≡ unless failed (fields kinds make pieces)
unfolding finished unless fails value_read
form_read [] make true pieces = refl
form_read [] make false pieces = where_true (is_empty pieces) make
form_read (kind ∷ kinds) make failed pieces =
    form_read kinds (make (value_read kind pieces)) (fails kind failed pieces) (others pieces)
    ∙ read_on failed _ _ (λ v. fields kinds (make v) (others pieces))

pub arguments_read : (verb : Verb) (failed : Bool) (pieces : List (List ℕ))
    → finished (made (verb_kinds verb) (call_with verb) (values_read (verb_kinds verb) pieces))
    (fails_at (verb_kinds verb) failed pieces) (left_by (verb_kinds verb) pieces)
    ≡ unless failed (arguments_of verb pieces)
unfolding arguments_of
arguments_read verb failed pieces = form_read (verb_kinds verb) (call_with verb) failed pieces

-- ---- a name and its form

call_read : (pieces : List (List ℕ)) (verb : Option Verb) (failed : Bool) → verb ≡ verb_of (first_word pieces)
    → (verb >>= λ v. unless failed (arguments_of v (others pieces))) ≡ unless failed (call_of pieces)
unfolding call_of first first_word others unless
call_read [] verb true e = rw e refl
call_read [] verb false e = rw e refl
call_read (piece ∷ pieces) None true e = refl
call_read (piece ∷ pieces) (Some v) true e = refl
call_read (piece ∷ pieces) verb false e = rw e refl

-- a reader that has come further
pub moved : {A : Type 0} (f : List (List ℕ) → Option A) (now failed : Bool) (left rest : List (List ℕ)) → now ≡ failed
    → left ≡ rest → unless now (f left) ≡ unless failed (f rest)
moved f now failed left rest same here = rw (same, here) refl

pub call_unread : (pieces : List (List ℕ)) (verb : Option Verb) (failed : Bool) → verb ≡ None
    → verb ≡ verb_of (first_word pieces) → None ≡ unless failed (call_of pieces)
call_unread pieces verb failed none e = let known = call_read pieces verb failed e in rw none at known

pub call_done : (pieces : List (List ℕ)) (verb : Option Verb) (v : Verb) (failed now : Bool) (left : List (List ℕ))
    (call : Option Call) → verb ≡ Some v → verb ≡ verb_of (first_word pieces)
    → now ≡ failed → left ≡ others pieces → call ≡ unless now (arguments_of v left)
    → call ≡ unless failed (call_of pieces)
call_done pieces verb v failed now left call some e same here is =
    let known = call_read pieces verb failed e in is ∙ moved (arguments_of v) now failed left (others pieces) same here
    ∙ (rw some at known)

-- ---- a request

abbrev command : ℕ → ℕ → Option Call → Option Request
command client number call = call >>= λ c. Some (Do (record { client = client; number = number; call = c }))

command_on : (failed : Bool) (client number : Option ℕ) (call : Option Call)
    → (client >>= λ a. command a (unwrap_or number 0) (unless (failed || not (is_some number)) call))
    ≡ unless failed (client >>= λ a. number >>= λ n. command a n call)
unfolding unless
command_on true None number call = refl
command_on true (Some a) number call = refl
command_on false None number call = refl
command_on false (Some a) None call = refl
command_on false (Some a) (Some n) call = refl

pub command_read : (pieces : List (List ℕ)) (client : Option ℕ) (number : ℕ) (call : Option Call) (failed : Bool)
    → bytes_eq (first_word pieces) (codes "?") ≡ false → client ≡ account_of (first_word pieces)
    → number ≡ value_read a_number (others pieces)
    → call ≡ unless (fails a_number failed (others pieces)) (call_of (others (others pieces)))
    → (client >>= λ a. command a number call) ≡ unless failed (request_of pieces)
unfolding request_of first first_word others unless value_read fails
command_read [] client number call true asks c n k = rw (c, account_of-nil) refl
command_read [] client number call false asks c n k = rw (c, account_of-nil) refl
command_read (piece ∷ pieces) client number call failed asks c n k =
    rw (c, n, k, asks) (command_on failed (account_of piece) (first number_of pieces) (call_of (others pieces)))

pub no_session : (line word : List ℕ) (pieces : List (List ℕ)) → pieces_of line ≡ word ∷ pieces → None ≡ session_of word
    → None ≡ session_request_of (pieces_of line)
unfolding session_request_of first
no_session line word pieces split s = rw (split, ← s) refl

pub session_read : (line word : List ℕ) (pieces : List (List ℕ)) (session : Option ℕ) (request : Option Request)
    → pieces_of line ≡ word ∷ pieces → session ≡ session_of word → request ≡ request_of pieces
    → (session >>= λ s. request >>= λ r. Some (s, r)) ≡ session_request_of (pieces_of line)
unfolding session_request_of first others
session_read line word pieces session request split s r = rw (split, ← s, ← r) refl

pub nothing_read : None ≡ request_of []
unfolding request_of first
nothing_read = refl
