-- A line and its words.
use Rattle.std.proofs.Common.{◌≡◌, ◌≢◌, cond, leb, ℕ, ◌≤◌, Bool, true, false, eqb, List, [], ◌∷◌, ◌++◌, Option, Some, None, Result, Ok, refl, sym, ap, subst, ◌∙◌}
use Rattle.std.specs.Prelude.{not, ◌&&◌, IfOk, IfSome, OnErr, codes}
use Rattle.std.specs.Option.{ok_or}
use Rattle.std.proofs.lemmas.Option.{same_Some, cond_some, none-some}
use Rattle.std.specs.List.{join_with_byte, AllByRecursion}
use Rattle.std.proofs.lemmas.Bool.{and_parts, and_from, leb-true, le-leb}
use Rattle.std.proofs.lemmas.List.Elements.{All-from_recursion}
use Rattle.std.proofs.lemmas.List.Splits.{slice_split_none, slice_split_at, join_with_byte-slice_split}
use Rattle.liq_types.specs.declared.requests.Query.{Query}
use Rattle.liq_types.specs.declared.requests.Query.TheVariants as queries
use Rattle.liq_types.specs.declared.requests.Request.{Request}
use Rattle.liq_types.specs.declared.requests.Request.TheVariants.{Do, Ask}
use Rattle.liq_types.specs.declared.requests.Command.{Command}
use Rattle.liq_text.specs.Spelling.{number, Spell, SpellEach, query_words, request_words, Spells, SpellsInSession}
use Rattle.liq_text.specs.Reading.{◌>>=◌, pieces_of, first, others, number_of, account_of, query_of, request_of, session_of, session_request_of}
use Rattle.std.specs.Str.{bytes_eq}
use Rattle.liq_text.specs.Pieces.{first_word}
use Rattle.liq_text.proofs.ReadingLaws.{number_of-decimal, number_of-some, none_from, yes}
use Rattle.liq_text.proofs.SpellingLaws.{account_again, account_takes, bind_some, plain, IsPlain, plain_spelled}
use Rattle.liq_text.proofs.RequestLaws.{queryless, request_takes, request_again, plain_request, nonempty_request}

abbrev is_space : ℕ → Bool
is_space b = eqb b 32

not_true : (b : Bool) → not b ≡ true → b ≡ false
not_true true e = absurd cc
not_true false e = refl

spaceless : (piece : List ℕ) → plain piece ≡ true → AllByRecursion (λ b. is_space b ≡ false) piece
spaceless [] e = tt
spaceless (b ∷ bs) e = let p = and_parts _ _ e in (not_true _ p.0, spaceless bs p.1)

-- plain pieces with spaces between them fall into the same pieces
pub pieces_of-join : (piece : List ℕ) (pieces : List (List ℕ)) → AllByRecursion IsPlain (piece ∷ pieces)
    → pieces_of (join_with_byte 32 (piece ∷ pieces)) ≡ piece ∷ pieces
unfolding pieces_of
pieces_of-join piece [] p = slice_split_none is_space piece (All-from_recursion (λ b. is_space b ≡ false) piece
    (spaceless piece p.0))
pieces_of-join piece (next ∷ pieces) p =
    slice_split_at is_space piece 32 (join_with_byte 32 (next ∷ pieces)) (All-from_recursion (λ b. is_space b
    ≡ false) piece (spaceless piece p.0)) refl
    ∙ ap (λ (rest : List (List ℕ)). piece ∷ rest) (pieces_of-join next pieces p.1)

pub join-pieces_of : (line : List ℕ) → line ≡ join_with_byte 32 (pieces_of line)
unfolding pieces_of
join-pieces_of line = sym (join_with_byte-slice_split 32 line)

same_pieces : (line piece : List ℕ) (pieces : List (List ℕ)) → line ≡ join_with_byte 32 (piece ∷ pieces)
    → AllByRecursion IsPlain (piece ∷ pieces) → pieces_of line ≡ piece ∷ pieces
same_pieces line piece pieces e p = ap pieces_of e ∙ pieces_of-join piece pieces p

-- ---- a request

pub read_is_spelled : (line : List ℕ) (r : Request) → request_of (pieces_of line) ≡ Some r → Spells line r
read_is_spelled line r e = (pieces_of line, join-pieces_of line, request_takes (pieces_of line) r e)

request_again_of : (line : List ℕ) (r : Request) (pieces : List (List ℕ)) → line ≡ join_with_byte 32 pieces
    → SpellEach pieces (request_words r) → request_of (pieces_of line) ≡ Some r
request_again_of line r [] e s = absurd (nonempty_request r s)
request_again_of line r (piece ∷ pieces) e s =
    ap request_of (same_pieces line piece pieces e (plain_request r (piece ∷ pieces) s))
    ∙ request_again (piece ∷ pieces) r s

pub spelled_is_read : (line : List ℕ) (r : Request) → Spells line r → request_of (pieces_of line) ≡ Some r
spelled_is_read line r s = request_again_of line r s.0 s.1 s.2

pub one_request : (line : List ℕ) (a b : Request) → Spells line a → Spells line b → a ≡ b
one_request line a b s t = same_Some a b (sym (spelled_is_read line a s) ∙ spelled_is_read line b t)

-- ---- a session and a request

session_takes : (piece : List ℕ) (n : ℕ) → session_of piece ≡ Some n → (1 ≤ n) × (n ≤ 8) × Spell piece (number n)
unfolding session_of
session_takes piece n e =
    let b = bind_some (number_of piece) (λ n. cond (leb 1 n && leb n 8) (Some n) None) n e in
    let g = cond_some (leb 1 b.0 && leb b.0 8) b.0 n b.2 in
    let both = and_parts _ _ g.0 in
    let s : (1 ≤ b.0) × (b.0 ≤ 8) × Spell piece (number b.0) = (
      leb-true _ _ both.0,
      leb-true _ _ both.1,
      number_of-some piece b.0 b.1,
    ) in
    subst (λ (k : ℕ). (1 ≤ k) × (k ≤ 8) × Spell piece (number k)) g.1 s

session_again : (piece : List ℕ) (n : ℕ) → 1 ≤ n → n ≤ 8 → Spell piece (number n) → session_of piece ≡ Some n
unfolding session_of
session_again piece n low high s =
    ap (λ (o : Option ℕ). o >>= λ n. cond (leb 1 n && leb n 8) (Some n) None) (number_of-decimal piece n s.0 s.1)
    ∙ yes (leb 1 n && leb n 8) _ _ (and_from _ _ (le-leb _ _ low) (le-leb _ _ high))

session_request_takes : (pieces : List (List ℕ)) (n : ℕ) (r : Request) → session_request_of pieces ≡ Some (n, r)
    → (1 ≤ n) × (n ≤ 8) × SpellEach pieces (number n ∷ request_words r)
unfolding session_request_of first others
session_request_takes [] n r e = absurd cc
session_request_takes (piece ∷ pieces) n r e =
    let a = bind_some (session_of piece) (λ session. request_of pieces >>= λ request. Some (session, request))
    (n, r) e in
    let b = bind_some (request_of pieces) (λ request. Some (a.0, request)) (n, r) a.2 in
    let same = same_Some (a.0, b.0) (n, r) b.2 in
    let s = session_takes piece a.0 a.1 in
    subst (λ (x : ℕ × Request). (1 ≤ x.0) × (x.0 ≤ 8) × SpellEach (piece ∷ pieces) (number x.0 ∷ request_words x.1))
    same (s.0, s.1, (s.2, request_takes pieces b.0 b.1))

session_request_again : (line : List ℕ) (n : ℕ) (r : Request) (pieces : List (List ℕ)) → line ≡ join_with_byte 32 pieces
    → 1 ≤ n → n ≤ 8 → SpellEach pieces (number n ∷ request_words r) → session_request_of (pieces_of line) ≡ Some (n, r)
unfolding session_request_of first others
session_request_again line n r [] e low high s = absurd s
session_request_again line n r (piece ∷ pieces) e low high s =
    ap session_request_of (same_pieces line piece pieces e (
      plain_spelled piece (number n) tt s.0,
      plain_request r pieces s.1,
    ))
    ∙ ap (λ (o : Option ℕ). o >>= λ session. request_of pieces >>= λ request. Some (session, request))
    (session_again piece n low high s.0)
    ∙ ap (λ (o : Option Request). o >>= λ request. Some (n, request)) (request_again pieces r s.1)

pub session_read_is_spelled : (line : List ℕ) (n : ℕ) (r : Request) → session_request_of (pieces_of line) ≡ Some (n, r)
    → SpellsInSession line n r
session_read_is_spelled line n r e =
    let t = session_request_takes (pieces_of line) n r e in
    (t.0, t.1, (pieces_of line, join-pieces_of line, t.2))

pub session_spelled_is_read : (line : List ℕ) (n : ℕ) (r : Request) → SpellsInSession line n r
    → session_request_of (pieces_of line) ≡ Some (n, r)
session_spelled_is_read line n r s = session_request_again line n r s.2.0 s.2.1 s.0 s.1 s.2.2

pub one_session_request : (line : List ℕ) (m n : ℕ) (a b : Request) → SpellsInSession line m a
    → SpellsInSession line n b → (m ≡ n) × (a ≡ b)
one_session_request line m n a b s t =
    let same = same_Some (m, a) (n, b) (sym (session_spelled_is_read line m a s)
    ∙ session_spelled_is_read line n b t) in
    (ap (λ (x : ℕ × Request). x.0) same, ap (λ (x : ℕ × Request). x.1) same)

-- ---- the clauses of a reader that answers what was read, or else one error

pub is_found : {A E : Type 0} (P : A → Type 0) (o : Option A) (r : Result A E) (e : E) → r ≡ ok_or o e
    → ((x : A) → o ≡ Some x → P x) → IfOk r P
is_found P None r e made spelled = rw made tt
is_found P (Some x) r e made spelled = rw made (spelled x refl)

pub is_only : {A E : Type 0} (o : Option A) (r : Result A E) (e : E) (x : A) → r ≡ ok_or o e → o ≡ Some x → r ≡ Ok x
is_only {A} o r e x made found = made ∙ ap (λ (y : Option A). ok_or y e) found

pub is_bad : {A E Q : Type 0} (o : Option A) (r : Result A E) (e : E) → r ≡ ok_or o e → (o ≡ None → Q) → OnErr r Q
is_bad (Some x) r e made none = rw made tt
is_bad None r e made none = rw made (none refl)

-- ---- a query

asked_line : (rest : List ℕ) → request_of (pieces_of (codes "? " ++ rest))
    ≡ (query_of (pieces_of rest) >>= λ query. Some (Ask query))
unfolding request_of pieces_of first others
asked_line rest = refl

pub asked_read : (line rest : List ℕ) (read : Option Query) → line ≡ codes "? " ++ rest
    → read ≡ query_of (pieces_of rest) → (read >>= λ query. Some (Ask query)) ≡ request_of (pieces_of line)
asked_read line rest read starts is = ap (λ (o : Option Query). o >>= λ query. Some (Ask query)) is
    ∙ sym (asked_line rest) ∙ ap (λ (l : List ℕ). request_of (pieces_of l)) (sym starts)

pub query_found : (line rest : List ℕ) (read : Option Query) → line ≡ codes "? " ++ rest
    → read ≡ query_of (pieces_of rest) → IfSome read (λ query. Spells line (Ask query))
query_found line rest None starts is = tt
query_found line rest (Some query) starts is =
    read_is_spelled line (Ask query) (ap (λ (l : List ℕ). request_of (pieces_of l)) starts ∙ asked_line rest
    ∙ ap (λ (o : Option Query). o >>= λ q. Some (Ask q)) (sym is))

pub query_only : (line rest : List ℕ) (read : Option Query) (query : Query) → line ≡ codes "? " ++ rest
    → read ≡ query_of (pieces_of rest) → Spells line (Ask query) → read ≡ Some query
query_only line rest read query starts is s =
    let e : (query_of (pieces_of rest) >>= λ q. Some (Ask q)) ≡ Some (Ask query) = sym (asked_line rest)
    ∙ ap (λ (l : List ℕ). request_of (pieces_of l)) (sym starts) ∙ spelled_is_read line (Ask query) s in
    let b = bind_some (query_of (pieces_of rest)) (λ q. Some (Ask q)) (Ask query) e in
    let same : b.0 ≡ query = cc (b.2) in
    is ∙ b.1 ∙ ap Some same

named_query : (query : Query) → SpellEach [] (query_words query) → ⊥
named_query (queries.Wallet owner) s = s
named_query (queries.Trove owner) s = s
named_query (queries.Deposit owner) s = s
named_query queries.Pools s = s
named_query queries.System s = s
named_query (queries.NextNumber client) s = s

pub query_starts : (line : List ℕ) (query : Query) (pieces : List (List ℕ)) → line ≡ join_with_byte 32 pieces
    → SpellEach pieces (request_words (Ask query)) → (rest : List ℕ) × (line ≡ codes "? " ++ rest)
query_starts line query [] joined s = absurd s
query_starts line query (first ∷ []) joined s = absurd (named_query query s.1)
query_starts line query (first ∷ next ∷ pieces) joined s = (
  join_with_byte 32 (next ∷ pieces),
  joined
      ∙ ap (λ (p : List ℕ). p ++ 32 ∷ join_with_byte 32 (next ∷ pieces)) s.0,
)

-- ---- a line that begins as no query does

client_spelled : (pieces : List (List ℕ)) (c : Command) → SpellEach pieces (request_words (Do c))
    → account_of (first_word pieces) ≡ Some c.client
unfolding first_word
client_spelled [] c s = absurd s
client_spelled (piece ∷ pieces) c s = account_again piece c.client s.0.0 s.0.1

pub no_client : (line : List ℕ) → ((rest : List ℕ) → line ≢ codes "? " ++ rest)
    → None ≡ account_of (first_word (pieces_of line)) → None ≡ request_of (pieces_of line)
no_client line none client =
    none_from (request_of (pieces_of line)) (λ r e. by r (request_takes (pieces_of line) r e)) where
      by : (r : Request) → SpellEach (pieces_of line) (request_words r) → ⊥
      by (Ask query) s = let starts = query_starts line query (pieces_of line) (join-pieces_of line) s
          in none starts.0 starts.1
      by (Do c) s = none-some c.client (client ∙ client_spelled (pieces_of line) c s)

pub no_question : (piece : List ℕ) (client : ℕ) → Some client ≡ account_of piece → bytes_eq piece (codes "?") ≡ false
no_question piece client e = let t = account_takes piece client (sym e) in queryless piece client t.0 t.1
