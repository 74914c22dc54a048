-- How long the line of a request is.
use Rattle.std.proofs.Common.{ℕ, ◌+◌, ◌^◌, ◌<◌, ◌≤◌, List, [], ◌∷◌, length, Some, None, ap, ◌∙◌, length-append, arith, lit≤, lit<, inl, inr}
use Rattle.std.specs.Prelude.{decimal}
use Rattle.std.specs.List.{join_with_byte}
use Rattle.std.proofs.lemmas.Fmt.{length-decimal-le_wide}
use Rattle.liq_types.specs.declared.requests.Call.{Call}
use Rattle.liq_types.specs.declared.requests.Call.TheVariants as calls
use Rattle.liq_types.specs.declared.requests.Query.{Query}
use Rattle.liq_types.specs.declared.requests.Query.TheVariants as queries
use Rattle.liq_types.specs.declared.requests.Request.{Request}
use Rattle.liq_types.specs.declared.requests.Request.TheVariants.{Do, Ask}
use Rattle.liq_types.specs.declared.amounts.TheConstants.{LINE_BYTES}
use Rattle.liq_text.specs.Spelling.{Word, text, account, number, hint, Spell, SpellEach, IsLineOf, Spells, SpellsInSession, call_words, query_words, request_words}
use Rattle.liq_text.specs.Writing.{spaced}
use Rattle.liq_text.proofs.WritingLaws.{join_spaced}

-- how many bytes a word has at most
abbrev pub most : Word → ℕ
most (text t) = length t
most (account a) = 10
most (number n) = 20
most (hint h) = 10

-- and a list of words, each with a space in front of it
abbrev pub all_most : List Word → ℕ
all_most [] = 0
all_most (word ∷ words) = (1 + most word) + all_most words

account_short : (a : ℕ) → a < 2 ^ 32 → length (decimal a) ≤ 10
account_short a h = length-decimal-le_wide 10 a (lit< tt) (omega (arith, h)) (omega (arith, h))

word_short : (piece : List ℕ) (word : Word) → Spell piece word → length piece ≤ most word
word_short piece (text t) h = omega (arith, ap length h)
word_short piece (account a) h = omega (arith, ap length h.1, account_short a h.0)
word_short piece (number n) h =
    let one : length (decimal n) ≤ 20 = length-decimal-le_wide 20 n (lit< tt) (omega (arith, h.0)) (omega (
      arith,
      h.0,
    )) in
    omega (arith, ap length h.1, one)
word_short piece (hint None) (inl h) = omega (arith, ap length h)
word_short piece (hint None) (inr h) = omega (arith, ap length h, account_short 4294967295 (lit< tt))
word_short piece (hint (Some a)) h = omega (arith, ap length h.1, account_short a (omega (arith, h.0)))

spaced_short : (pieces : List (List ℕ)) (words : List Word) → SpellEach pieces words
    → length (spaced pieces) ≤ all_most words
spaced_short [] [] h = omega arith
spaced_short [] (word ∷ words) h = absurd h
spaced_short (piece ∷ pieces) [] h = absurd h
spaced_short (piece ∷ pieces) (word ∷ words) h =
    omega (arith, word_short piece word h.0, spaced_short pieces words h.1, length-append piece (spaced pieces))

line_short : (pieces : List (List ℕ)) (words : List Word) → SpellEach pieces words → length (join_with_byte 32 pieces)
    ≤ all_most words
line_short [] words h = omega arith
line_short (piece ∷ pieces) [] h = absurd h
line_short (piece ∷ pieces) (word ∷ words) h =
    let whole = ap (λ (x : List ℕ). length x) (join_spaced piece pieces) ∙ length-append piece (spaced pieces) in
    omega (arith, whole, word_short piece word h.0, spaced_short pieces words h.1)

call_most : (call : Call) → all_most (call_words call) ≤ 145
call_most (calls.Price price) = lit≤ tt
call_most (calls.Advance minutes) = lit≤ tt
call_most (calls.Fund owner coll) = lit≤ tt
call_most (calls.Take owner coll) = lit≤ tt
call_most (calls.Send from to lusd) = lit≤ tt
call_most (calls.Open owner coll borrow bound h) = lit≤ tt
call_most (calls.Adjust owner coll_in coll_out borrow repay bound h) = lit≤ tt
call_most (calls.Close owner) = lit≤ tt
call_most (calls.Provide owner lusd) = lit≤ tt
call_most (calls.Withdraw owner lusd) = lit≤ tt
call_most (calls.GainToTrove owner h) = lit≤ tt
call_most (calls.Liquidate liquidator owner) = lit≤ tt
call_most (calls.LiquidateLowest liquidator count) = lit≤ tt
call_most (calls.Redeem owner lusd bound h) = lit≤ tt
call_most (calls.Claim owner) = lit≤ tt
call_most calls.Rotate = lit≤ tt

query_most : (query : Query) → all_most (query_words query) ≤ 145
query_most (queries.Wallet owner) = lit≤ tt
query_most (queries.Trove owner) = lit≤ tt
query_most (queries.Deposit owner) = lit≤ tt
query_most queries.Pools = lit≤ tt
query_most queries.System = lit≤ tt
query_most (queries.NextNumber client) = lit≤ tt

request_most : (request : Request) → all_most (request_words request) ≤ 177
request_most (Do c) = omega (arith, call_most c.call)
request_most (Ask q) = omega (arith, query_most q)

is_short : (line : List ℕ) (words : List Word) → all_most words ≤ 200 → IsLineOf line words → length line ≤ LINE_BYTES
is_short line words few h = omega (arith, few, ap (λ (x : List ℕ). length x) h.1, line_short h.0 words h.2)

pub request_short : (line : List ℕ) (request : Request) → Spells line request → length line ≤ LINE_BYTES
request_short line request h = is_short line (request_words request) (omega (arith, request_most request)) h

pub session_request_short : (line : List ℕ) (session : ℕ) (request : Request) → SpellsInSession line session request
    → length line ≤ LINE_BYTES
session_request_short line session request h = is_short line (number session ∷ request_words request) (omega (
  arith,
  request_most request,
)) h.2
