-- Reading the words of a line from left to right.
use Rattle.std.specs.Prelude.{ℕ, ◌^◌, nat_lt, nat_le, List, [], ◌∷◌, codes, decimal}
use Rattle.std.specs.Prelude.{Option, Some, None, option_and_then, Bool, true, false}
use Rattle.std.specs.Prelude.{◌==◌, ◌&&◌, if◌then◌else◌}
use Rattle.std.specs.List.{slice_split}
use Rattle.std.specs.Str.{bytes_eq}
use Rattle.std.specs.Str.Parse.{digits_value}
use Rattle.liq_text.specs.declared.names.Verb.{Verb}
use Rattle.liq_text.specs.declared.names.Verb.TheVariants as verbs
use Rattle.liq_text.specs.Topics.{Topic}
use Rattle.liq_text.specs.Topics as topics
use Rattle.liq_text.specs.Names.{verb_of, topic_of}
use Rattle.liq_types.specs.declared.requests.Request.{Request}
use Rattle.liq_types.specs.declared.requests.Request.TheVariants.{Do, Ask}
use Rattle.liq_types.specs.declared.requests.Call.{Call}
use Rattle.liq_types.specs.declared.requests.Call.TheVariants as calls
use Rattle.liq_types.specs.declared.requests.Query.{Query}
use Rattle.liq_types.specs.declared.requests.Query.TheVariants as queries

infixl 10 ◌>>=◌
abbrev pub ◌>>=◌ : {A B : Type 0} → Option A → (A → Option B) → Option B
o >>= f = option_and_then f o

-- the words of a line
unfoldable pub pieces_of : List ℕ → List (List ℕ)
pieces_of line = slice_split (λ b. b == 32) line

-- a word that is exactly how its number is written
unfoldable pub number_of : List ℕ → Option ℕ
number_of piece =
    if nat_lt (digits_value 10 piece) (2 ^ 64) && bytes_eq piece (decimal (digits_value 10 piece))
    then Some (digits_value 10 piece) else None

unfoldable pub account_of : List ℕ → Option ℕ
account_of piece = number_of piece >>= λ n. if nat_lt n (2 ^ 32) then Some n else None

unfoldable pub hint_of : List ℕ → Option (Option ℕ)
hint_of piece =
    if bytes_eq piece (codes "-") then Some None
    else account_of piece >>= λ a. if a == 4294967295 then Some None else Some (Some a)

-- what a word behind a verb may be
pub data Kind : Type 0 where
  an_account : Kind
  a_number : Kind
  a_hint : Kind

abbrev pub Value : Kind → Type 0
Value an_account = ℕ
Value a_number = ℕ
Value a_hint = Option ℕ

abbrev pub value_of : (kind : Kind) → List ℕ → Option (Value kind)
value_of an_account piece = account_of piece
value_of a_number piece = number_of piece
value_of a_hint piece = hint_of piece

-- what the first word stands for
unfoldable pub first : {A : Type 0} → (List ℕ → Option A) → List (List ℕ) → Option A
first value [] = None
first value (piece ∷ pieces) = value piece

-- the words after the first
unfoldable pub others : List (List ℕ) → List (List ℕ)
others [] = []
others (piece ∷ pieces) = pieces

unfoldable pub is_empty : List (List ℕ) → Bool
is_empty [] = true
is_empty (piece ∷ pieces) = false

-- what is made of a value of each kind
abbrev pub Makes : List Kind → Type 0 → Type 0
Makes [] A = A
Makes (kind ∷ kinds) A = Value kind → Makes kinds A

-- a value of each kind from the words, of which none is left
abbrev pub fields : {A : Type 0} (kinds : List Kind) → Makes kinds A → List (List ℕ) → Option A
fields [] make pieces = if is_empty pieces then Some make else None
fields (kind ∷ kinds) make pieces = first (value_of kind) pieces >>= λ v. fields kinds (make v)
    (others pieces)

-- what the words behind a verb are
abbrev pub verb_kinds : Verb → List Kind
verb_kinds verbs.Price = a_number ∷ []
verb_kinds verbs.Advance = a_number ∷ []
verb_kinds verbs.Fund = an_account ∷ a_number ∷ []
verb_kinds verbs.Take = an_account ∷ a_number ∷ []
verb_kinds verbs.Send = an_account ∷ an_account ∷ a_number ∷ []
verb_kinds verbs.Open = an_account ∷ a_number ∷ a_number ∷ a_number ∷ a_hint ∷ a_hint ∷ []
verb_kinds verbs.Adjust =
    an_account ∷ a_number ∷ a_number ∷ a_number ∷ a_number ∷ a_number ∷ a_hint ∷ a_hint ∷ []
verb_kinds verbs.Close = an_account ∷ []
verb_kinds verbs.Provide = an_account ∷ a_number ∷ []
verb_kinds verbs.Withdraw = an_account ∷ a_number ∷ []
verb_kinds verbs.GainToTrove = an_account ∷ a_hint ∷ a_hint ∷ []
verb_kinds verbs.Liquidate = an_account ∷ an_account ∷ []
verb_kinds verbs.LiquidateLowest = an_account ∷ a_number ∷ []
verb_kinds verbs.Redeem = an_account ∷ a_number ∷ a_number ∷ a_hint ∷ a_hint ∷ []
verb_kinds verbs.Claim = an_account ∷ []
verb_kinds verbs.Rotate = []

abbrev pub call_with : (verb : Verb) → Makes (verb_kinds verb) Call
call_with verbs.Price = calls.Price
call_with verbs.Advance = calls.Advance
call_with verbs.Fund = calls.Fund
call_with verbs.Take = calls.Take
call_with verbs.Send = calls.Send
call_with verbs.Open =
    λ owner coll borrow bound prev next. calls.Open owner coll borrow bound (record {
      prev = prev;
      next = next;
    })
call_with verbs.Adjust =
    λ owner coll_in coll_out borrow repay bound prev next.
    calls.Adjust owner coll_in coll_out borrow repay bound (record { prev = prev; next = next })
call_with verbs.Close = calls.Close
call_with verbs.Provide = calls.Provide
call_with verbs.Withdraw = calls.Withdraw
call_with verbs.GainToTrove = λ owner prev next. calls.GainToTrove owner (record {
  prev = prev;
  next = next;
})
call_with verbs.Liquidate = calls.Liquidate
call_with verbs.LiquidateLowest = calls.LiquidateLowest
call_with verbs.Redeem =
    λ owner lusd bound prev next. calls.Redeem owner lusd bound (record {
      prev = prev;
      next = next;
    })
call_with verbs.Claim = calls.Claim
call_with verbs.Rotate = calls.Rotate

unfoldable pub arguments_of : Verb → List (List ℕ) → Option Call
arguments_of verb pieces = fields (verb_kinds verb) (call_with verb) pieces

-- what the words behind a query's name are
abbrev pub topic_kinds : Topic → List Kind
topic_kinds topics.Wallet = an_account ∷ []
topic_kinds topics.Trove = an_account ∷ []
topic_kinds topics.Deposit = an_account ∷ []
topic_kinds topics.Pools = []
topic_kinds topics.System = []
topic_kinds topics.NextNumber = an_account ∷ []

abbrev pub query_with : (topic : Topic) → Makes (topic_kinds topic) Query
query_with topics.Wallet = queries.Wallet
query_with topics.Trove = queries.Trove
query_with topics.Deposit = queries.Deposit
query_with topics.Pools = queries.Pools
query_with topics.System = queries.System
query_with topics.NextNumber = queries.NextNumber

unfoldable pub subject_of : Topic → List (List ℕ) → Option Query
subject_of topic pieces = fields (topic_kinds topic) (query_with topic) pieces

unfoldable pub call_of : List (List ℕ) → Option Call
call_of pieces = first verb_of pieces >>= λ verb. arguments_of verb (others pieces)

unfoldable pub query_of : List (List ℕ) → Option Query
query_of pieces = first topic_of pieces >>= λ topic. subject_of topic (others pieces)

-- A first word ? makes a query; else it is the client.
unfoldable pub request_of : List (List ℕ) → Option Request
request_of pieces = first Some pieces >>= λ word. if bytes_eq word (codes "?")
    then (query_of (others pieces) >>= λ query. Some (Ask query))
    else (account_of word >>= λ client. first number_of (others pieces) >>= λ number.
    call_of (others (others pieces)) >>= λ call. Some (Do (record {
      client = client;
      number = number;
      call = call;
    })))

unfoldable pub session_of : List ℕ → Option ℕ
session_of piece = number_of piece >>= λ n. if nat_le 1 n && nat_le n 8 then Some n else None

unfoldable pub session_request_of : List (List ℕ) → Option (ℕ × Request)
session_request_of pieces =
    first session_of pieces >>= λ session. request_of (others pieces) >>= λ request. Some (
      session,
      request,
    )
