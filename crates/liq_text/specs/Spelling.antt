-- Which bytes are the line of a request.
use Rattle.std.specs.Prelude.{◌≡◌, ℕ, ◌<◌, ◌≤◌, ◌^◌, ◌⊎◌, List, [], ◌∷◌, ◌++◌}
use Rattle.std.specs.Prelude.{Option, Some, None, IfSome, codes, decimal}
use Rattle.std.specs.List.{join_with_byte, AllByRecursion}
use Rattle.liq_types.specs.declared.requests.Request.{Request}
use Rattle.liq_types.specs.declared.requests.Request.TheVariants.{Do, Ask}
use Rattle.liq_types.specs.declared.requests.Call.{Call}
use Rattle.liq_types.specs.declared.requests.Call.TheVariants as calls
use Rattle.liq_types.specs.declared.requests.Query.{Query}
use Rattle.liq_types.specs.declared.requests.Query.TheVariants as queries

-- what one word of a line stands for
pub data Word : Type 0 where
  text : List ℕ → Word
  account : ℕ → Word
  number : ℕ → Word
  hint : Option ℕ → Word

-- The bytes spell the word. The greatest account word stands for no hint, as - does.
abbrev pub Spell : List ℕ → Word → Type 0
Spell bytes (text t) = bytes ≡ t
Spell bytes (account a) = (a < 2 ^ 32) × (bytes ≡ decimal a)
Spell bytes (number n) = (n < 2 ^ 64) × (bytes ≡ decimal n)
Spell bytes (hint None) = (bytes ≡ codes "-") ⊎ (bytes ≡ decimal 4294967295)
Spell bytes (hint (Some a)) = (a < 4294967295) × (bytes ≡ decimal a)

-- as many pieces as words, and each piece spells the word in its place
abbrev pub SpellEach : List (List ℕ) → List Word → Type 0
SpellEach [] [] = Unit {0}
SpellEach [] (word ∷ words) = ⊥
SpellEach (piece ∷ pieces) [] = ⊥
SpellEach (piece ∷ pieces) (word ∷ words) = Spell piece word × SpellEach pieces words

-- a verb and the words after it
abbrev pub call_words : Call → List Word
call_words (calls.Price price) = text (codes "price") ∷ number price ∷ []
call_words (calls.Advance minutes) = text (codes "advance") ∷ number minutes ∷ []
call_words (calls.Fund owner coll) = text (codes "fund") ∷ account owner ∷ number coll ∷ []
call_words (calls.Take owner coll) = text (codes "take") ∷ account owner ∷ number coll ∷ []
call_words (calls.Send from to lusd) = text (codes "send") ∷ account from ∷ account to
    ∷ number lusd ∷ []
call_words (calls.Open owner coll borrow bound h) =
    text (codes "open") ∷ account owner ∷ number coll ∷ number borrow ∷ number bound
    ∷ hint h.prev ∷ hint h.next ∷ []
call_words (calls.Adjust owner coll_in coll_out borrow repay bound h) =
    text (codes "adjust") ∷ account owner ∷ number coll_in ∷ number coll_out
    ∷ number borrow ∷ number repay ∷ number bound ∷ hint h.prev ∷ hint h.next ∷ []
call_words (calls.Close owner) = text (codes "close") ∷ account owner ∷ []
call_words (calls.Provide owner lusd) = text (codes "provide") ∷ account owner ∷ number lusd ∷ []
call_words (calls.Withdraw owner lusd) = text (codes "withdraw") ∷ account owner ∷ number lusd ∷ []
call_words (calls.GainToTrove owner h) =
    text (codes "gain_to_trove") ∷ account owner ∷ hint h.prev ∷ hint h.next ∷ []
call_words (calls.Liquidate liquidator owner) = text (codes "liquidate") ∷ account liquidator
    ∷ account owner ∷ []
call_words (calls.LiquidateLowest liquidator count) =
    text (codes "liquidate_lowest") ∷ account liquidator ∷ number count ∷ []
call_words (calls.Redeem owner lusd bound h) =
    text (codes "redeem") ∷ account owner ∷ number lusd ∷ number bound ∷ hint h.prev
    ∷ hint h.next ∷ []
call_words (calls.Claim owner) = text (codes "claim") ∷ account owner ∷ []
call_words calls.Rotate = text (codes "rotate") ∷ []

-- a query's name and the words after it
abbrev pub query_words : Query → List Word
query_words (queries.Wallet owner) = text (codes "wallet") ∷ account owner ∷ []
query_words (queries.Trove owner) = text (codes "trove") ∷ account owner ∷ []
query_words (queries.Deposit owner) = text (codes "deposit") ∷ account owner ∷ []
query_words queries.Pools = text (codes "pools") ∷ []
query_words queries.System = text (codes "system") ∷ []
query_words (queries.NextNumber client) = text (codes "next_number") ∷ account client ∷ []

abbrev pub request_words : Request → List Word
request_words (Do c) = account c.client ∷ number c.number ∷ call_words c.call
request_words (Ask q) = text (codes "?") ∷ query_words q

-- The line is pieces that spell the words, with one space between two.
abbrev pub IsLineOf : List ℕ → List Word → Type 0
IsLineOf line words = (pieces : List (List ℕ)) × (line ≡ join_with_byte 32 pieces)
    × SpellEach pieces words

abbrev pub Spells : List ℕ → Request → Type 0
Spells line request = IsLineOf line (request_words request)

-- a line spells a request behind a session's number and a space
abbrev pub SpellsInSession : List ℕ → ℕ → Request → Type 0
SpellsInSession line session request =
    (1 ≤ session) × (session ≤ 8) × IsLineOf line (number session ∷ request_words request)

-- The greatest account word stands for no hint, so an account of that number cannot be spelled as
-- one.
abbrev pub CanBeHint : Word → Type 0
CanBeHint (hint h) = IfSome h (λ a. a < 4294967295)
CanBeHint _ = Unit {0}

abbrev pub HasSpelling : Request → Type 0
HasSpelling request = AllByRecursion CanBeHint (request_words request)

-- a line that spells the request stands behind what was there
abbrev pub AppendsLine : List ℕ → List ℕ → Request → Type 0
AppendsLine old new request = (line : List ℕ) × (new ≡ old ++ line) × Spells line request
