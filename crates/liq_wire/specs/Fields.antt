-- A command in 96 bytes: its fields as numbers, high byte first, and which command they are.
use Rattle.std.specs.Prelude.{◌≡◌, ℕ, ◌<◌, ◌&&◌, List, [], ◌∷◌, length, take, drop, get_or, replicate, Option, Some, None, Result, Ok, Err, Bool, not, ◌||◌, ◌==◌, nat_lt, if◌then◌else◌, IfSome}
use Rattle.std.specs.Str.{bytes_eq}
use Rattle.byteorder.specs.Endian.{big_number}
use Rattle.liq_types.specs.declared.requests.Command.{Command}
use Rattle.liq_types.specs.declared.requests.Call.{Call}
use Rattle.liq_types.specs.declared.requests.Call.TheVariants.{Price, Advance, Fund, Take, Send, Open, Adjust, Close, Provide, Withdraw, GainToTrove, Liquidate, LiquidateLowest, Redeem, Claim, Rotate}
use Rattle.liq_types.specs.declared.hints.HintWords.{HintWords}

-- what stands in the fields: two accounts, five amounts, two hints, and the bytes that are kept 0
pub record Fields : Type 0 where
  pub kind : ℕ
  pub gap : List ℕ
  pub client : ℕ
  pub number : ℕ
  pub account : ℕ
  pub other : ℕ
  pub amount : ℕ
  pub amount_2 : ℕ
  pub amount_3 : ℕ
  pub amount_4 : ℕ
  pub amount_5 : ℕ
  pub before : ℕ
  pub after : ℕ
  pub rest : List ℕ

-- the number in so many bytes from a place on, high byte first
unfoldable pub number_at : ℕ → ℕ → List ℕ → ℕ
number_at place count bytes = big_number count (drop place bytes)

-- the fields of 96 bytes
abbrev pub fields_at : List ℕ → Fields
fields_at bytes = record {
  kind = get_or bytes 0 0;
  gap = take 3 (drop 1 bytes);
  client = number_at 4 4 bytes;
  number = number_at 8 8 bytes;
  account = number_at 16 4 bytes;
  other = number_at 20 4 bytes;
  amount = number_at 24 8 bytes;
  amount_2 = number_at 32 8 bytes;
  amount_3 = number_at 40 8 bytes;
  amount_4 = number_at 48 8 bytes;
  amount_5 = number_at 56 8 bytes;
  before = number_at 64 4 bytes;
  after = number_at 68 4 bytes;
  rest = drop 72 bytes;
}

-- a hint word as a number: the greatest is none
abbrev pub hint_word : Option ℕ → ℕ
hint_word None = 4294967295
hint_word (Some account) = account

abbrev pub hint_of : ℕ → Option ℕ
hint_of word = if word == 4294967295 then None else Some word

abbrev pub hints_of : ℕ → ℕ → HintWords
hints_of before after = record { prev = hint_of before; next = hint_of after }

-- the fields of a kind that has no words
abbrev pub bare : ℕ → Command → Fields
bare kind command = record {
  kind = kind;
  gap = replicate 3 0;
  client = command.client;
  number = command.number;
  account = 0;
  other = 0;
  amount = 0;
  amount_2 = 0;
  amount_3 = 0;
  amount_4 = 0;
  amount_5 = 0;
  before = 0;
  after = 0;
  rest = replicate 24 0;
}

-- the fields with two hints
abbrev pub hinted : HintWords → Fields → Fields
hinted hints fields = record fields { before = hint_word hints.prev; after = hint_word hints.next }

-- What stands in the fields of a command: its words in their order, and 0 where its kind has none.
abbrev pub call_fields : Command → Call → Fields
call_fields c (Price price) = record (bare 1 c) { amount = price }
call_fields c (Advance minutes) = record (bare 2 c) { amount = minutes }
call_fields c (Fund account coll) = record (bare 3 c) { account = account; amount = coll }
call_fields c (Take account coll) = record (bare 4 c) { account = account; amount = coll }
call_fields c (Send from to lusd) = record (bare 5 c) { account = from; other = to; amount = lusd }
call_fields c (Open account coll borrow bound hints) =
    hinted hints (record (bare 6 c) {
      account = account;
      amount = coll;
      amount_2 = borrow;
      amount_3 = bound;
    })
call_fields c (Adjust account coll_in coll_out borrow repay bound hints) =
    hinted hints (record (bare 7 c) {
      account = account;
      amount = coll_in;
      amount_2 = coll_out;
      amount_3 = borrow;
      amount_4 = repay;
      amount_5 = bound;
    })
call_fields c (Close account) = record (bare 8 c) { account = account }
call_fields c (Provide account lusd) = record (bare 9 c) { account = account; amount = lusd }
call_fields c (Withdraw account lusd) = record (bare 10 c) { account = account; amount = lusd }
call_fields c (GainToTrove account hints) = hinted hints (record (bare 11 c) { account = account })
call_fields c (Liquidate liquidator owner) = record (bare 12 c) {
  account = liquidator;
  other = owner;
}
call_fields c (LiquidateLowest liquidator count) = record (bare 13 c) {
  account = liquidator;
  amount = count;
}
call_fields c (Redeem account lusd bound hints) =
    hinted hints (record (bare 14 c) { account = account; amount = lusd; amount_2 = bound })
call_fields c (Claim account) = record (bare 15 c) { account = account }
call_fields c Rotate = bare 16 c

abbrev pub fields_of : Command → Fields
fields_of command = call_fields command command.call

-- the bytes are the command's
pub record Spells96 (bytes : List ℕ) (command : Command) : Type 0 where
  pub size : length bytes ≡ 96
  pub fields : fields_at bytes ≡ fields_of command

-- A hint is absent or below the greatest word, which stands for none.
abbrev pub AreHints : HintWords → Type 0
AreHints hints = IfSome hints.prev (λ a. a < 4294967295) × IfSome hints.next (λ a. a < 4294967295)

abbrev pub HasHints : Call → Type 0
HasHints (Open account coll borrow bound hints) = AreHints hints
HasHints (Adjust account coll_in coll_out borrow repay bound hints) = AreHints hints
HasHints (GainToTrove account hints) = AreHints hints
HasHints (Redeem account lusd bound hints) = AreHints hints
HasHints _ = Unit {0}

-- hints as they are read back: the greatest word is none
abbrev pub heard_hints : HintWords → HintWords
heard_hints hints = hints_of (hint_word hints.prev) (hint_word hints.next)

-- a call as it is read back
abbrev pub heard : Call → Call
heard (Open account coll borrow bound hints) = Open account coll borrow bound (heard_hints hints)
heard (Adjust account coll_in coll_out borrow repay bound hints) =
    Adjust account coll_in coll_out borrow repay bound (heard_hints hints)
heard (GainToTrove account hints) = GainToTrove account (heard_hints hints)
heard (Redeem account lusd bound hints) = Redeem account lusd bound (heard_hints hints)
heard call = call

-- how many accounts, amounts and hints a kind has
pub record Shape : Type 0 where
  pub accounts : ℕ
  pub amounts : ℕ
  pub hints : ℕ

-- the shapes of the kinds from 0 on, which is no kind
abbrev pub shapes : List Shape
shapes =
    record { accounts = 0; amounts = 0; hints = 0 }
    ∷ record { accounts = 0; amounts = 1; hints = 0 }
    ∷ record { accounts = 0; amounts = 1; hints = 0 }
    ∷ record { accounts = 1; amounts = 1; hints = 0 }
    ∷ record { accounts = 1; amounts = 1; hints = 0 }
    ∷ record { accounts = 2; amounts = 1; hints = 0 }
    ∷ record { accounts = 1; amounts = 3; hints = 2 }
    ∷ record { accounts = 1; amounts = 5; hints = 2 }
    ∷ record { accounts = 1; amounts = 0; hints = 0 }
    ∷ record { accounts = 1; amounts = 1; hints = 0 }
    ∷ record { accounts = 1; amounts = 1; hints = 0 }
    ∷ record { accounts = 1; amounts = 0; hints = 2 }
    ∷ record { accounts = 2; amounts = 0; hints = 0 }
    ∷ record { accounts = 1; amounts = 1; hints = 0 }
    ∷ record { accounts = 1; amounts = 2; hints = 2 }
    ∷ record { accounts = 1; amounts = 0; hints = 0 }
    ∷ record { accounts = 0; amounts = 0; hints = 0 }
    ∷ []

abbrev pub shape_of : ℕ → Shape
shape_of kind = get_or shapes kind (record { accounts = 0; amounts = 0; hints = 0 })

abbrev pub isnt_zero : ℕ → Bool
isnt_zero n = not (n == 0)

-- the place of the first field that fits no command: the tests in the order of the places
abbrev pub first_place : List (Bool × ℕ) → Option ℕ
first_place [] = None
first_place (test ∷ tests) = if test.0 then Some test.1 else first_place tests

abbrev pub tests : Fields → List (Bool × ℕ)
tests f =
    let shape = shape_of f.kind in
    (nat_lt f.kind 1 || nat_lt 16 f.kind, 0)
    ∷ (not (bytes_eq f.gap (replicate 3 0)), 1)
    ∷ (nat_lt shape.accounts 1 && isnt_zero f.account, 16)
    ∷ (nat_lt shape.accounts 2 && isnt_zero f.other, 20)
    ∷ (nat_lt shape.amounts 1 && isnt_zero f.amount, 24)
    ∷ (nat_lt shape.amounts 2 && isnt_zero f.amount_2, 32)
    ∷ (nat_lt shape.amounts 3 && isnt_zero f.amount_3, 40)
    ∷ (nat_lt shape.amounts 4 && isnt_zero f.amount_4, 48)
    ∷ (nat_lt shape.amounts 5 && isnt_zero f.amount_5, 56)
    ∷ (nat_lt shape.hints 1 && isnt_zero f.before, 64)
    ∷ (nat_lt shape.hints 2 && isnt_zero f.after, 68)
    ∷ (not (bytes_eq f.rest (replicate 24 0)), 72)
    ∷ []

unfoldable pub misfit : Fields → Option ℕ
misfit f = first_place (tests f)

-- the call in fields that fit one
abbrev pub call_in : Fields → Call
call_in f =
    let hints = hints_of f.before f.after in
    if f.kind == 1 then Price f.amount
    else if f.kind == 2 then Advance f.amount
    else if f.kind == 3 then Fund f.account f.amount
    else if f.kind == 4 then Take f.account f.amount
    else if f.kind == 5 then Send f.account f.other f.amount
    else if f.kind == 6 then Open f.account f.amount f.amount_2 f.amount_3 hints
    else if f.kind == 7 then Adjust f.account f.amount f.amount_2 f.amount_3 f.amount_4
    f.amount_5 hints
    else if f.kind == 8 then Close f.account
    else if f.kind == 9 then Provide f.account f.amount
    else if f.kind == 10 then Withdraw f.account f.amount
    else if f.kind == 11 then GainToTrove f.account hints
    else if f.kind == 12 then Liquidate f.account f.other
    else if f.kind == 13 then LiquidateLowest f.account f.amount
    else if f.kind == 14 then Redeem f.account f.amount f.amount_2 hints
    else if f.kind == 15 then Claim f.account
    else Rotate

unfoldable pub command_in : Fields → Command
command_in f = record { client = f.client; number = f.number; call = call_in f }

-- the command that 96 bytes are, or the place of the first field that fits none
abbrev pub command_or : Option ℕ → Command → Result Command ℕ
command_or None command = Ok command
command_or (Some place) command = Err place

unfoldable pub command_of : List ℕ → Result Command ℕ
command_of bytes = command_or (misfit (fields_at bytes)) (command_in (fields_at bytes))
