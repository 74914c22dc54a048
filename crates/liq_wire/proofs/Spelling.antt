-- Fields and commands are one the other way round.
use Rattle.std.proofs.Common.{◌≡◌, ℕ, zero, suc, ◌<◌, ◌≤◌, List, [], ◌∷◌, replicate, Option, Some, None, Bool, true, false, not, ◌||◌, ◌&&◌, nat_lt, cond, IfSome, Ok, Err, refl, sym, ◌∙◌, ap, arith}
use Rattle.std.specs.Str.{bytes_eq}
use Rattle.std.proofs.lemmas.Bool.Decides.{nat_tests}
use Rattle.std.proofs.lemmas.Slice.Eq.{bytes_eq-Decides}
use Rattle.liq_types.specs.declared.requests.Command.{Command}
use Rattle.liq_types.specs.declared.requests.Call.{Call}
use Rattle.liq_types.specs.declared.requests.Call.TheVariants.{Price, Advance, Fund, Take, Send, Open, Adjust, Close, Provide, Withdraw, GainToTrove, Liquidate, LiquidateLowest, Redeem, Claim, Rotate}
use Rattle.liq_types.specs.declared.hints.HintWords.{HintWords}
use Rattle.liq_wire.specs.Fields.{Fields, fields_of, hint_word, hint_of, hints_of, AreHints, HasHints, heard, shape_of, isnt_zero, first_place, tests, misfit, call_in, command_in, command_of, command_or, fields_at, Spells96}

-- a hint that is written as a word and read again
pub word_back : (n : ℕ) → hint_word (hint_of n) ≡ n
word_back n = grind (arith, nat_tests)

pub hint_back : (h : Option ℕ) → IfSome h (λ a. a < 4294967295) → hint_of (hint_word h) ≡ h
hint_back None below = refl
hint_back (Some a) below = grind (arith, nat_tests)

pub hint_small : (n : ℕ) → n < 4294967296 → IfSome (hint_of n) (λ a. a < 4294967295)
hint_small n below = grind (arith, nat_tests)

-- tests that all failed
abbrev AreFalse : List (Bool × ℕ) → Type 0
AreFalse [] = Unit {0}
AreFalse (test ∷ rest) = (test.0 ≡ false) × AreFalse rest

first_false : (b : Bool) (p : ℕ) (others : Option ℕ) → cond b (Some p) others ≡ None → (b ≡ false) × (others ≡ None)
first_false true p others is = absurd (cc)
first_false false p others is = (refl, is)

are_false : (all : List (Bool × ℕ)) → first_place all ≡ None → AreFalse all
are_false [] is = tt
are_false (test ∷ rest) is = let first = first_false test.0 test.1 (first_place rest) is
    in (first.0, are_false rest first.1)

zero_unless : (b : Bool) (n : ℕ) → (b && isnt_zero n) ≡ false → b ≡ true → n ≡ 0
zero_unless b n is so = grind (arith, nat_tests)

same_bytes : (xs ys : List ℕ) → not (bytes_eq xs ys) ≡ false → xs ≡ ys
same_bytes xs ys is = grind (arith, bytes_eq-Decides)

-- what a fitting kind leaves 0
record Fits (f : Fields) : Type 0 where
  kind : (nat_lt f.kind 1 || nat_lt 16 f.kind) ≡ false
  gap : f.gap ≡ replicate 3 0
  account : nat_lt (shape_of f.kind).accounts 1 ≡ true → f.account ≡ 0
  other : nat_lt (shape_of f.kind).accounts 2 ≡ true → f.other ≡ 0
  amount : nat_lt (shape_of f.kind).amounts 1 ≡ true → f.amount ≡ 0
  amount_2 : nat_lt (shape_of f.kind).amounts 2 ≡ true → f.amount_2 ≡ 0
  amount_3 : nat_lt (shape_of f.kind).amounts 3 ≡ true → f.amount_3 ≡ 0
  amount_4 : nat_lt (shape_of f.kind).amounts 4 ≡ true → f.amount_4 ≡ 0
  amount_5 : nat_lt (shape_of f.kind).amounts 5 ≡ true → f.amount_5 ≡ 0
  before : nat_lt (shape_of f.kind).hints 1 ≡ true → f.before ≡ 0
  after : nat_lt (shape_of f.kind).hints 2 ≡ true → f.after ≡ 0
  rest : f.rest ≡ replicate 24 0

fits : (f : Fields) → misfit f ≡ None → Fits f
unfolding misfit
fits f is =
    let all = are_false (tests f) is in
    record {
      kind = all.0;
      gap = same_bytes f.gap (replicate 3 0) all.1.0;
      account = zero_unless (nat_lt (shape_of f.kind).accounts 1) f.account all.1.1.0;
      other = zero_unless (nat_lt (shape_of f.kind).accounts 2) f.other all.1.1.1.0;
      amount = zero_unless (nat_lt (shape_of f.kind).amounts 1) f.amount all.1.1.1.1.0;
      amount_2 = zero_unless (nat_lt (shape_of f.kind).amounts 2) f.amount_2 all.1.1.1.1.1.0;
      amount_3 = zero_unless (nat_lt (shape_of f.kind).amounts 3) f.amount_3 all.1.1.1.1.1.1.0;
      amount_4 = zero_unless (nat_lt (shape_of f.kind).amounts 4) f.amount_4 all.1.1.1.1.1.1.1.0;
      amount_5 = zero_unless (nat_lt (shape_of f.kind).amounts 5) f.amount_5 all.1.1.1.1.1.1.1.1.0;
      before = zero_unless (nat_lt (shape_of f.kind).hints 1) f.before all.1.1.1.1.1.1.1.1.1.0;
      after = zero_unless (nat_lt (shape_of f.kind).hints 2) f.after all.1.1.1.1.1.1.1.1.1.1.0;
      rest = same_bytes f.rest (replicate 24 0) all.1.1.1.1.1.1.1.1.1.1.1.0;
    }

at_most : (n : ℕ) → (nat_lt n 1 || nat_lt 16 n) ≡ false → n ≤ 16
at_most n is = grind (arith, nat_tests)

-- a field that is 0 where its kind has no word for it
unless : (lacks : Bool) (n : ℕ) → (lacks ≡ true → n ≡ 0) → cond lacks 0 n ≡ n
unless true n none = sym (none refl)
unless false n none = refl

hint_unless : (lacks : Bool) (n : ℕ) → (lacks ≡ true → n ≡ 0) → cond lacks 0 (hint_word (hint_of n)) ≡ n
hint_unless true n none = sym (none refl)
hint_unless false n none = word_back n

module _ (f : Fields) where
  abbrev of_kind : ℕ → Fields
  of_kind kind = record f { kind = kind }

  -- the fields of a kind, with 0 for each word that it lacks
  abbrev cleared : ℕ → Fields
  cleared kind =
      let shape = shape_of kind in
      record {
        kind = kind;
        gap = replicate 3 0;
        client = f.client;
        number = f.number;
        account = cond (nat_lt shape.accounts 1) 0 f.account;
        other = cond (nat_lt shape.accounts 2) 0 f.other;
        amount = cond (nat_lt shape.amounts 1) 0 f.amount;
        amount_2 = cond (nat_lt shape.amounts 2) 0 f.amount_2;
        amount_3 = cond (nat_lt shape.amounts 3) 0 f.amount_3;
        amount_4 = cond (nat_lt shape.amounts 4) 0 f.amount_4;
        amount_5 = cond (nat_lt shape.amounts 5) 0 f.amount_5;
        before = cond (nat_lt shape.hints 1) 0 (hint_word (hint_of f.before));
        after = cond (nat_lt shape.hints 2) 0 (hint_word (hint_of f.after));
        rest = replicate 24 0;
      }

  -- fields that fit have 0 there
  fitting : (kind : ℕ) → Fits (of_kind kind) → cleared kind ≡ of_kind kind
  fitting kind z =
      let shape = shape_of kind in
      λ i. record {
        kind = kind;
        gap = sym z.gap i;
        client = f.client;
        number = f.number;
        account = unless (nat_lt shape.accounts 1) f.account z.account i;
        other = unless (nat_lt shape.accounts 2) f.other z.other i;
        amount = unless (nat_lt shape.amounts 1) f.amount z.amount i;
        amount_2 = unless (nat_lt shape.amounts 2) f.amount_2 z.amount_2 i;
        amount_3 = unless (nat_lt shape.amounts 3) f.amount_3 z.amount_3 i;
        amount_4 = unless (nat_lt shape.amounts 4) f.amount_4 z.amount_4 i;
        amount_5 = unless (nat_lt shape.amounts 5) f.amount_5 z.amount_5 i;
        before = hint_unless (nat_lt shape.hints 1) f.before z.before i;
        after = hint_unless (nat_lt shape.hints 2) f.after z.after i;
        rest = sym z.rest i;
      }

  record IsBack (g : Fields) : Type 0 where
    fields : fields_of (command_in g) ≡ g
    hints : HasHints (call_in g)

  are_hints : f.before < 4294967296 → f.after < 4294967296 → AreHints (hints_of f.before f.after)
  are_hints small small_2 = (hint_small f.before small, hint_small f.after small_2)

  kinds : (kind : ℕ) → f.before < 4294967296 → f.after < 4294967296 → Fits (of_kind kind) → IsBack (of_kind kind)
  unfolding command_in
  kinds zero small small_2 z = absurd (cc (z.kind))
  kinds (suc zero) small small_2 z = record { fields = fitting 1 z; hints = tt }
  kinds (suc (suc zero)) small small_2 z = record { fields = fitting 2 z; hints = tt }
  kinds (suc (suc (suc zero))) small small_2 z = record { fields = fitting 3 z; hints = tt }
  kinds (suc (suc (suc (suc zero)))) small small_2 z = record { fields = fitting 4 z; hints = tt }
  kinds (suc (suc (suc (suc (suc zero))))) small small_2 z = record { fields = fitting 5 z; hints = tt }
  kinds (suc (suc (suc (suc (suc (suc zero)))))) small small_2 z =
      record { fields = fitting 6 z; hints = are_hints small small_2 }
  kinds (suc (suc (suc (suc (suc (suc (suc zero))))))) small small_2 z =
      record { fields = fitting 7 z; hints = are_hints small small_2 }
  kinds (suc (suc (suc (suc (suc (suc (suc (suc zero)))))))) small small_2 z =
      record { fields = fitting 8 z; hints = tt }
  kinds (suc (suc (suc (suc (suc (suc (suc (suc (suc zero))))))))) small small_2 z =
      record { fields = fitting 9 z; hints = tt }
  kinds (suc (suc (suc (suc (suc (suc (suc (suc (suc (suc zero)))))))))) small small_2 z =
      record { fields = fitting 10 z; hints = tt }
  kinds (suc (suc (suc (suc (suc (suc (suc (suc (suc (suc (suc zero))))))))))) small small_2 z =
      record { fields = fitting 11 z; hints = are_hints small small_2 }
  kinds (suc (suc (suc (suc (suc (suc (suc (suc (suc (suc (suc (suc zero)))))))))))) small small_2 z =
      record { fields = fitting 12 z; hints = tt }
  kinds (suc (suc (suc (suc (suc (suc (suc (suc (suc (suc (suc (suc (suc zero))))))))))))) small small_2 z =
      record { fields = fitting 13 z; hints = tt }
  kinds (suc (suc (suc (suc (suc (suc (suc (suc (suc (suc (suc (suc (suc (suc zero)))))))))))))) small small_2 z =
      record { fields = fitting 14 z; hints = are_hints small small_2 }
  kinds (suc (suc (suc (suc (suc (suc (suc (suc (suc (suc (suc (suc (suc (suc (suc zero))))))))))))))) small small_2 z =
      record { fields = fitting 15 z; hints = tt }
  kinds (suc (suc (suc (suc (suc (suc (suc (suc (suc (suc (suc (suc (suc (suc (suc (suc zero)))))))))))))))) small
      small_2 z = record { fields = fitting 16 z; hints = tt }
  kinds (suc (suc (suc (suc (suc (suc (suc (suc (suc (suc (suc (suc (suc (suc (suc (suc (suc kind))))))))))))))))) small
      small_2 z = let low =
      at_most (suc (suc (suc (suc (suc (suc (suc (suc (suc (suc (suc (suc (suc (suc (suc (suc (suc kind)))))))))))))))))
      z.kind in absurd (omega arith)

-- The fields that fit a command are its fields.
pub read_back : (f : Fields) → f.before < 4294967296 → f.after < 4294967296 → misfit f ≡ None
    → (fields_of (command_in f) ≡ f) × HasHints (call_in f)
read_back f small small_2 is = let back = kinds f f.kind small small_2 (fits f is) in (back.fields, back.hints)

abbrev numbered : ℕ → ℕ → Call → Command
numbered client number call = record { client = client; number = number; call = call }

-- A command's fields fit one.
pub no_misfit : (client number : ℕ) (call : Call)
    → misfit (fields_of (numbered client number call)) ≡ None
unfolding misfit
no_misfit client number (Price price) = refl
no_misfit client number (Advance minutes) = refl
no_misfit client number (Fund account coll) = refl
no_misfit client number (Take account coll) = refl
no_misfit client number (Send from to lusd) = refl
no_misfit client number (Open account coll borrow bound hints) = refl
no_misfit client number (Adjust account coll_in coll_out borrow repay bound hints) = refl
no_misfit client number (Close account) = refl
no_misfit client number (Provide account lusd) = refl
no_misfit client number (Withdraw account lusd) = refl
no_misfit client number (GainToTrove account hints) = refl
no_misfit client number (Liquidate liquidator owner) = refl
no_misfit client number (LiquidateLowest liquidator count) = refl
no_misfit client number (Redeem account lusd bound hints) = refl
no_misfit client number (Claim account) = refl
no_misfit client number Rotate = refl

hinted_back : (client number : ℕ) (hints : HintWords) (call : HintWords → Call) → AreHints hints
    → numbered client number (call (hints_of (hint_word hints.prev) (hint_word hints.next)))
    ≡ numbered client number (call hints)
hinted_back client number hints call are =
    ap (λ p. numbered client number (call (record { prev = p; next = hint_of (hint_word hints.next) })))
    (hint_back hints.prev are.0)
    ∙ ap (λ n. numbered client number (call (record { prev = hints.prev; next = n }))) (hint_back hints.next are.1)

-- The bytes of a command are read as that command.
pub written_back : (client number : ℕ) (call : Call) → HasHints call
    → command_in (fields_of (numbered client number call)) ≡ numbered client number call
unfolding command_in
written_back client number (Price price) has = refl
written_back client number (Advance minutes) has = refl
written_back client number (Fund account coll) has = refl
written_back client number (Take account coll) has = refl
written_back client number (Send from to lusd) has = refl
written_back client number (Open account coll borrow bound hints) has =
    hinted_back client number hints (λ (h : HintWords). Open account coll borrow bound h) has
written_back client number (Adjust account coll_in coll_out borrow repay bound hints) has =
    hinted_back client number hints (λ (h : HintWords). Adjust account coll_in coll_out borrow repay bound h) has
written_back client number (Close account) has = refl
written_back client number (Provide account lusd) has = refl
written_back client number (Withdraw account lusd) has = refl
written_back client number (GainToTrove account hints) has =
    hinted_back client number hints (λ (h : HintWords). GainToTrove account h) has
written_back client number (Liquidate liquidator owner) has = refl
written_back client number (LiquidateLowest liquidator count) has = refl
written_back client number (Redeem account lusd bound hints) has =
    hinted_back client number hints (λ (h : HintWords). Redeem account lusd bound h) has
written_back client number (Claim account) has = refl
written_back client number Rotate has = refl

-- any command is read back so
pub heard_back : (client number : ℕ) (call : Call)
    → command_in (fields_of (numbered client number call)) ≡ numbered client number (heard call)
unfolding command_in
heard_back client number (Price price) = refl
heard_back client number (Advance minutes) = refl
heard_back client number (Fund account coll) = refl
heard_back client number (Take account coll) = refl
heard_back client number (Send from to lusd) = refl
heard_back client number (Open account coll borrow bound hints) = refl
heard_back client number (Adjust account coll_in coll_out borrow repay bound hints) = refl
heard_back client number (Close account) = refl
heard_back client number (Provide account lusd) = refl
heard_back client number (Withdraw account lusd) = refl
heard_back client number (GainToTrove account hints) = refl
heard_back client number (Liquidate liquidator owner) = refl
heard_back client number (LiquidateLowest liquidator count) = refl
heard_back client number (Redeem account lusd bound hints) = refl
heard_back client number (Claim account) = refl
heard_back client number Rotate = refl

-- the command of bytes that spell one
pub of_spelled : (bytes : List ℕ) (c : Command) → Spells96 bytes c → HasHints c.call → command_in (fields_at bytes) ≡ c
of_spelled bytes c spells has = ap command_in spells.fields ∙ written_back c.client c.number c.call has

pub fits_spelled : (bytes : List ℕ) (c : Command) → Spells96 bytes c → misfit (fields_at bytes) ≡ None
fits_spelled bytes c spells = ap misfit spells.fields ∙ no_misfit c.client c.number c.call

pub command_is : (bytes : List ℕ) → misfit (fields_at bytes) ≡ None
    → command_of bytes ≡ Ok (command_in (fields_at bytes))
unfolding command_of
command_is bytes fits = ap (λ (o : Option ℕ). command_or o (command_in (fields_at bytes))) fits

pub misfit_is : (bytes : List ℕ) (place : ℕ) → misfit (fields_at bytes) ≡ Some place → command_of bytes ≡ Err place
unfolding command_of
misfit_is bytes place is = ap (λ (o : Option ℕ). command_or o (command_in (fields_at bytes))) is
