-- The fields of what was written are what was written there.
use Rattle.std.proofs.Common.{◌≡◌, ℕ, ◌+◌, ◌^◌, ◌<◌, List, ◌++◌, take, drop, set, replicate}
use Rattle.byteorder.specs.Endian.{big_bytes}
use Rattle.byteorder.specs.Numbers.{big_number-reads_back}
use Rattle.liq_wire.specs.Fields.{Fields, number_at, fields_at}

-- a number in so many bytes at a place
abbrev pub put : ℕ → ℕ → ℕ → List ℕ → List ℕ
put at count n held = take at held ++ big_bytes count n ++ drop (at + count) held

module _ (kind client number account other amount amount_2 amount_3 amount_4 amount_5 before after : ℕ) where
  abbrev pub whole : List ℕ
  whole = (put 68 4 after
      (put 64 4 before
      (put 56 8 amount_5
      (put 48 8 amount_4
      (put 40 8 amount_3
      (put 32 8 amount_2
      (put 24 8 amount
      (put 20 4 other (put 16 4 account (put 8 8 number (put 4 4 client (set (replicate 96 0) 0 kind))))))))))))

  abbrev pub written : Fields
  written = record {
    kind = kind;
    gap = replicate 3 0;
    client = client;
    number = number;
    account = account;
    other = other;
    amount = amount;
    amount_2 = amount_2;
    amount_3 = amount_3;
    amount_4 = amount_4;
    amount_5 =
        amount_5;
    before = before;
    after = after;
    rest = replicate 24 0;
  }

  client_is : client < 2 ^ 32 → number_at 4 4 whole ≡ client
  unfolding number_at
  client_is small = big_number-reads_back 4 client (drop 8 whole) small

  number_is : number < 2 ^ 64 → number_at 8 8 whole ≡ number
  unfolding number_at
  number_is small = big_number-reads_back 8 number (drop 16 whole) small

  account_is : account < 2 ^ 32 → number_at 16 4 whole ≡ account
  unfolding number_at
  account_is small = big_number-reads_back 4 account (drop 20 whole) small

  other_is : other < 2 ^ 32 → number_at 20 4 whole ≡ other
  unfolding number_at
  other_is small = big_number-reads_back 4 other (drop 24 whole) small

  amount_is : amount < 2 ^ 64 → number_at 24 8 whole ≡ amount
  unfolding number_at
  amount_is small = big_number-reads_back 8 amount (drop 32 whole) small

  amount_2_is : amount_2 < 2 ^ 64 → number_at 32 8 whole ≡ amount_2
  unfolding number_at
  amount_2_is small = big_number-reads_back 8 amount_2 (drop 40 whole) small

  amount_3_is : amount_3 < 2 ^ 64 → number_at 40 8 whole ≡ amount_3
  unfolding number_at
  amount_3_is small = big_number-reads_back 8 amount_3 (drop 48 whole) small

  amount_4_is : amount_4 < 2 ^ 64 → number_at 48 8 whole ≡ amount_4
  unfolding number_at
  amount_4_is small = big_number-reads_back 8 amount_4 (drop 56 whole) small

  amount_5_is : amount_5 < 2 ^ 64 → number_at 56 8 whole ≡ amount_5
  unfolding number_at
  amount_5_is small = big_number-reads_back 8 amount_5 (drop 64 whole) small

  before_is : before < 2 ^ 32 → number_at 64 4 whole ≡ before
  unfolding number_at
  before_is small = big_number-reads_back 4 before (drop 68 whole) small

  after_is : after < 2 ^ 32 → number_at 68 4 whole ≡ after
  unfolding number_at
  after_is small = big_number-reads_back 4 after (drop 72 whole) small

  pub fields_whole : client < 2 ^ 32 → number < 2 ^ 64 → account < 2 ^ 32 → other < 2 ^ 32 → amount < 2 ^ 64
      → amount_2 < 2 ^ 64 → amount_3 < 2 ^ 64 → amount_4 < 2 ^ 64 → amount_5 < 2 ^ 64 → before < 2 ^ 32 → after < 2 ^ 32
      → fields_at whole ≡ written
  fields_whole h_client h_number h_account h_other h_amount h_amount_2 h_amount_3 h_amount_4 h_amount_5 h_before
      h_after = λ i. record {
        kind = kind;
        gap = replicate 3 0;
        client = client_is h_client i;
        number = number_is h_number i;
        account = account_is h_account i;
        other = other_is h_other i;
        amount =
            amount_is h_amount i;
        amount_2 = amount_2_is h_amount_2 i;
        amount_3 = amount_3_is h_amount_3 i;
        amount_4 =
            amount_4_is h_amount_4 i;
        amount_5 = amount_5_is h_amount_5 i;
        before = before_is h_before i;
        after =
            after_is h_after i;
        rest = replicate 24 0;
      }
