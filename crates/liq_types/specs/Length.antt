-- How many bytes a checkpoint of an image has: its words, a count before each table, and the
-- tables' rows. An account or a client has 4 bytes, a product or a sum 16, a verb's place 1, and
-- every other number 8.
use Rattle.std.specs.Prelude.{ℕ, ◌+◌, ◌*◌, length}
use Rattle.liq_types.specs.declared.lengths.RowCounts.{RowCounts}
use Rattle.liq_types.specs.Image.{Image}

-- a name of eight bytes; 21 numbers, 2 sums per stake, the product and its sum; and six counts
abbrev pub words_length : ℕ
words_length = 8 + 8 * 21 + 16 * 4 + 8 * 6

-- a row of wallets: the account, and collateral and LUSD
abbrev pub wallet_length : ℕ
wallet_length = 4 + 8 * 2

-- a row of troves: the account, collateral, debt and stake, and two sums
abbrev pub trove_length : ℕ
trove_length = 4 + 8 * 3 + 16 * 2

-- a row of what owners may claim: the account, and collateral
abbrev pub surplus_length : ℕ
surplus_length = 4 + 8

-- a row of finished sums: a place and its sum
abbrev pub finished_length : ℕ
finished_length = 8 * 2 + 16

-- a row of deposits: the account, the amount, a product and a sum, and their place
abbrev pub deposit_length : ℕ
deposit_length = 4 + 8 + 16 * 2 + 8 * 2

-- a row of clients: the client, its last number, and the reply to that
abbrev pub client_length : ℕ
client_length = 4 + 8 + 1 + 8 * 6

-- the length of a checkpoint with so many rows in each table
abbrev pub length_with : RowCounts → ℕ
length_with n =
    words_length
    + wallet_length * n.wallets
    + trove_length * n.troves
    + surplus_length * n.surplus_rows
    + finished_length * n.finished
    + deposit_length * n.deposits
    + client_length * n.clients

abbrev pub checkpoint_length : Image → ℕ
checkpoint_length i =
    length_with (record {
      wallets = length i.wallets;
      troves = length i.troves;
      surplus_rows = length i.surplus_rows;
      finished = length i.finished;
      deposits = length i.deposits;
      clients = length i.clients;
    })
