-- How much of a source is taken that is read line by line.
use Rattle.std.proofs.Common.{◌≡◌, ℕ, ◌+◌, ◌*◌, ◌≤◌, [], List, length, Option, Some, None, refl, sym, subst, arith}
use Rattle.liq_types.specs.declared.amounts.TheConstants.{LINE_BYTES, LINES_MOST}
use Rattle.liq_text_lines.specs.declared.reader.TheConstants.{READ_BYTES}
use Rattle.liq_text_lines.specs.Reading.{unread, taken_most, Reads, ReadsAtMost, ReadsFew}
use Rattle.liq_text_lines.proofs.Few.{few_more, few_none, few_taken, few_within}

-- who takes nothing reads no more than may be read
pub takes_none : (before : Option (List ℕ)) → ReadsAtMost (taken_most LINES_MOST) before before
takes_none before = few_within before before 0 (taken_most LINES_MOST) (few_none before) (omega arith)

pub few_begins : (left : Option (List ℕ)) (reader : List ℕ) → reader ≡ [] → ReadsFew left 0 reader left
few_begins left reader none = subst (λ (held : List ℕ). ReadsFew left 0 held left) (sym none)
    (record { few = ([], by left, omega arith); held = omega arith }) where
      by : (left : Option (List ℕ)) → Reads left [] (unread [] left)
      by None = refl
      by (Some bytes) = refl

module _ (before : Option (List ℕ)) (n : ℕ) (reader : List ℕ) (left : Option (List ℕ))
    (h : ReadsFew before n reader left) where
  pub few_still : ReadsFew before (n + 1) reader left
  few_still = record {
    few = few_within before (unread reader left) (n * (LINE_BYTES + 1)) ((n + 1) * (LINE_BYTES + 1))
        h.few (omega arith);
    held = h.held;
  }

  -- one more line was read
  pub few_line : (reader' : List ℕ) (left' : Option (List ℕ))
      → ReadsAtMost (LINE_BYTES + 1) (unread reader left) (unread reader' left') → length reader' ≤ READ_BYTES
      → ReadsFew before (n + 1) reader' left'
  few_line reader' left' read held = record {
    few = few_within before (unread reader' left') (n * (LINE_BYTES + 1) + (LINE_BYTES + 1))
        ((n + 1) * (LINE_BYTES + 1)) (few_more before (unread reader left) (unread reader' left') (n * (LINE_BYTES + 1))
        (LINE_BYTES + 1) h.few read) (omega arith);
    held = held;
  }

  module _ (most : n ≤ LINES_MOST) where
    pub few_in_all : ReadsAtMost (taken_most LINES_MOST) before left
    few_in_all = few_within before left (n * (LINE_BYTES + 1) + READ_BYTES) (taken_most LINES_MOST)
        (few_taken before left reader (n * (LINE_BYTES + 1)) READ_BYTES h.few h.held) (omega (arith, most))

    -- behind the lines some bytes more were read, and are within what one read asks for
    pub few_behind : (bytes reader' : List ℕ) (left' : Option (List ℕ))
        → Reads (unread reader left) bytes (unread reader' left') → length bytes + length reader' ≤ READ_BYTES
        → ReadsAtMost (taken_most LINES_MOST) before left'
    few_behind bytes reader' left' read held =
        let more = few_taken (unread reader left) left' reader' (length bytes) (length reader') (
          bytes,
          read,
          omega arith,
        ) (omega arith) in
        few_within before left' (n * (LINE_BYTES + 1) + (length bytes + length reader')) (taken_most LINES_MOST)
        (few_more before (unread reader left) left' (n * (LINE_BYTES + 1)) (length bytes + length reader') h.few more)
        (omega (arith, most, held))
