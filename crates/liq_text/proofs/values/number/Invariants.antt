use Rattle.std.proofs.Common.{◌≡◌, ◌<◌, ◌^◌, take}
use Rattle.std.specs.Str.Parse.{AllDigits, digits_value}
use Rattle.liq_text.proofs.values.number.Given as goal

-- the bytes so far are digits, and this is what they write
abbrev pub invariant-loop-byte : goal.invariant-loop-byte
invariant-loop-byte l =
    record {
      digits : AllDigits 10 (take l.byte-index l.word);
      fits : l.number < 2 ^ 64;
      value : l.number ≡ digits_value 10 (take l.byte-index l.word);
    }
