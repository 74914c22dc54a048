-- A load on its way: what is counted so far, and how its line is written.
use Rattle.std.specs.Prelude.{ℕ, ◌≡◌, ◌+◌, ◌*◌, ◌≤◌, List, [], ◌∷◌, ◌++◌}
use Rattle.std.specs.Prelude.{length, count_by, codes, decimal, Option, Result, Ok, Err}
use Rattle.liq_types.specs.declared.amounts.TheConstants.{LOWEST_MOST}
use Rattle.liq_types.specs.declared.requests.Call.{Call}
use Rattle.liq_types.specs.declared.requests.Request.{Request}
use Rattle.liq_types.specs.declared.requests.Request.TheVariants.{Do}
use Rattle.liq_types.specs.State.{State, client_of}
use Rattle.liq_stability.specs.declared.words.PoolWords.{PoolWords}
use Rattle.liq_audit.specs.Auditable.{offsets_in}
use Rattle.liq_rule_step.specs.Events.{events}
use Rattle.liq_rule_step.specs.Step.{run, accepted, next_number}
use Rattle.liq_core.specs.Core.{Core, state_of}
use Rattle.liq_text_lines.specs.Writing.{Writes, WritesPart}
use Rattle.liq_word_exit.specs.declared.halts.Halt.{Halt}
use Rattle.liq_word_exit.specs.declared.halts.Halt.TheVariants.{WriteFault, NoMemory}
use Rattle.liq_word_gen.specs.declared.load.Counts.{Counts}
use Rattle.liq_word_gen.specs.Load.{is_refusal}

-- client 1's next command, with this call
abbrev pub next_command : State → Call → Request
next_command s call = Do (record { client = 1; number = next_number s 1; call = call })

-- what is counted over requests from a state on
abbrev pub counts : State → List Request → Counts
counts s requests = record {
  accepted = length (accepted s requests);
  refused = count_by is_refusal (run s requests).1;
  offsets = offsets_in (events s (accepted s requests));
}

-- the line of counts, of the Stability Pool's words and of the debt of all troves
abbrev pub told : Counts → PoolWords → ℕ → List ℕ
told counts words supply =
    codes "accepted " ++ decimal counts.accepted
    ++ codes " refused " ++ decimal counts.refused
    ++ codes " offsets " ++ decimal counts.offsets
    ++ codes " epochs " ++ decimal words.epoch ++ codes " scale " ++ decimal words.scale
    ++ codes " p " ++ decimal words.p ++ codes " total " ++ decimal words.total
    ++ codes " coll " ++ decimal words.coll ++ codes " supply " ++ decimal supply ++ 10 ∷ []

abbrev pub none_yet : Counts
none_yet = record { accepted = 0; refused = 0; offsets = 0 }

-- the sums of two counts
abbrev pub plus : Counts → Counts → Counts
plus a b = record {
  accepted = a.accepted + b.accepted;
  refused = a.refused + b.refused;
  offsets = a.offsets + b.offsets;
}

-- these are counts of at most n commands
pub record AreWithin (n : ℕ) (c : Counts) : Type 0 where
  pub commands : c.accepted + c.refused ≤ n
  pub offsets : c.offsets ≤ LOWEST_MOST * c.accepted

-- client 1's last number is how many commands were accepted
abbrev pub IsNumbered : Core → Counts → Type 0
IsNumbered core c = (client_of (state_of core) 1).last ≡ c.accepted

-- the line was written, or there was no memory for it, or the sink met a fault within it
abbrev pub WritesLine : List ℕ → Result (Unit {0}) Halt → Option (List ℕ) → Option (List ℕ) → Type 0
WritesLine line (Ok done) before now = Writes before line now
WritesLine line (Err WriteFault) before now = WritesPart before line now
WritesLine line (Err NoMemory) before now = now ≡ before
WritesLine line (Err _) before now = ⊥
