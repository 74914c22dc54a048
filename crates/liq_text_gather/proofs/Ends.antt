-- Where reading ends.
use Rattle.std.proofs.Common.{◌≡◌, ℕ, ◌≤◌, List, [], length, Option, Some, Result, Ok, Err, refl, subst, arith, inl, inr}
use Rattle.std.specs.List.{AllZip}
use Rattle.std.specs.Prelude.{◌⊎◌, IsOkUnless}
use Rattle.liq_types.specs.declared.amounts.TheConstants.{LINES_MOST}
use Rattle.liq_outside.specs.Faults.{Rose}
use Rattle.liq_text_lines.specs.declared.stops.Stop.{Stop}
use Rattle.liq_text_lines.specs.declared.stops.Stop.TheVariants.{ReadFault, NoMemory}
use Rattle.liq_text_lines.specs.Lines.{lines_in}
use Rattle.liq_text_lines.specs.Saying.{StopsAfter}
use Rattle.liq_text_lines.proofs.Sayings.{stops_outside}
use Rattle.liq_text_gather.specs.Gathering.{Gathers, ReadCause}

module _ {X : Type 0} (Says : List ℕ → X → Type 0) where
  -- nothing was read
  pub gathers_nothing : {T : Type 0} (Has : T → List X → Type 0) (before left : Option (List ℕ))
      → Gathers Says Has (Err NoMemory) before left
  gathers_nothing Has before left =
      record {
        said = [];
        few = omega arith;
        has = tt;
        read = λ bytes told. (lines_in bytes, ([], tt, refl));
      }

  -- it stopped, whatever it was to give
  pub gathers_stopped : {T U : Type 0} (Had : T → List X → Type 0) (Has : U → List X
      → Type 0) (stop : Stop) (before left : Option (List ℕ)) → Gathers Says Had (Err stop) before left
      → Gathers Says Has (Err stop) before left
  gathers_stopped Had Has stop before left h = record { said = h.said; few = h.few; has = tt; read = h.read }

  -- it came to the source's end, and gives what has the same
  pub gathers_done : {T U : Type 0} (Had : T → List X → Type 0) (Has : U → List X
      → Type 0) (x : T) (y : U) (before left : Option (List ℕ)) → ((said : List X) → Had x said → Has y said)
      → Gathers Says Had (Ok x) before left → Gathers Says Has (Ok y) before left
  gathers_done Had Has x y before left same h = record {
    said = h.said;
    few = h.few;
    has = same h.said h.has;
    read = h.read;
  }

  -- ---- where each line says something

  at_fault : (T : Type 0) (stop : Stop) (before after : ℕ) → (Rose before after → ⊥)
      → ReadCause {T = T} (Err stop) before after → (stop ≡ ReadFault) ⊎ (stop ≡ NoMemory) → stop ≡ NoMemory
  at_fault T stop before after calm cause (inl fault) =
      absurd (calm (subst (λ (s : Stop). ReadCause {T = T} (Err s) before after) fault cause).1)
  at_fault T stop before after calm cause (inr none) = none

  pub without_memory_alone : (T : Type 0) (stop : Stop) (bytes : List ℕ) (left : Option (List ℕ)) (said all : List X)
      (before after : ℕ) → AllZip Says (lines_in bytes) all → length all ≤ LINES_MOST → (Rose before after → ⊥)
      → ReadCause {T = T} (Err stop) before after → StopsAfter Says stop bytes left said → stop ≡ NoMemory
  without_memory_alone T stop bytes left said all before after spelled few calm cause e =
      at_fault T stop before after calm cause (stops_outside Says stop bytes left said all spelled few e)

  pub calm_alone : {T : Type 0} (Has : T → List X → Type 0) (end : Result T Stop) (bytes : List ℕ) (start left : Option
      (List ℕ)) (all : List X) (before after : ℕ) → start ≡ Some bytes → AllZip Says (lines_in bytes) all
      → length all ≤ LINES_MOST → (Rose before after → ⊥) → ReadCause end before after → Gathers Says Has end start left
      → IsOkUnless end NoMemory
  calm_alone Has (Ok x) bytes start left all before after told spelled few calm cause h = tt
  calm_alone {T} Has (Err stop) bytes start left all before after told spelled few calm cause h =
      without_memory_alone T stop bytes left h.said all before after spelled few calm cause (h.read bytes told)
