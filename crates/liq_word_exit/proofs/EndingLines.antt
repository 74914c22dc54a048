-- Last lines, of which a sink may hold a front.
use Rattle.std.proofs.Common.{◌≡◌, ℕ, ◌≤◌, List, [], ◌∷◌, ◌++◌, take, drop, Option, Ok, Err, Result, refl, ap, sym, subst, ◌∙◌, append-nil, arith, inl, inr}
use Rattle.std.specs.Prelude.{OnOk, OnErr, ◌⊎◌}
use Rattle.std.proofs.lemmas.List.{take-append-drop}
use Rattle.liq_outside.specs.declared.failed.Failed.{Failed}
use Rattle.liq_outside.specs.Faults.{Rose}
use Rattle.liq_word_exit.specs.Stops.{Adds}
use Rattle.liq_text_lines.specs.Writing.{Writes, WritesPart}
use Rattle.liq_text_lines.proofs.Bytes.{writes_more, writes_nothing}

pub adds_line : (fault : Type 0) (result : Result (Unit {0}) Failed) (line : List ℕ) (before after : Option (List ℕ))
    → OnOk result (Writes before line after) → OnErr result (WritesPart before line after) → OnErr result fault
    → Adds [] line fault before after
adds_line fault (Ok done) line before after ok err cause = (line, ok, inl refl)
adds_line fault (Err failed) line before after ok err cause =
    (take err.0 line, err.2, inr (cause, (drop err.0 line, sym (take-append-drop err.0 line))))

-- the text is a front of the whole
abbrev IsFrontOf : List ℕ → List ℕ → Type 0
IsFrontOf front whole = (rest : List ℕ) × (whole ≡ front ++ rest)

pub no_part : (fault : Type 0) (part : List ℕ) → (part ≡ []) ⊎ (fault × IsFrontOf part []) → part ≡ []
no_part fault part (inl none) = none
no_part fault [] (inr cut) = refl
no_part fault (x ∷ part) (inr cut) = absurd (cc (cut.1.1))

-- a part that was written stays where no line follows
pub part_stays : (fault : Type 0) (line : List ℕ) (before now after : Option (List ℕ)) → WritesPart before line now
    → Adds [] [] fault now after → WritesPart before line after
part_stays fault line before now after h adds =
    let more = writes_more before now after (take h.0 line) adds.0 h.2 adds.1 in (
      h.0,
      h.1,
      subst (λ (t : List ℕ). Writes before t after) (ap (λ (t : List ℕ). take h.0 line ++ t)
          (no_part fault adds.0 adds.2) ∙ append-nil (take h.0 line)) more,
    )

pub nothing_added : (fault : Type 0) (before : Option (List ℕ)) → Adds [] [] fault before before
nothing_added fault before = ([], writes_nothing before, inl refl)

-- the fault that a part of a line shows is one of the whole call
pub rose_later : (a b c : ℕ) → a ≤ b → Rose b c → Rose a c
rose_later a b c le (inl lt) = inl (omega (arith, le, lt))
rose_later a b c le (inr most) = inr most

pub adds_weaker : (line : List ℕ) (F G : Type 0) (before now : Option (List ℕ)) → (F → G) → Adds [] line F before now
    → Adds [] line G before now
adds_weaker line F G before now f a = (a.0, a.1, by a.2) where
  by : (a.0 ≡ line) ⊎ (F × IsFrontOf a.0 line) → (a.0 ≡ line) ⊎ (G × IsFrontOf a.0 line)
  by (inl whole) = inl whole
  by (inr cut) = inr (f cut.0, cut.1)

pub on_err_of : {P : Type 0} (result : Result (Unit {0}) Failed) → P → OnErr result P
on_err_of (Ok done) p = tt
on_err_of (Err failed) p = p

pub on_err_map : {P Q : Type 0} (result : Result (Unit {0}) Failed) → (P → Q) → OnErr result P → OnErr result Q
on_err_map (Ok done) f p = tt
on_err_map (Err failed) f p = f p
