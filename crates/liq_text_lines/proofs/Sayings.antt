-- Where each line says something.
use Rattle.std.proofs.Common.{◌≡◌, ℕ, ◌≤◌, List, [], ◌∷◌, ◌++◌, length, Option, refl, ap, subst, length-append, arith, suc, inl, inr}
use Rattle.std.specs.Prelude.{◌⊎◌}
use Rattle.std.specs.List.{AllZip}
use Rattle.liq_types.specs.declared.amounts.TheConstants.{LINES_MOST}
use Rattle.liq_text_lines.specs.declared.stops.Stop.{Stop}
use Rattle.liq_text_lines.specs.declared.stops.Stop.TheVariants.{BadLine, ReadFault, NoMemory, Limit}
use Rattle.liq_text_lines.specs.Lines.{lines_in}
use Rattle.liq_text_lines.specs.Saying.{IsBadLine, StopsAfter}

module _ {X : Type 0} (Says : List ℕ → X → Type 0) where
  bad_among : (front : List (List ℕ)) (line : List ℕ) (more : List (List ℕ)) (said : List X)
      → AllZip Says (front ++ line ∷ more) said → IsBadLine Says line → ⊥
  bad_among [] line more [] h bad = h
  bad_among [] line more (x ∷ said) h bad = bad x h.0
  bad_among (l ∷ front) line more [] h bad = h
  bad_among (l ∷ front) line more (x ∷ said) h bad = bad_among front line more said h.1 bad

  same_length : (lines : List (List ℕ)) (said : List X) → AllZip Says lines said → length lines ≡ length said
  same_length [] [] h = refl
  same_length [] (x ∷ said) h = absurd h
  same_length (l ∷ lines) [] h = absurd h
  same_length (l ∷ lines) (x ∷ said) h = ap suc (same_length lines said h.1)

  -- reading them stops at a fault or for want of memory alone
  pub stops_outside : (stop : Stop) (bytes : List ℕ) (left : Option (List ℕ)) (said all : List X)
      → AllZip Says (lines_in bytes) all → length all ≤ LINES_MOST → StopsAfter Says stop bytes left said
      → (stop ≡ ReadFault) ⊎ (stop ≡ NoMemory)
  stops_outside (BadLine at) bytes left said all spelled few e =
      let bad = e.2 in
      absurd (bad_among bad.2.1.0 bad.0 bad.2.0 all (subst (λ (ls : List (List ℕ)). AllZip Says ls all) bad.2.1.2
      spelled) bad.1)
  stops_outside ReadFault bytes left said all spelled few e = inl refl
  stops_outside NoMemory bytes left said all spelled few e = inr refl
  stops_outside Limit bytes left said all spelled few e =
      let begun = e.1.1.1 in
      let whole = same_length (lines_in bytes) all spelled in
      let front = same_length begun.0 said begun.1 in
      absurd (omega (arith, few, e.0, whole, front, ap length begun.2, length-append begun.0 (e.1.0 ∷ e.1.1.0)))
