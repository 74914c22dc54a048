-- One byte written over another, or behind the last one.
use Rattle.std.proofs.Common.{◌≡◌, ℕ, ◌+◌, ◌-◌, ◌<◌, ◌≤◌, List, [], ◌∷◌, ◌++◌, length, take, drop, get_or, sym, ◌∙◌, ap, arith, length-take, append_assoc}
use Rattle.std.proofs.lemmas.List.{get_or-append_right, get_or-drop}
use Rattle.liq_outside.specs.Disk.{Torn, overwritten}
use Rattle.liq_outside.proofs.Steps.{torn_whole}

module _ (place byte : ℕ) (bytes : List ℕ) (inside : place ≤ length bytes) where
  abbrev pub with_byte : List ℕ
  with_byte = overwritten bytes place (byte ∷ [])

  -- it is a part of its own write
  pub torn_byte : Torn place 1 bytes with_byte
  torn_byte = torn_whole bytes place (byte ∷ []) inside

  pub front_stays : take place with_byte ≡ take place bytes
  front_stays = torn_byte.before

  pub rest_stays : drop (place + 1) with_byte ≡ drop (place + 1) bytes
  rest_stays = torn_byte.behind

  -- a second byte there takes the place of the first
  pub written_again : (other : ℕ) → overwritten with_byte place (other ∷ []) ≡ overwritten bytes place (other ∷ [])
  written_again other = λ i. front_stays i ++ other ∷ [] ++ rest_stays i

  pub byte_there : get_or with_byte place 0 ≡ byte
  byte_there =
      let front : length (take place bytes) ≡ place = length-take place bytes ∙ omega arith in
      let none : place - place ≡ 0 = omega arith in
      ap (λ (l : List ℕ). get_or l place 0) (append_assoc (take place bytes) (byte ∷ []) (drop (place + 1) bytes))
      ∙ get_or-append_right (take place bytes) (byte ∷ drop (place + 1) bytes) place place 0 front (omega arith)
      ∙ ap (λ (k : ℕ). get_or (byte ∷ drop (place + 1) bytes) k 0) none

  pub length_with : place < length bytes → length with_byte ≡ length bytes
  length_with there = let more = torn_byte.no_shorter in let few = torn_byte.no_longer in omega arith

  -- every byte behind it stays
  pub byte_behind : (later : ℕ) → place < later → get_or with_byte later 0 ≡ get_or bytes later 0
  byte_behind later behind =
      let k : place + 1 + (later - (place + 1)) ≡ later = omega arith in
      ap (λ (n : ℕ). get_or with_byte n 0) (sym k) ∙ sym (get_or-drop (place + 1) with_byte (later - (place + 1)) 0)
      ∙ ap (λ (l : List ℕ). get_or l (later - (place + 1)) 0) rest_stays
      ∙ get_or-drop (place + 1) bytes (later - (place + 1)) 0 ∙ ap (λ (n : ℕ). get_or bytes n 0) k
