-- Bytes that are sent piece by piece.
use Rattle.std.proofs.Common.{◌≡◌, ℕ, ◌+◌, ◌<◌, List, [], ◌∷◌, ◌++◌, length, take, drop, get_or, Option, Ok, Err, Result, ap, sym, subst, ◌∙◌, append_assoc, append-nil}
use Rattle.std.specs.Prelude.{OnOk, OnErr, IsErrAnd, ◌≤◌}
use Rattle.std.specs.List.{flat_map}
use Rattle.std.proofs.lemmas.List.{take_more, take_all, take-append-drop}
use Rattle.std.proofs.lemmas.Grind.{flat_map-append}
use Rattle.liq_outside.specs.declared.failed.Failed.{Failed}
use Rattle.liq_text_lines.specs.Writing.{Writes, WritesPart}
use Rattle.liq_text_lines.proofs.Bytes.{writes_nothing, writes_more}
use Rattle.liq_text_lines.proofs.Parts.{part_first, part_second}
use Rattle.liq_text_scripts.specs.Sending.{Sends}
use Rattle.liq_text_gather.proofs.Residual.{handed_on}

pub sends_nothing : (w : List ℕ) (before : Option (List ℕ)) → Sends (Ok tt) w [] w before before
sends_nothing w before = ([], writes_nothing before, append-nil w)

-- one piece behind another
pub sends_more : (result : Result (Unit {0}) Failed) (w xs w1 ys w2 : List ℕ) (before mid after : Option (List ℕ))
    → Sends (Ok tt) w xs w1 before mid → Sends result w1 ys w2 mid after → Sends result w (xs ++ ys) w2 before after
sends_more (Ok done) w xs w1 ys w2 before mid after h k = (
  h.0 ++ k.0,
  writes_more before mid after h.0 k.0 h.1 k.1,
  sym (append_assoc w xs ys) ∙ ap (λ (t : List ℕ). t ++ ys) h.2 ∙ append_assoc h.0 w1 ys
      ∙ ap (λ (t : List ℕ). h.0 ++ t) k.2 ∙ sym (append_assoc h.0 k.0 w2),
)
sends_more (Err fault) w xs w1 ys w2 before mid after h k =
    subst (λ (t : List ℕ). WritesPart before t after) (sym (append_assoc h.0 w1 ys)
    ∙ ap (λ (t : List ℕ). t ++ ys) (sym h.2) ∙ append_assoc w xs ys)
    (part_second before mid after h.0 (w1 ++ ys) h.1 k)

-- more was to follow where the sink met the fault
pub sends_cut : (fault : Failed) (w xs w1 ys w2 : List ℕ) (before after : Option (List ℕ))
    → Sends (Err fault) w xs w1 before after → Sends (Err fault) w (xs ++ ys) w2 before after
sends_cut fault w xs w1 ys w2 before after h = subst (λ (t : List ℕ). WritesPart before t after) (append_assoc w xs ys)
    (part_first before after (w ++ xs) ys h)

-- ---- a piece for each item

module _ {X : Type 0} (piece : X → List ℕ) (items : List X) where
  up_to : (i : ℕ) (d : X) → i < length items → flat_map piece (take i items) ++ piece (get_or items i d)
      ≡ flat_map piece (take (i + 1) items)
  up_to i d lt =
      ap (λ (t : List ℕ). flat_map piece (take i items) ++ t) (sym (append-nil (piece (get_or items i d))))
      ∙ sym (flat_map-append piece (take i items) (get_or items i d ∷ []))
      ∙ ap (flat_map piece) (sym (take_more items i d lt))

  pub each_more : (i : ℕ) (d : X) (w w1 w2 : List ℕ) (before mid after : Option (List ℕ)) → i < length items
      → Sends (Ok tt) w (flat_map piece (take i items)) w1 before mid
      → Sends (Ok tt) w1 (piece (get_or items i d)) w2 mid after
      → Sends (Ok tt) w (flat_map piece (take (i + 1) items)) w2 before after
  each_more i d w w1 w2 before mid after lt h k =
      subst (λ (t : List ℕ). Sends (Ok tt) w t w2 before after) (up_to i d lt) (sends_more (Ok tt) w
      (flat_map piece (take i items)) w1 (piece (get_or items i d)) w2 before mid after h k)

  pub each_cut : (fault : Failed) (i : ℕ) (d : X) (w w1 w2 : List ℕ) (before mid after : Option (List ℕ))
      → i < length items → Sends (Ok tt) w (flat_map piece (take i items)) w1 before mid
      → Sends (Err fault) w1 (piece (get_or items i d)) w2 mid after
      → Sends (Err fault) w (flat_map piece items) w2 before after
  each_cut fault i d w w1 w2 before mid after lt h k =
      let here = sends_more (Err fault) w (flat_map piece (take i items)) w1 (piece (get_or items i d)) w2 before mid
      after h k in
      let cut = sends_cut fault w (flat_map piece (take i items) ++ piece (get_or items i d)) w2
      (flat_map piece (drop (i + 1) items)) w2 before after here in
      subst (λ (t : List ℕ). Sends (Err fault) w t w2 before after)
      (ap (λ (t : List ℕ). t ++ flat_map piece (drop (i + 1) items)) (up_to i d lt)
      ∙ sym (flat_map-append piece (take (i + 1) items) (drop (i + 1) items))
      ∙ ap (flat_map piece) (take-append-drop (i + 1) items))
      cut

  pub each_done : (result : Result (Unit {0}) Failed) (i : ℕ) (w w1 : List ℕ) (before after : Option (List ℕ))
      → length items ≤ i → Sends result w (flat_map piece (take i items)) w1 before after
      → Sends result w (flat_map piece items) w1 before after
  each_done result i w w1 before after all h = subst (λ (l : List X). Sends result w (flat_map piece l) w1 before after)
      (take_all i items all) h

-- ---- all is sent, where nothing waited before

pub all_written : (result : Result (Unit {0}) Failed) (w bytes w1 : List ℕ) (before after : Option (List ℕ)) → w ≡ []
    → w1 ≡ [] → Sends result w bytes w1 before after → OnOk result (Writes before bytes after)
all_written (Ok done) w bytes w1 before after none empty h =
    subst (λ (t : List ℕ). Writes before t after)
    (sym (append-nil h.0) ∙ ap (λ (t : List ℕ). h.0 ++ t) (sym empty) ∙ sym h.2
    ∙ ap (λ (t : List ℕ). t ++ bytes) none) h.1
all_written (Err fault) w bytes w1 before after none empty h = tt

pub part_written : (result : Result (Unit {0}) Failed) (w bytes w1 : List ℕ) (before after : Option (List ℕ)) → w ≡ []
    → Sends result w bytes w1 before after → OnErr result (WritesPart before bytes after)
part_written (Ok done) w bytes w1 before after none h = tt
part_written (Err fault) w bytes w1 before after none h =
    subst (λ (t : List ℕ). WritesPart before (t ++ bytes) after) none h

-- the fault is handed on
pub sends_fault : (result : Result (Unit {0}) Failed) (fault : Failed) (w bytes w1 : List ℕ) (before after : Option
    (List ℕ)) → IsErrAnd result (λ e. e ≡ fault) → Sends (Err fault) w bytes w1 before after
    → Sends result w bytes w1 before after
sends_fault result fault w bytes w1 before after is h =
    subst (λ (r : Result (Unit {0}) Failed). Sends r w bytes w1 before after) (sym (handed_on result fault is)) h
