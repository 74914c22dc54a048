-- What stays an image of a crash: a byte altered in the range of a write, and a cut behind what was synced.
use Rattle.std.proofs.Common.{◌≡◌, ◌⊎◌, inl, inr, ℕ, zero, suc, ◌+◌, ◌-◌, ◌<◌, ◌≤◌, min, List, [], ◌∷◌, ◌++◌, length, take, drop, set, refl, sym, ◌∙◌, ap, subst, arith, length-append, length-take, length-drop, length-set}
use Rattle.std.proofs.lemmas.List.{take_all, take-set-le, drop-set-lt, drop-set-add}
use Rattle.liq_outside.specs.Disk.{Torn}
use Rattle.liq_outside.specs.DiskInMemory.{Step, Wrote, Tried, Synced, MayBeLeft, AreWrites, IsReached, StaysLeft, undone, synced_length}
use Rattle.std.proofs.lemmas.List.{map-append, reverse-append}
use Rattle.std.proofs.Common.{map, reverse}
use Rattle.liq_outside.specs.Staying.{stays}
use Rattle.liq_outside.specs.Made.{step_of, steps_of}
use Rattle.liq_outside.specs.declared.made.Made.{Made}

take_set_any : (n : ℕ) (l : List ℕ) (p v : ℕ) → take n (set l p v) ≡ set (take n l) p v
take_set_any zero l p v = refl
take_set_any (suc n) [] p v = refl
take_set_any (suc n) (x ∷ l) zero v = refl
take_set_any (suc n) (x ∷ l) (suc p) v = ap (λ (k : List ℕ). x ∷ k) (take_set_any n l p v)

take_take : (m n : ℕ) (l : List ℕ) → take m (take n l) ≡ take n (take m l)
take_take zero zero l = refl
take_take zero (suc n) l = refl
take_take (suc m) zero l = refl
take_take (suc m) (suc n) [] = refl
take_take (suc m) (suc n) (x ∷ l) = ap (λ (k : List ℕ). x ∷ k) (take_take m n l)

take_nil : (k : ℕ) → ◌≡◌ {A = List ℕ} (take k []) []
take_nil zero = refl
take_nil (suc k) = refl

drop_take : (m n : ℕ) (l : List ℕ) → drop m (take n l) ≡ take (n - m) (drop m l)
drop_take zero n l = let same : n - 0 ≡ n = omega arith in ap (λ (k : ℕ). take k l) (sym same)
drop_take (suc m) zero l = let none : zero - suc m ≡ zero = omega arith
    in ap (λ (k : ℕ). take k (drop (suc m) l)) (sym none)
drop_take (suc m) (suc n) [] = sym (take_nil (suc n - suc m))
drop_take (suc m) (suc n) (x ∷ l) = let less : suc n - suc m ≡ n - m = omega arith in drop_take m n l
    ∙ ap (λ (k : ℕ). take k (drop m l)) (sym less)

module _ (at n : ℕ) (old new : List ℕ) (torn : Torn at n old new) where
  within : (p v : ℕ) → at ≤ p → p < at + n → Torn at n old (set new p v)
  within p v from to = record {
    before = take-set-le at new p v from ∙ torn.before;
    behind = drop-set-lt (at + n) new p v to ∙ torn.behind;
    no_shorter = omega (arith, torn.no_shorter, length-set new p v);
    no_longer = omega (arith, torn.no_longer, length-set new p v);
  }

  drop_set : (p v : ℕ) → (p < at + n) ⊎ ((i : ℕ) × (p ≡ at + n + i)) → drop (at + n) (set new p v)
      ≡ drop (at + n) (set old p v)
  drop_set p v (inl front) = drop-set-lt (at + n) new p v front ∙ torn.behind ∙ sym (drop-set-lt (at + n) old p v front)
  drop_set p v (inr (i, is)) =
      ap (λ (q : ℕ). drop (at + n) (set new q v)) is ∙ drop-set-add (at + n) new i v
      ∙ ap (λ (l : List ℕ). set l i v) torn.behind ∙ sym (drop-set-add (at + n) old i v)
      ∙ ap (λ (q : ℕ). drop (at + n) (set old q v)) (sym is)

  side : (p : ℕ) → (p < at + n) ⊎ ((i : ℕ) × (p ≡ at + n + i))
  side p = elim (order p (at + n)) [ inl less ↦ inl less | inr more ↦ inr (p - (at + n), omega arith) ]
    where
      order : (a b : ℕ) → (a < b) ⊎ (b ≤ a)
      order a b = grind arith

  both : (p v : ℕ) → Torn at n (set old p v) (set new p v)
  both p v = record {
    before = take_set_any at new p v ∙ ap (λ (l : List ℕ). set l p v) torn.before ∙ sym (take_set_any at old p v);
    behind = drop_set p v (side p);
    no_shorter = omega (arith, torn.no_shorter, length-set new p v, length-set old p v);
    no_longer = omega (arith, torn.no_longer, length-set new p v, length-set old p v);
  }

  cut_both : (m : ℕ) → Torn at n (take m old) (take m new)
  cut_both m = record {
    before = take_take at m new ∙ ap (take m) torn.before ∙ sym (take_take at m old);
    behind = drop_take (at + n) m new ∙ ap (take (m - (at + n))) torn.behind ∙ sym (drop_take (at + n) m old);
    no_shorter = simp length-take (omega (arith, torn.no_shorter));
    no_longer = simp length-take (omega (arith, torn.no_longer));
  }

-- what a write may leave is a part of it
part_of : (held : List ℕ) (at count : ℕ) (over : List ℕ) (steps : List Step) (image : List ℕ)
    → AreWrites held (Wrote at count over ∷ steps) → MayBeLeft held (Wrote at count over ∷ steps) image
    → (earlier : List ℕ) × MayBeLeft (undone held (Wrote at count over)) steps earlier × Torn at count earlier image
part_of held at count over steps image writes (inl whole) =
    let before = undone held (Wrote at count over) in
    (before, stays before steps, subst (λ (l : List ℕ). Torn at count before l) (sym whole) writes.0)
part_of held at count over steps image writes (inr part) = part

-- one byte altered in the range of a write
pub altered : (held : List ℕ) (steps : List Step) (image : List ℕ) (p v : ℕ) → AreWrites held steps → IsReached p steps
    → MayBeLeft held steps image → MayBeLeft held steps (set image p v)
altered held [] image p v writes none may = absurd none
altered held (Wrote at count over ∷ steps) image p v writes (inl here) may =
    let part = part_of held at count over steps image writes may in
    inr (part.0, part.1, within at count part.0 image part.2 p v here.0 here.1)
altered held (Wrote at count over ∷ steps) image p v writes (inr deeper) may =
    let part = part_of held at count over steps image writes may in
    inr (
      set part.0 p v,
      altered (undone held (Wrote at count over)) steps part.0 p v writes.1 deeper part.1,
      both at count part.0 image part.2 p v,
    )
altered held (Tried at count ∷ steps) image p v writes (inl here) part =
    (part.0, part.1, within at count part.0 image part.2 p v here.0 here.1)
altered held (Tried at count ∷ steps) image p v writes (inr deeper) part =
    (set part.0 p v, altered held steps part.0 p v writes deeper part.1, both at count part.0 image part.2 p v)
altered held (Synced ∷ steps) image p v writes none may = absurd none

-- a cut behind what was synced
pub cut : (held : List ℕ) (steps : List Step) (image : List ℕ) (m : ℕ) → AreWrites held steps → synced_length held steps
    ≤ m → MayBeLeft held steps image → MayBeLeft held steps (take m image)
cut held [] image m writes long may = ap (take m) may ∙ take_all m held long
cut held (Wrote at count over ∷ steps) image m writes long may =
    let part = part_of held at count over steps image writes may in
    inr (
      take m part.0,
      cut (undone held (Wrote at count over)) steps part.0 m writes.1 long part.1,
      cut_both at count part.0 image part.2 m,
    )
cut held (Tried at count ∷ steps) image m writes long part = (
  take m part.0,
  cut held steps part.0 m writes long part.1,
  cut_both at count part.0 image part.2 m,
)
cut held (Synced ∷ steps) image m writes long may = ap (take m) may ∙ take_all m held long

-- one byte more of a range torn
pub torn_more : (at count : ℕ) (old now : List ℕ) (p v : ℕ) → at ≤ p → p < at + count → StaysLeft at count old now
    → StaysLeft at count old (set now p v)
torn_more at count old now p v from to so_far held steps writes reached may =
    altered held steps now p v writes (reached p from to) (so_far held steps writes reached may)

-- how far back the walk over the notes has come, and what it left
pub record IsBackTo (held : List ℕ) (steps : List Step) (image : List ℕ) (rest : List Step) (least : ℕ) : Type 0 where
  pub may : MayBeLeft held steps image
  pub reached : (p : ℕ) → IsReached p rest → IsReached p steps
  pub before : List ℕ
  pub writes : AreWrites before rest
  pub size : length before ≡ least
  pub synced : synced_length before rest ≡ synced_length held steps

-- behind all its writes it may be cut
pub cut_back : (held : List ℕ) (steps : List Step) (image : List ℕ) (rest : List Step) (least m : ℕ)
    → AreWrites held steps → IsBackTo held steps image rest least → synced_length held steps ≡ least → least ≤ m
    → MayBeLeft held steps (take m image)
cut_back held steps image rest least m writes back is long =
    cut held steps image m writes (omega (arith, is, long)) back.may

pub last_step : (notes rest : List Made) (note : Made) → notes ≡ rest ++ note ∷ []
    → steps_of notes ≡ step_of note ∷ steps_of rest
last_step notes rest note is = ap steps_of is ∙ ap reverse (map-append step_of rest (note ∷ []))
    ∙ reverse-append (map step_of rest) (step_of note ∷ [])

module _ (held : List ℕ) (steps : List Step) (writes : AreWrites held steps) (image next : List ℕ)
    (all rest : List Step) (least at count : ℕ) (back : IsBackTo held steps image all least)
    (torn : StaysLeft at count image next) where
  pub back_tried : all ≡ Tried at count ∷ rest → IsBackTo held steps next rest least
  back_tried is =
      let at_it = subst (λ (s : List Step). IsBackTo held steps image s least) is back in
      record {
        may = torn held steps writes (λ p from to. at_it.reached p (inl (from, to))) at_it.may;
        reached = λ p r. at_it.reached p (inr r);
        before = at_it.before;
        writes = at_it.writes;
        size = at_it.size;
        synced = at_it.synced;
      }

  pub back_wrote : (over : List ℕ) (less : ℕ) → all ≡ Wrote at count over ∷ rest
      → less ≡ min least at + length over + (least - at - count) → IsBackTo held steps next rest less
  back_wrote over less is size =
      let at_it = subst (λ (s : List Step). IsBackTo held steps image s least) is back in
      record {
        may = torn held steps writes (λ p from to. at_it.reached p (inl (from, to))) at_it.may;
        reached = λ p r. at_it.reached p (inr r);
        before = undone at_it.before (Wrote at count over);
        writes = at_it.writes.1;
        size = simp (length-append, length-take, length-drop) (omega (arith, size, at_it.size));
        synced = at_it.synced;
      }

-- at the last sync, or before all notes
pub ended : (held : List ℕ) (steps : List Step) (image : List ℕ) (all : List Step) (least : ℕ)
    → IsBackTo held steps image all least → (all ≡ []) ⊎ ((rest : List Step) × (all ≡ Synced ∷ rest))
    → synced_length held steps ≡ least
ended held steps image all least back (inl none) =
    let at_it = subst (λ (s : List Step). IsBackTo held steps image s least) none back in sym at_it.synced ∙ at_it.size
ended held steps image all least back (inr (rest, is)) =
    let at_it = subst (λ (s : List Step). IsBackTo held steps image s least) is back in sym at_it.synced ∙ at_it.size
