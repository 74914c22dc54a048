-- Lists of places: their ends, what is apart, and nodes that are linked along them.
use Rattle.std.proofs.Common.{◌≡◌, ◌≢◌, ℕ, zero, suc, ◌<◌, ◌≤◌, Bool, true, false, cond, List, [], ◌∷◌, ◌++◌, length, get_or, set, refl, sym, ap, ◌∙◌, subst, Some, None, Option, IfSome, inl, inr, arith}
use Rattle.std.specs.Prelude.{◌==◌}
use Rattle.std.specs.List.{AllByRecursion}
use Rattle.std.proofs.lemmas.Bool.{eqb-true, eqb-false, ne_eqb}
use Rattle.std.proofs.Common.{eq-eqb}
use Rattle.std.proofs.lemmas.Grind.{get_or-set_at}
use Rattle.std.proofs.lemmas.List.{get_or-set_other}
use Rattle.liq_order.specs.declared.places.Node.{Node}
use Rattle.liq_order.specs.declared.places.NodeNo.{NodeNo}
use Rattle.liq_order.specs.Nodes.{Memory, memory, nobody, entry_of, along, first_or, last_or, IsIn, IsOff, AreApart, AreWithin, Linked, with_next, with_previous, IsWithin}

-- ---- what holds of all of a list

pub all_front : {X : Type 0} → (P : X → Type 0) (xs ys : List X) → AllByRecursion P (xs ++ ys) → AllByRecursion P xs
all_front P [] ys h = tt
all_front P (x ∷ xs) ys h = (h.0, all_front P xs ys h.1)

pub all_back : {X : Type 0} → (P : X → Type 0) (xs ys : List X) → AllByRecursion P (xs ++ ys) → AllByRecursion P ys
all_back P [] ys h = h
all_back P (x ∷ xs) ys h = all_back P xs ys h.1

pub all_both : {X : Type 0} → (P : X → Type 0) (xs ys : List X) → AllByRecursion P xs → AllByRecursion P ys
    → AllByRecursion P (xs ++ ys)
all_both P [] ys a b = b
all_both P (x ∷ xs) ys a b = (a.0, all_both P xs ys a.1 b)

pub all_as : {X : Type 0} → (P Q : X → Type 0) (xs : List X) → ((x : X) → P x → Q x) → AllByRecursion P xs
    → AllByRecursion Q xs
all_as P Q [] each h = tt
all_as P Q (x ∷ xs) each h = (each x h.0, all_as P Q xs each h.1)

pub all_of : {X : Type 0} → (P : X → Type 0) (xs : List X) → ((x : X) → P x) → AllByRecursion P xs
all_of P [] each = tt
all_of P (x ∷ xs) each = (each x, all_of P xs each)

-- ---- what is apart

abbrev Off : ℕ → NodeNo → Type 0
Off n q = q.0 ≢ n

pub apart_in : (a b : List NodeNo) (p : NodeNo) → AreApart (a ++ b) → IsOff p.0 a → IsOff p.0 b → AreApart (a ++ p ∷ b)
apart_in [] b p h oa ob = (ob, h)
apart_in (x ∷ a) b p h oa ob = (
  all_both (Off x.0) a (p ∷ b) (all_front (Off x.0) a b h.0) ((λ same. oa.0 (sym same)), all_back (Off x.0) a b h.0),
  apart_in a b p h.1 oa.1 ob,
)

pub apart_out : (a b : List NodeNo) (p : NodeNo) → AreApart (a ++ p ∷ b) → AreApart (a ++ b) × IsOff p.0 a × IsOff p.0 b
apart_out [] b p h = (h.1, tt, h.0)
apart_out (x ∷ a) b p h =
    let rest = apart_out a b p h.1 in
    let off = all_back (Off x.0) a (p ∷ b) h.0 in (
      (all_both (Off x.0) a b (all_front (Off x.0) a (p ∷ b) h.0) off.1, rest.0),
      (
        (λ same. off.0 (sym same)),
        rest.1,
      ),
      rest.2,
    )

pub apart_front : (a b : List NodeNo) → AreApart (a ++ b) → AreApart a
apart_front [] b h = tt
apart_front (x ∷ a) b h = (all_front (Off x.0) a b h.0, apart_front a b h.1)

pub apart_back : (a b : List NodeNo) → AreApart (a ++ b) → AreApart b
apart_back [] b h = h
apart_back (x ∷ a) b h = apart_back a b h.1

-- the last place of a list is off what comes behind it
last_apart : (start : Option NodeNo) (a b : List NodeNo) → AreApart (a ++ b) → IfSome start (λ p. IsOff p.0 b)
    → IfSome (last_or start a) (λ p. IsOff p.0 b)
last_apart start [] b h off = off
last_apart start (x ∷ a) b h off = last_apart (Some x) a b h.1 (all_back (Off x.0) a b h.0)

off_last : (n : ℕ) (start : Option NodeNo) (a : List NodeNo) → IfSome start (Off n) → IsOff n a
    → IfSome (last_or start a) (Off n)
off_last n start [] off h = off
off_last n start (x ∷ a) off h = off_last n (Some x) a h.0 h.1

pub off_last_of : (n : ℕ) (a : List NodeNo) → IsOff n a → IfSome (last_or None a) (Off n)
off_last_of n a h = off_last n None a tt h

pub off_first_of : (n : ℕ) (a : List NodeNo) → IsOff n a → IfSome (first_or None a) (Off n)
off_first_of n [] h = tt
off_first_of n (x ∷ a) h = h.0

-- ---- the ends of lists

pub first_append : (other : Option NodeNo) (xs ys : List NodeNo) → first_or other (xs ++ ys)
    ≡ first_or (first_or other ys) xs
first_append other [] ys = refl
first_append other (x ∷ xs) ys = refl

pub last_append : (other : Option NodeNo) (xs ys : List NodeNo) → last_or other (xs ++ ys)
    ≡ last_or (last_or other xs) ys
last_append other [] ys = refl
last_append other (x ∷ xs) ys = last_append (Some x) xs ys

pub last_within : (n : ℕ) (start : Option NodeNo) (a : List NodeNo) → IfSome start (λ (p : NodeNo). p.0 < n)
    → AreWithin n a → IfSome (last_or start a) (λ (p : NodeNo). p.0 < n)
last_within n start [] s h = s
last_within n start (x ∷ a) s h = last_within n (Some x) a h.0 h.1

pub first_within : (n : ℕ) (a : List NodeNo) → AreWithin n a → IfSome (first_or None a) (λ (p : NodeNo). p.0 < n)
first_within n [] h = tt
first_within n (x ∷ a) h = h.0

-- the last place, and what is before it
pub record Ended (xs : List NodeNo) (at : NodeNo) : Type 0 where
  pub front : List NodeNo
  pub whole : xs ≡ front ++ at ∷ []

pub ended : (xs : List NodeNo) (x : NodeNo) (at : NodeNo) → last_or (Some x) xs ≡ Some at → Ended (x ∷ xs) at
ended [] x at h = record { front = []; whole = ap (λ p. p ∷ []) (one h) } where
  one : {p q : NodeNo} → Some p ≡ Some q → p ≡ q
  one e = cc
ended (y ∷ ys) x at h = let more = ended ys y at h
    in record { front = x ∷ more.front; whole = ap (λ l. x ∷ l) more.whole }

pub ends_with : (xs : List NodeNo) (at : NodeNo) → last_or None xs ≡ Some at → Ended xs at
ends_with [] at h = absurd (none h) where
  none : {q : NodeNo} → None ≡ Some q → ⊥
  none e = cc
ends_with (x ∷ xs) at h = ended xs x at h

-- ---- a place that is in a list

pub in_middle : (front back : List NodeNo) (p : NodeNo) → IsIn p (front ++ p ∷ back)
in_middle [] back p = inl refl
in_middle (x ∷ front) back p = inr (in_middle front back p)

pub in_within : (n : ℕ) (p : NodeNo) (xs : List NodeNo) → AreWithin n xs → IsIn p xs → p.0 < n
in_within n p [] h i = absurd i
in_within n p (x ∷ xs) h (inl same) = subst (λ k. k < n) same h.0
in_within n p (x ∷ xs) h (inr i) = in_within n p xs h.1 i

pub in_last : (xs : List NodeNo) (at : NodeNo) → last_or None xs ≡ Some at → IsIn at xs
in_last xs at h = let e = ends_with xs at h in subst (IsIn at) (sym e.whole) (in_middle e.front [] at)

pub in_first : (xs : List NodeNo) (at : NodeNo) → first_or None xs ≡ Some at → IsIn at xs
in_first [] at h = absurd (none h) where
  none : {q : NodeNo} → None ≡ Some q → ⊥
  none e = cc
in_first (x ∷ xs) at h = inl (one h) where
  one : {p q : NodeNo} → Some p ≡ Some q → p.0 ≡ q.0
  one e = cc

pub in_front : (xs ys : List NodeNo) (p : NodeNo) → IsIn p xs → IsIn p (xs ++ ys)
in_front [] ys p i = absurd i
in_front (x ∷ xs) ys p (inl same) = inl same
in_front (x ∷ xs) ys p (inr i) = inr (in_front xs ys p i)

pub in_back : (xs ys : List NodeNo) (p : NodeNo) → IsIn p ys → IsIn p (xs ++ ys)
in_back [] ys p i = i
in_back (x ∷ xs) ys p i = inr (in_back xs ys p i)

-- ---- linked parts

pub linked_front : (f : Memory) (b : Option NodeNo) (xs ys : List NodeNo) (a : Option NodeNo) → Linked f b (xs ++ ys) a
    → Linked f b xs (first_or a ys)
linked_front f b [] ys a h = tt
linked_front f b (x ∷ xs) ys a h = (h.0, h.1 ∙ first_append a xs ys, linked_front f (Some x) xs ys a h.2)

pub linked_back : (f : Memory) (b : Option NodeNo) (xs ys : List NodeNo) (a : Option NodeNo) → Linked f b (xs ++ ys) a
    → Linked f (last_or b xs) ys a
linked_back f b [] ys a h = h
linked_back f b (x ∷ xs) ys a h = linked_back f (Some x) xs ys a h.2

pub joined : (f : Memory) (b : Option NodeNo) (xs ys : List NodeNo) (a : Option NodeNo) → Linked f b xs (first_or a ys)
    → Linked f (last_or b xs) ys a → Linked f b (xs ++ ys) a
joined f b [] ys a h k = k
joined f b (x ∷ xs) ys a h k = (h.0, h.1 ∙ sym (first_append a xs ys), joined f (Some x) xs ys a h.2 k)

abbrev pub Alike : Memory → Memory → NodeNo → Type 0
Alike f g q = g q ≡ f q

pub framed : (f g : Memory) (b : Option NodeNo) (ps : List NodeNo) (a : Option NodeNo) → AllByRecursion (Alike f g) ps
    → Linked f b ps a → Linked g b ps a
framed f g b [] a s h = tt
framed f g b (p ∷ ps) a s h =
    (ap (λ (n : Node). n.previous) s.0 ∙ h.0, ap (λ (n : Node). n.next) s.0 ∙ h.1, framed f g (Some p) ps a s.1 h.2)

-- going along gives the list that is linked
pub along_is : (f : Memory) (b : Option NodeNo) (ps : List NodeNo) (n : ℕ) → Linked f b ps None → length ps ≤ n
    → along f n (first_or None ps) ≡ ps
along_is f b [] zero h le = refl
along_is f b [] (suc n) h le = refl
along_is f b (p ∷ ps) zero h le = absurd (omega (arith, le))
along_is f b (p ∷ ps) (suc n) h le =
    ap (λ l. p ∷ l) (ap (λ s. along f n s) h.1 ∙ along_is f (Some p) ps n h.2 (omega (arith, le)))

-- ---- writes

abbrev pub next_at : Memory → Option NodeNo → Option NodeNo → Memory
next_at f None to = f
next_at f (Some p) to = λ q. cond (q.0 == p.0) (record (f q) { next = to }) (f q)

abbrev pub previous_at : Memory → Option NodeNo → Option NodeNo → Memory
previous_at f None to = f
previous_at f (Some p) to = λ q. cond (q.0 == p.0) (record (f q) { previous = to }) (f q)

pub next_off : (f : Memory) (from to : Option NodeNo) (q : NodeNo) → IfSome from (Off q.0) → next_at f from to q ≡ f q
next_off f None to q off = refl
next_off f (Some p) to q off = ap (λ b. cond b (record (f q) { next = to }) (f q))
    (ne_eqb q.0 p.0 (λ same. off (sym same)))

pub previous_off : (f : Memory) (from to : Option NodeNo) (q : NodeNo) → IfSome from (Off q.0)
    → previous_at f from to q ≡ f q
previous_off f None to q off = refl
previous_off f (Some p) to q off = ap (λ b. cond b (record (f q) { previous = to }) (f q))
    (ne_eqb q.0 p.0 (λ same. off (sym same)))

next_here : (f : Memory) (p : NodeNo) (to : Option NodeNo) → next_at f (Some p) to p ≡ record (f p) { next = to }
next_here f p to = ap (λ b. cond b (record (f p) { next = to }) (f p)) (eq-eqb p.0 p.0 refl)

previous_here : (f : Memory) (p : NodeNo) (to : Option NodeNo) → previous_at f (Some p) to p
    ≡ record (f p) { previous = to }
previous_here f p to = ap (λ b. cond b (record (f p) { previous = to }) (f p)) (eq-eqb p.0 p.0 refl)

next_entry : (f : Memory) (from to : Option NodeNo) (q : NodeNo) → entry_of (next_at f from to q) ≡ entry_of (f q)
next_entry f None to q = refl
next_entry f (Some p) to q = by (q.0 == p.0) where
  by : (b : Bool) → entry_of (cond b (record (f q) { next = to }) (f q)) ≡ entry_of (f q)
  by true = refl
  by false = refl

previous_entry : (f : Memory) (from to : Option NodeNo) (q : NodeNo) → entry_of (previous_at f from to q)
    ≡ entry_of (f q)
previous_entry f None to q = refl
previous_entry f (Some p) to q = by (q.0 == p.0) where
  by : (b : Bool) → entry_of (cond b (record (f q) { previous = to }) (f q)) ≡ entry_of (f q)
  by true = refl
  by false = refl

-- the last of a half points on to something else
next_set : (f : Memory) (b : Option NodeNo) (xs : List NodeNo) (a to : Option NodeNo) → AreApart xs → Linked f b xs a
    → Linked (next_at f (last_or None xs) to) b xs to
next_set f b [] a to apart h = tt
next_set f b (x ∷ []) a to apart h =
    (ap (λ (n : Node). n.previous) (next_here f x to) ∙ h.0, ap (λ (n : Node). n.next) (next_here f x to), tt)
next_set f b (x ∷ y ∷ ys) a to apart h =
    let off = next_off f (last_or (Some y) ys) to x (off_last x.0 (Some y) ys apart.0.0 apart.0.1) in (
      ap (λ (n : Node). n.previous) off ∙ h.0,
      ap (λ (n : Node). n.next) off
          ∙ h.1,
      next_set f (Some x) (y ∷ ys) a to apart.1 h.2,
    )

previous_set : (f : Memory) (b : Option NodeNo) (ys : List NodeNo) (a fro : Option NodeNo) → AreApart ys
    → Linked f b ys a → Linked (previous_at f (first_or None ys) fro) fro ys a
previous_set f b [] a fro apart h = tt
previous_set f b (y ∷ ys) a fro apart h =
    let g = previous_at f (Some y) fro in
    let others : AllByRecursion (Alike f g) ys = all_as (Off y.0) (Alike f g) ys (λ q n. previous_off f (Some y) fro q
    (λ same. n (sym same))) apart.0 in (
      ap (λ (n : Node). n.previous) (previous_here f y fro),
      ap (λ (n : Node). n.next) (previous_here f y fro)
          ∙ h.1,
      framed f g (Some y) ys a others h.2,
    )

next_frames : (f : Memory) (from to : Option NodeNo) (ys : List NodeNo) → IfSome from (λ (p : NodeNo). IsOff p.0 ys)
    → AllByRecursion (Alike f (next_at f from to)) ys
next_frames f None to ys off = all_of (Alike f f) ys (λ q. refl)
next_frames f (Some p) to ys off = all_as (Off p.0) (Alike f (next_at f (Some p) to)) ys
    (λ q n. next_off f (Some p) to q (λ same. n (sym same))) off

previous_frames : (f : Memory) (from to : Option NodeNo) (xs : List NodeNo) → IfSome from (λ (p : NodeNo). IsOff p.0 xs)
    → AllByRecursion (Alike f (previous_at f from to)) xs
previous_frames f None to xs off = all_of (Alike f f) xs (λ q. refl)
previous_frames f (Some p) to xs off = all_as (Off p.0) (Alike f (previous_at f (Some p) to)) xs (λ q n. previous_off f
    (Some p) to q (λ same. n (sym same))) off

-- what a list with two halves is after the ends at which they meet point elsewhere
abbrev pub met : Memory → List NodeNo → List NodeNo → Option NodeNo → Option NodeNo → Memory
met f front back to fro = previous_at (next_at f (last_or None front) to) (first_or None back) fro

first_off : (xs ys : List NodeNo) → AreApart (xs ++ ys) → IfSome (first_or None ys) (λ (p : NodeNo). IsOff p.0 xs)
first_off xs [] h = tt
first_off xs (y ∷ ys) h = (apart_out xs ys y h).1

pub met_front : (f : Memory) (front back : List NodeNo) (a to fro : Option NodeNo) → AreApart (front ++ back)
    → Linked f None front a → Linked (met f front back to fro) None front to
met_front f front back a to fro apart h =
    let g = next_at f (last_or None front) to in
    framed g (met f front back to fro) None front to (previous_frames g (first_or None back) fro front
    (first_off front back apart))
    (next_set f None front a to (apart_front front back apart) h)

pub met_back : (f : Memory) (front back : List NodeNo) (b to fro : Option NodeNo) → AreApart (front ++ back)
    → Linked f b back None → Linked (met f front back to fro) fro back None
met_back f front back b to fro apart h =
    let g = next_at f (last_or None front) to in
    previous_set g b back None fro (apart_back front back apart)
    (framed f g b back None (next_frames f (last_or None front) to back (last_apart None front back apart tt)) h)

pub met_entry : (f : Memory) (front back : List NodeNo) (to fro : Option NodeNo) (q : NodeNo)
    → entry_of (met f front back to fro q) ≡ entry_of (f q)
met_entry f front back to fro q =
    let g = next_at f (last_or None front) to in
    previous_entry g (first_or None back) fro q ∙ next_entry f (last_or None front) to q

pub met_off : (f : Memory) (front back : List NodeNo) (to fro : Option NodeNo) (q : NodeNo) → IsOff q.0 front
    → IsOff q.0 back → met f front back to fro q ≡ f q
met_off f front back to fro q of ob =
    let g = next_at f (last_or None front) to in
    previous_off g (first_or None back) fro q (off_first_of q.0 back ob)
    ∙ next_off f (last_or None front) to q (off_last_of q.0 front of)

-- ---- the same of the vector

pub next_read : (nodes : List Node) (from to : Option NodeNo) (q : NodeNo) → IsWithin nodes from
    → memory (with_next nodes from to) q ≡ next_at (memory nodes) from to q
next_read nodes None to q w = refl
next_read nodes (Some p) to q w = by (q.0 == p.0) refl where
  by : (b : Bool) → (q.0 == p.0) ≡ b → get_or (set nodes p.0 (record (memory nodes p) { next = to })) q.0 nobody
      ≡ cond b (record (memory nodes q) { next = to }) (memory nodes q)
  by true is =
      let same = eqb-true q.0 p.0 is in
      get_or-set_at nodes p.0 q.0 (record (memory nodes p) { next = to }) nobody same w
      ∙ ap (λ i. record (get_or nodes i nobody) { next = to }) (sym same)
  by false is = get_or-set_other nodes p.0 q.0 (record (memory nodes p) { next = to }) nobody (eqb-false q.0 p.0 is)

pub previous_read : (nodes : List Node) (from to : Option NodeNo) (q : NodeNo) → IsWithin nodes from
    → memory (with_previous nodes from to) q ≡ previous_at (memory nodes) from to q
previous_read nodes None to q w = refl
previous_read nodes (Some p) to q w = by (q.0 == p.0) refl where
  by : (b : Bool) → (q.0 == p.0) ≡ b → get_or (set nodes p.0 (record (memory nodes p) { previous = to })) q.0 nobody
      ≡ cond b (record (memory nodes q) { previous = to }) (memory nodes q)
  by true is =
      let same = eqb-true q.0 p.0 is in
      get_or-set_at nodes p.0 q.0 (record (memory nodes p) { previous = to }) nobody same w
      ∙ ap (λ i. record (get_or nodes i nobody) { previous = to }) (sym same)
  by false is = get_or-set_other nodes p.0 q.0 (record (memory nodes p) { previous = to }) nobody (eqb-false q.0 p.0 is)
