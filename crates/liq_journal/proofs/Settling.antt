-- What a shut gate behind the records leaves.
use Rattle.std.proofs.Common.{◌≡◌, ◌⊎◌, inl, inr, ⊎_elim, ℕ, ◌+◌, ◌<◌, ◌≤◌, List, [], ◌∷◌, ◌++◌, length, take, drop, get_or, Option, Some, None, option_map, IfSome, Bool, true, false, IsTrue, ◌↔◌, rules, sym, ◌∙◌, ap, subst, arith, append_assoc, take-append-drop, length-take, length-append}
use Rattle.std.proofs.lemmas.List.{take_all, take_at, drop_at, drop_more, get_or-drop}
use Rattle.liq_outside.specs.At.{DiskAt}
use Rattle.liq_outside.specs.Disk.{Torn, Only, LeftNow, LeavesOnly, overwritten}
use Rattle.liq_outside.proofs.Moments.{chained, weaker}
use Rattle.liq_journal.specs.Crash.{HasByteAt, HasGate, SettleLeaves}
use Rattle.liq_journal.specs.Opened.{IsUnshut, AbsentLeaves}

-- a write of one byte leaves the bytes, or some byte there
pub torn_byte : (place : ℕ) (held image : List ℕ) → place ≤ length held → Torn place 1 held image → (image ≡ held)
    ⊎ HasByteAt place held image
torn_byte place held image inside torn = elim (order place (length image)) [
  | inl there ↦ inr (
    get_or image place 0,
    sym (take-append-drop place image) ∙ (λ i. torn.before i ++ drop_more image place 0 there i)
        ∙ ap (λ (l : List ℕ). take place held ++ (get_or image place 0 ∷ l)) torn.behind
        ∙ sym (append_assoc (take place held) (get_or image place 0 ∷ []) (drop (place + 1) held)),
  )
  | inr short ↦ inl (sym (take_all place image short) ∙ torn.before
      ∙ take_all place held (omega (arith, torn.no_shorter)))
]
  where
    order : (a b : ℕ) → (a < b) ⊎ (b ≤ a)
    order a b = grind arith

not_true : (b : Bool) → b ≡ false → IsTrue b → ⊥
not_true true is so = absurd (cc (is))
not_true false is so = absurd (search rules)

module _ {D : Type 0} (at : D → DiskAt) (old mid new : D) (place : ℕ) (held : List ℕ)
    (only : Only held (LeftNow at old)) (leaves : LeavesOnly at old mid (LeftNow at old)) where
  pub settle_looked : LeavesOnly at old mid (SettleLeaves place held)
  settle_looked = weaker at old mid (LeftNow at old) (SettleLeaves place held) leaves (λ image left.
      inl (only image left))

  pub settle_written : place ≤ length held → (shut : Bool) → shut ≡ false → (told : Option (List ℕ)) → told ≡ Some held
      → IfSome told (λ l. IsTrue shut ↔ HasGate place l) → LeavesOnly at mid new (Torn place 1 held)
      → LeavesOnly at old new (SettleLeaves place held)
  settle_written inside shut open_gate told is reads torn =
      let iff = subst (λ (o : Option (List ℕ)). IfSome o (λ l. IsTrue shut ↔ HasGate place l)) is reads in
      chained at old mid new (SettleLeaves place held) settle_looked
      (weaker at mid new (Torn place 1 held) (SettleLeaves place held) torn
      (λ image t. ⊎_elim (λ same. inl same) (λ byte. inr ((λ has. not_true shut open_gate (iff.1 has)), byte))
      (torn_byte place held image inside t)))

module _ {D : Type 0} (at : D → DiskAt) (old mid new : D) (held : List ℕ) (only : Only held (LeftNow at old))
    (leaves : LeavesOnly at old mid (LeftNow at old)) where
  pub absent_looked : LeavesOnly at old mid (AbsentLeaves held)
  absent_looked = weaker at old mid (LeftNow at old) (AbsentLeaves held) leaves (λ image left. inl (only image left))

  pub absent_written : (unshut : Bool) → IsTrue unshut → (told : Option (List ℕ)) → told ≡ Some held
      → IfSome told (λ l. IsTrue unshut ↔ IsUnshut l) → LeavesOnly at mid new (Torn 0 1 held)
      → LeavesOnly at old new (AbsentLeaves held)
  absent_written unshut is_so told is reads torn =
      let iff = subst (λ (o : Option (List ℕ)). IfSome o (λ l. IsTrue unshut ↔ IsUnshut l)) is reads in
      chained at old mid new (AbsentLeaves held) absent_looked
      (weaker at mid new (Torn 0 1 held) (AbsentLeaves held) torn
      (λ image t. ⊎_elim (λ same. inl same) (λ byte. inr (iff.0 is_so, byte)) (torn_byte 0 held image (omega arith) t)))

pub is_true : (b : Bool) → b ≡ true → IsTrue b
is_true true is = search rules
is_true false is = absurd (cc (is))

-- ---- a gate that is written: it is shut, and what stands before it stays

module _ (place : ℕ) (bytes held : List ℕ) (inside : place ≤ length held) where
  abbrev rest : List ℕ
  rest = bytes ++ drop (place + length bytes) held

  split_is : overwritten held place bytes ≡ take place held ++ rest
  split_is = append_assoc (take place held) bytes (drop (place + length bytes) held)

  front_size : length (take place held) ≡ place
  front_size = omega (arith, length-take place held, inside)

  front_stays : take place (overwritten held place bytes) ≡ take place held
  front_stays = ap (take place) split_is ∙ take_at (take place held) rest place front_size

  first_read : get_or (overwritten held place bytes) place 0 ≡ get_or rest 0 0
  first_read =
      let same : place + 0 ≡ place = omega arith in
      subst (λ (n : ℕ). get_or (overwritten held place bytes) n 0 ≡ get_or rest 0 0) same
      (sym (get_or-drop place (overwritten held place bytes) 0 0)
      ∙ ap (λ (l : List ℕ). get_or l 0 0) (ap (drop place) split_is
      ∙ drop_at (take place held) rest place front_size))

  reaches : 1 ≤ length bytes → place < length (overwritten held place bytes)
  reaches some =
      let long = length-append (take place held) rest in
      let more = length-append bytes (drop (place + length bytes) held) in
      omega (arith, ap (λ (l : List ℕ). length l) split_is, long, more, front_size, some)

module _ (place : ℕ) (old mid new : Option (List ℕ)) (same : mid ≡ old) (inside : IfSome old (λ held. place
    ≤ length held)) (is : new ≡ option_map (λ (l : List ℕ). overwritten l place (0 ∷ [])) mid) where
  abbrev shut_on : List ℕ → List ℕ
  shut_on l = overwritten l place (0 ∷ [])

  pub gate_told : IfSome new (HasGate place)
  gate_told = subst (λ (o : Option (List ℕ)). IfSome o (HasGate place)) (sym (is ∙ ap (option_map shut_on) same))
      (by old inside) where
        by : (o : Option (List ℕ)) → IfSome o (λ held. place ≤ length held)
            → IfSome (option_map shut_on o) (HasGate place)
        by None h = tt
        by (Some held) h = record {
          there = reaches place (0 ∷ []) held h (omega arith);
          shut = first_read place (0 ∷ []) held h;
        }

  pub front_told : (held : List ℕ) → old ≡ Some held → IfSome new (λ after. take place after ≡ take place held)
  front_told held told =
      let room = subst (λ (o : Option (List ℕ)). IfSome o (λ l. place ≤ length l)) told inside in
      subst (λ (o : Option (List ℕ)). IfSome o (λ after. take place after ≡ take place held)) (sym (is
      ∙ ap (option_map shut_on) (same ∙ told))) (front_stays place (0 ∷ []) held room)
