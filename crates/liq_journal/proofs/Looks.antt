-- How looks at a disk go on.
use Rattle.std.proofs.Common.{◌≡◌, ℕ, ◌+◌, ◌-◌, ◌≤◌, List, ◌++◌, length, take, drop, Option, Some, None, IfSome, ◌∙◌, refl, sym, ap, subst, arith, take-append-drop, append_assoc, length-append, length-take}
use Rattle.std.proofs.lemmas.List.{take-take, drop-take, drop-drop}
use Rattle.sha2.specs.Sha256.{sha256}
use Rattle.liq_disk_header.specs.Layout.{header_digest, piece}
use Rattle.liq_disk_header.proofs.Hashed.{header_digest_is}
use Rattle.liq_outside.specs.At.{DiskAt}
use Rattle.liq_outside.specs.Disk.{LeftNow, Looked}
use Rattle.liq_outside.proofs.Moments.{chained, weaker, started}
use Rattle.liq_journal.specs.Looked.{IsRead}

module _ {D : Type 0} (at : D → DiskAt) where
  -- before the first call
  pub looked_none : (old : D) → Looked at old old
  looked_none old = record {
    same = refl;
    moment = refl;
    within = λ image left. left;
    keeps = λ image left. left;
    leaves = started at old (LeftNow at old) (λ image left. left);
  }

  pub looked_on : (old mid new : D) → Looked at old mid → Looked at mid new → Looked at old new
  looked_on old mid new first second = record {
    same = second.same ∙ first.same;
    moment = second.moment ∙ first.moment;
    within = λ image left. first.within image (second.within image left);
    keeps = λ image left. second.keeps image (first.keeps image left);
    leaves = chained at old mid new (LeftNow at old) first.leaves (weaker at mid new (LeftNow at mid)
        (LeftNow at old) second.leaves first.within);
  }

-- one piece behind another
pub piece_more : (place n m : ℕ) (bytes : List ℕ) → piece place n bytes ++ take m (drop (place + n) bytes)
    ≡ piece place (n + m) bytes
piece_more place n m bytes =
    let l = drop place bytes in
    let first : take n l ≡ take n (take (n + m) l) = sym (take-take n (n + m) l (omega arith)) in
    let second : take m (drop (place + n) bytes) ≡ drop n (take (n + m) l) = ap (take m) (sym (drop-drop n place bytes))
    ∙ sym (drop-take n m l) in
    (λ i. first i ++ second i) ∙ take-append-drop n (take (n + m) l)

-- the piece from a place on, as far as it was read
abbrev pub HasPart : ℕ → ℕ → List ℕ → List ℕ → Type 0
HasPart place size part held = place + size ≤ length held → part ≡ piece place (length part) held

pub read_more : (told now : Option (List ℕ)) → now ≡ told → (place size at n : ℕ) (old new part buf : List ℕ)
    → at ≡ place + length old → length new ≡ length old + n → new ≡ old ++ take n part
    → IfSome now (IsRead at (length buf) n part) → IfSome told (HasPart place size old)
    → IfSome told (HasPart place size new)
read_more told now same place size at n old new part buf is long grows read so_far =
    go told (subst (λ (o : Option (List ℕ)). IfSome o (IsRead at (length buf) n part)) same read) so_far
  where
    go : (o : Option (List ℕ)) → IfSome o (IsRead at (length buf) n part) → IfSome o (HasPart place size old)
        → IfSome o (HasPart place size new)
    go None r s = tt
    go (Some held) r s = λ room.
        grows ∙ (λ i. s room i ++ r.1 i) ∙ ap (λ (k : ℕ). piece place (length old) held ++ take n (drop k held)) is
        ∙ piece_more place (length old) n held ∙ ap (λ (k : ℕ). piece place k held) (sym long)

pub grown : (old new part : List ℕ) (n : ℕ) → new ≡ old ++ take n part → n ≤ length part → length new ≡ length old + n
grown old new part n is within = ap length is ∙ length-append old (take n part)
    ∙ ap (λ (k : ℕ). length old + k) (length-take n part ∙ omega arith)

pub sum_within : (at n want end : ℕ) → n ≤ want → want ≤ end - at → at ≤ end → at + n ≤ end
sum_within at n want end fits room within = omega arith

-- the fields and so many bytes of the checkpoint are digested
abbrev pub HasDigested : (List ℕ → Type 0) → ℕ → ℕ → List ℕ → ℕ → List ℕ → Type 0
HasDigested Holds place size fields done held = place + size ≤ length held → Holds (fields ++ piece place done held)

-- a piece of the checkpoint more
pub digest_more : (told now : Option (List ℕ)) → now ≡ told
    → (place size done n : ℕ) (fields part buf : List ℕ) (Holds HoldsMore : List ℕ → Type 0) → ((m : List ℕ) → Holds m
    → HoldsMore (m ++ take n part)) → IfSome now (IsRead (place + done) (length buf) n part)
    → IfSome told (HasDigested Holds place size fields done)
    → IfSome told (HasDigested HoldsMore place size fields (done + n))
digest_more told now same place size done n fields part buf Holds HoldsMore update read so_far =
    go told (subst (λ (o : Option (List ℕ)). IfSome o (IsRead (place + done) (length buf) n part)) same read) so_far
  where
    go : (o : Option (List ℕ)) → IfSome o (IsRead (place + done) (length buf) n part)
        → IfSome o (HasDigested Holds place size fields done)
        → IfSome o (HasDigested HoldsMore place size fields (done + n))
    go None r s = tt
    go (Some held) r s = λ room. subst HoldsMore (append_assoc fields (piece place done held) (take n part)
        ∙ ap (λ (l : List ℕ). fields ++ (piece place done held ++ l)) r.1
        ∙ ap (λ (l : List ℕ). fields ++ l) (piece_more place done n held)) (update (fields ++ piece place done held)
        (s room))

-- all of the checkpoint is in the digest
pub digest_done : (told : Option (List ℕ)) (place size done : ℕ) → done ≡ size
    → (fields digest : List ℕ) (Holds : List ℕ → Type 0) → ((m : List ℕ) → Holds m → digest ≡ sha256 m)
    → IfSome told (HasDigested Holds place size fields done) → IfSome told (λ held. place + size ≤ length held
    → digest ≡ header_digest fields (piece place size held))
digest_done None place size done all fields digest Holds finalize so_far = tt
digest_done (Some held) place size done all fields digest Holds finalize so_far =
    λ room. finalize (fields ++ piece place done held) (so_far room) ∙ header_digest_is fields (piece place done held)
    ∙ ap (λ (n : ℕ). header_digest fields (piece place n held)) all
