-- What an opening leaves and finds afterwards.
use Rattle.std.proofs.Common.{◌≡◌, inl, inr, ⊎_elim, ℕ, ◌+◌, ◌*◌, ◌-◌, ◌≤◌, List, length, take, drop, Option, Some, None, IfSome, IsSome, ◌↔◌, rules, Bool, refl, sym, ◌∙◌, ap, subst, arith, length-drop}
use Rattle.liq_outside.specs.At.{DiskAt}
use Rattle.liq_outside.specs.Disk.{LeavesOnly}
use Rattle.liq_outside.proofs.Moments.{weaker}
use Rattle.liq_journal.specs.Records.{records}
use Rattle.liq_journal.specs.declared.scanned.Scanned.{Scanned}
use Rattle.liq_journal.specs.Written.{Written, Open, Absent, most_records, found_on, start_of, end_of}
use Rattle.liq_journal.specs.Crash.{HasGate, SettleLeaves, Stands, beginning}
use Rattle.liq_disk_header.specs.Header.{is_odd}
use Rattle.liq_journal.specs.Settled.{IsSettled}
use Rattle.liq_journal.specs.Opened.{IsScanOf, OpenLeaves, AbsentLeaves}
use Rattle.liq_journal.proofs.Reading.{records_long, records_few}
use Rattle.liq_journal.proofs.Heading.{has_generation, is_open, of_records}
use Rattle.liq_journal.proofs.Appending.{held_on}
use Rattle.liq_journal.proofs.Parity.{parity_of}

module _ (odd : Bool) (held : List ℕ) (w : Written) (found : found_on odd held ≡ Open w) where
  abbrev raws : List (List ℕ)
  raws = records most_records (drop (start_of w) held)

  counted : length raws ≡ length w.commands
  counted = (of_records w.generation w.limit w.checkpoint 1 (start_of w) raws w (is_open odd held w found).behind).count

  pub ends_inside : end_of w ≤ length held
  ends_inside =
      let long = records_long most_records (drop (start_of w) held) in
      let d = length-drop (start_of w) held in
      let c = counted in
      let s = (is_open odd held w found).headed.long in
      omega arith

  few : length w.commands ≤ 1000001
  few = let f = records_few most_records (drop (start_of w) held) in let c = counted in omega arith

  pub stands_settled : (after : List ℕ) → take (end_of w) after ≡ take (end_of w) held → HasGate (end_of w) after
      → Stands odd after w
  stands_settled after front gate = record {
    found = held_on odd held w found after (1000001 - length w.commands) (let f = few
        in omega arith) ends_inside front (λ is. let e = sym gate.shut ∙ is in absurd (cc (e)));
    ended = record { there = gate.there; is = gate.shut };
  }

-- where the records of a scan end
pub scan_end : (odd : Bool) (held : List ℕ) (s : Scanned) (scan : IsScanOf odd held s)
    → s.start + 129 * s.count ≡ end_of scan.written
scan_end odd held s scan = let a = scan.start_is in let b = scan.count_is in omega arith

pub told_inside : (told : Option (List ℕ)) (odd : Bool) (s : Scanned) → IfSome told (λ held. IsScanOf odd held s)
    → IfSome told (λ held. s.start + 129 * s.count ≤ length held)
told_inside None odd s scan = tt
told_inside (Some held) odd s scan = let e = scan_end odd held s scan
    in let i = ends_inside odd held scan.written scan.found in omega arith

same_written : (odd : Bool) (held : List ℕ) (w v : Written) → found_on odd held ≡ Open w
    → found_on odd held ≡ Open v → w ≡ v
same_written odd held w v a b = let e : Open w ≡ Open v = sym a ∙ b in cc (e)

pub told_stands : (told now : Option (List ℕ)) (odd : Bool) (s : Scanned) (held : List ℕ) (w : Written)
    → told ≡ Some held → IfSome told (λ l. IsScanOf odd l s) → found_on odd held ≡ Open w
    → IfSome now (λ after. take (s.start + 129 * s.count) after ≡ take (s.start + 129 * s.count) held)
    → IfSome now (λ after. HasGate (s.start + 129 * s.count) after) → IfSome now (λ after. Stands odd after w)
told_stands told None odd s held w is scan found front gate = tt
told_stands told (Some after) odd s held w is scan found front gate =
    let sc = subst (λ (o : Option (List ℕ)). IfSome o (λ l. IsScanOf odd l s)) is scan in
    let e : s.start + 129 * s.count ≡ end_of w = scan_end odd held s sc
    ∙ ap end_of (same_written odd held sc.written w sc.found found) in
    stands_settled odd held w found after (subst (λ (n : ℕ). take n after ≡ take n held) e front)
    (subst (λ (n : ℕ). HasGate n after) e gate)

module _ {D : Type 0} (at : D → DiskAt) (old new : D) (odd : Bool) (held : List ℕ) where
  pub leaves_behind : (told : Option (List ℕ)) (s : Scanned) → told ≡ Some held → IfSome told (λ l. IsScanOf odd l s)
      → LeavesOnly at old new (SettleLeaves (s.start + 129 * s.count) held)
      → LeavesOnly at old new (OpenLeaves odd held)
  leaves_behind told s is scan leaves =
      let sc = subst (λ (o : Option (List ℕ)). IfSome o (λ l. IsScanOf odd l s)) is scan in
      weaker at old new (SettleLeaves (s.start + 129 * s.count) held) (OpenLeaves odd held) leaves
      (λ image l. ⊎_elim (λ same. inl same) (λ byte. inr (
        s.start + 129 * s.count,
        inl (
          sc.written,
          sc.found,
          scan_end odd held s sc,
          byte.0,
        ),
        byte.1,
      )) l)

  pub leaves_absent : found_on odd held ≡ Absent → LeavesOnly at old new (AbsentLeaves held)
      → LeavesOnly at old new (OpenLeaves odd held)
  leaves_absent found leaves = weaker at old new (AbsentLeaves held) (OpenLeaves odd held) leaves
      (λ image l. ⊎_elim (λ same. inl same) (λ byte. inr (0, inr (found, refl, byte.0), byte.1)) l)

parity : (odd : Bool) (held : List ℕ) (w : Written) → found_on odd held ≡ Open w → is_odd w.generation ≡ odd
parity odd held w found = parity_of odd w.generation (has_generation odd held w found)

pub told_settled : (told now : Option (List ℕ)) (odd : Bool) (s : Scanned) → (IsSome now ↔ IsSome told)
    → IfSome told (λ held. IsScanOf odd held s) → ((held : List ℕ) (w : Written) → told ≡ Some held
    → found_on odd held ≡ Open w → IfSome now (λ after. Stands odd after w))
    → IfSome now (IsSettled s.generation s.start s.count)
told_settled told None odd s telling scan stands = tt
told_settled None (Some after) odd s telling scan stands = let t : IsSome (Some after) = search rules
    in absurd (none_is (telling.0 t))
  where
    none_is : IsSome {T = List ℕ} None → ⊥
    none_is is = absurd (search rules)
told_settled (Some held) (Some after) odd s telling scan stands = record {
  written = scan.written;
  stands = subst (λ (b : Bool). Stands b after scan.written) (sym (ap is_odd (sym scan.generation_is)
      ∙ parity odd held scan.written scan.found)) (stands held scan.written refl scan.found);
  generation_is = scan.generation_is;
  start_is = scan.start_is;
  count_is = scan.count_is;
}

-- what a creation leaves is settled
pub begun_settled : (told now : Option (List ℕ)) (generation : ℕ) (checkpoint : List ℕ) → (IsSome now ↔ IsSome told)
    → ((held : List ℕ) → told ≡ Some held → (after : List ℕ) × (now ≡ Some after)
    × Stands (is_odd generation) after (beginning generation checkpoint))
    → IfSome now (IsSettled generation (65 + length checkpoint) 0)
begun_settled told None generation checkpoint telling created = tt
begun_settled None (Some after) generation checkpoint telling created = let t : IsSome (Some after) = search rules
    in absurd (none_is (telling.0 t))
  where
    none_is : IsSome {T = List ℕ} None → ⊥
    none_is is = absurd (search rules)
begun_settled (Some held) (Some after) generation checkpoint telling created =
    let made = created held refl in
    record {
      written = beginning generation checkpoint;
      stands = subst (λ (o : Option (List ℕ)). IfSome o (λ l. Stands (is_odd generation) l
          (beginning generation checkpoint))) (sym made.1) made.2;
      generation_is = refl;
      start_is = refl;
      count_is = refl;
    }
