-- An image that is one of a run: by the accepted commands, of a longer run, and of one from a state that is the same.
use Rattle.std.proofs.Common.{◌≡◌, ◌⊎◌, inl, inr, ⊎_elim, ℕ, zero, suc, ◌+◌, ◌≤◌, List, [], ◌∷◌, ◌++◌, length, take, fold, Err, Bool, true, false, cond, if◌then◌else◌, refl, sym, ◌∙◌, ap, subst, arith}
use Rattle.std.specs.Prelude.{count_by}
use Rattle.std.proofs.lemmas.List.{append-nil, take_all}
use Rattle.std.proofs.lemmas.List.Sums.{sum_by-append, sum_by-cons}
use Rattle.liq_types.specs.declared.requests.Call.{Call}
use Rattle.liq_types.specs.declared.requests.Call.TheVariants.{Rotate}
use Rattle.liq_types.specs.declared.requests.Command.{Command}
use Rattle.liq_types.specs.declared.requests.Request.{Request}
use Rattle.liq_types.specs.declared.requests.Request.TheVariants.{Do, Ask}
use Rattle.liq_types.specs.State.{State}
use Rattle.liq_rule_step.specs.Rules.{effect}
use Rattle.liq_rule_step.specs.Step.{Allowed, Refused, Repeated, Ruling, accepted, after, after_ruling, is_allowed, ruling, run, step}
use Rattle.liq_rule_step.proofs.AlikeReads.{Alike}
use Rattle.liq_rule_step.proofs.AlikeReplies.{accepted_alike, after_alike, ruling_alike, run_alike}
use Rattle.liq_rule_step.proofs.Runs.{run_accepted}
use Rattle.liq_journal.specs.Crash.{IsClosed, beginning}
use Rattle.liq_journal.specs.declared.damage.Damage.{Damage}
use Rattle.liq_journal.specs.Opened.{OpenLeaves}
use Rattle.liq_types.specs.Verbs.{is_rotate}
use Rattle.liq_journal.specs.Written.{Absent, Damaged, Open, Written, found_on}
use Rattle.liq_outside.specs.Disk.{overwritten}
use Rattle.liq_disk_pair.specs.declared.side.Side.{Side}
use Rattle.liq_disk_pair.specs.declared.side.Side.TheVariants.{Left, Right}
use Rattle.liq_disk_pair.specs.Kept.{IsKept}
use Rattle.liq_disk_pair.specs.Past.{AtCommand, Fault, InOpening, IsAsItStood, IsOfFailed, IsOfPrefix, IsOfRun, IsOfUnfinished, NoFault, StandsAlone, failed_commands, rotations}
use Rattle.liq_disk_pair.specs.Pair.{Faulty, Nothing, standing}
use Rattle.liq_disk_pair.specs.Sides.{has_odd, on}
use Rattle.liq_disk_pair.specs.Unfinished.{LeftLeaves}
use Rattle.liq_disk_pair.proofs.Alike.{stand_alike, unfinished_alike}
use Rattle.liq_disk_pair.proofs.Alone.{IsOpenFor, IsOpenedFor, created_open, empty_absent, isnt_absent, of_creation, open_alone, open_left, open_with, stood_again}
use Rattle.liq_disk_pair.proofs.FirstPlace.{absent_isnt_open, closed_absent, closed_with, unshut_no_gate}
use Rattle.liq_disk_pair.proofs.Generations.{after_generation}
use Rattle.liq_disk_pair.proofs.Standings.{pair_ends, standing_absent, standing_damaged, state_by}

-- ---- the accepted commands of a run

fold_newly : (s : State) (c : Command) (more : List Command) (r : Ruling)
    → fold after s ((if is_allowed r then c ∷ [] else []) ++ more) ≡ fold after (after_ruling s c r).0 more
fold_newly s c more (Refused refusal) = refl
fold_newly s c more (Repeated kept) = refl
fold_newly s c more Allowed = refl

-- they lead where the requests lead
pub run_folds : (s : State) (requests : List Request) → (run s requests).0 ≡ fold after s (accepted s requests)
run_folds s [] = refl
run_folds s (Do c ∷ requests) =
    run_folds (step s (Do c)).0 requests
    ∙ sym (fold_newly s c (accepted (step s (Do c)).0 requests) (ruling s c))
run_folds s (Ask query ∷ requests) = run_folds s requests

take_longer : (n : ℕ) (cs more : List Command) → (m : ℕ) × (take m (cs ++ more) ≡ take n cs)
take_longer zero cs more = (0, refl)
take_longer (suc n) [] more = (0, refl)
take_longer (suc n) (c ∷ cs) more =
    let rest = take_longer n cs more in (suc rest.0, ap (λ (l : List Command). c ∷ l) rest.1)

-- ---- a prefix of them

pub prefix_longer : (side : Side) (start : State) (requests more : List Request) (image : List ℕ)
    → IsOfPrefix side start requests image → IsOfPrefix side start (requests ++ more) image
prefix_longer side start requests more image (n, alone) =
    let m = take_longer n (accepted start requests) (accepted (run start requests).0 more) in
    let same : take m.0 (accepted start (requests ++ more)) ≡ take n (accepted start requests) =
    ap (take m.0) (run_accepted start requests more) ∙ m.1 in
    (m.0, subst (λ (cs : List Command). StandsAlone side image (fold after start cs)) (sym same) alone)

-- the prefix of all accepted commands
pub prefix_whole : (side : Side) (start : State) (requests : List Request) (image : List ℕ)
    → IsOpenFor side image (run start requests).0 → IsOfPrefix side start requests image
prefix_whole side start requests image opens =
    let cs = accepted start requests in
    let all : take (length cs) cs ≡ cs = take_all (length cs) cs (omega arith) in
    let same : (run start requests).0 ≡ fold after start (take (length cs) cs) =
    run_folds start requests ∙ ap (fold after start) (sym all) in (
      length cs,
      subst (λ (s : State). StandsAlone side image s) same
          (open_alone side image (run start requests).0 opens),
    )

-- ---- an image of a run

module _ (side : Side) (l r : List ℕ) (start : State) (requests : List Request) (image : List ℕ) where
  -- of one with more requests
  pub of_longer : (more : List Request) → IsOfRun side l r start requests NoFault image
      → IsOfRun side l r start (requests ++ more) NoFault image
  of_longer more (inl absent) = inl absent
  of_longer more (inr (inl stood)) = inr (inl stood)
  of_longer more (inr (inr (inl prefix))) = inr (inr (inl (prefix_longer side start requests more image prefix)))
  of_longer more (inr (inr (inr (inl unfinished)))) = inr (inr (inr (inl unfinished)))
  of_longer more (inr (inr (inr (inr none)))) = absurd none

  -- of one that met a fault
  pub of_halted : (fault : Fault) → IsOfRun side l r start requests NoFault image
      → IsOfRun side l r start requests fault image
  of_halted fault (inl absent) = inl absent
  of_halted fault (inr (inl stood)) = inr (inl stood)
  of_halted fault (inr (inr (inl prefix))) = inr (inr (inl prefix))
  of_halted fault (inr (inr (inr (inl unfinished)))) = inr (inr (inr (inl unfinished)))
  of_halted fault (inr (inr (inr (inr none)))) = absurd none

  failed_by : (fault : Fault) (s t : State) → s ≡ t → IsOfFailed side s fault image → IsOfFailed side t fault image
  failed_by fault s t same is = subst (λ (u : State). IsOfFailed side u fault image) same is

  -- of one with the same accepted commands
  pub of_same : (others : List Request) (fault : Fault) → accepted start requests ≡ accepted start others
      → IsOfRun side l r start requests fault image → IsOfRun side l r start others fault image
  of_same others fault same (inl absent) = inl absent
  of_same others fault same (inr (inl stood)) = inr (inl stood)
  of_same others fault same (inr (inr (inl (n, alone)))) =
      inr (inr (inl (
        n,
        subst (λ (cs : List Command). StandsAlone side image (fold after start (take n cs))) same alone,
      )))
  of_same others fault same (inr (inr (inr (inl unfinished)))) = inr (inr (inr (inl unfinished)))
  of_same others fault same (inr (inr (inr (inr failed)))) =
      let ends : (run start requests).0 ≡ (run start others).0 =
      run_folds start requests ∙ ap (fold after start) same ∙ sym (run_folds start others) in
      inr (inr (inr (inr (failed_by fault (run start requests).0 (run start others).0 ends failed))))

-- ---- from a state that is the same

fold_alike : (cs : List Command) (s t : State) → Alike s t → Alike (fold after s cs) (fold after t cs)
fold_alike [] s t alike = alike
fold_alike (c ∷ cs) s t alike = fold_alike cs (after s c) (after t c) (after_alike alike c)

alone_alike : (side : Side) (image : List ℕ) (s t : State) → Alike s t → StandsAlone side image s
    → StandsAlone side image t
alone_alike side image s t alike stands = stand_alike alike (on side image []) (on side [] image) stands

failed_alike : (side : Side) (image : List ℕ) (s t : State) (fault : Fault) → Alike s t
    → IsOfFailed side s fault image → IsOfFailed side t fault image
failed_alike side image s t NoFault alike none = none
failed_alike side image s t InOpening alike none = none
failed_alike side image s t (AtCommand c) alike (allowed, stands) =
    (sym (ruling_alike alike c) ∙ allowed, alone_alike side image (after s c) (after t c) (after_alike alike c) stands)

pub of_alike : (side : Side) (l r : List ℕ) (s t : State) (requests : List Request) (fault : Fault) (image : List ℕ)
    → Alike s t → IsOfRun side l r s requests fault image → IsOfRun side l r t requests fault image
of_alike side l r s t requests fault image alike (inl absent) = inl absent
of_alike side l r s t requests fault image alike (inr (inl stood)) = inr (inl stood)
of_alike side l r s t requests fault image alike (inr (inr (inl (n, alone)))) =
    let cs = accepted s requests in
    let there = alone_alike side image (fold after s (take n cs)) (fold after t (take n cs))
    (fold_alike (take n cs) s t alike) alone in
    inr (inr (inl (
      n,
      subst (λ (ds : List Command). StandsAlone side image (fold after t (take n ds)))
          (accepted_alike requests alike) there,
    )))
of_alike side l r s t requests fault image alike (inr (inr (inr (inl (c, holds, alone))))) =
    inr (inr (inr (inl (
      c,
      unfinished_alike alike l r c holds,
      alone_alike side image (after s c) (after t c) (after_alike alike c) alone,
    ))))
of_alike side l r s t requests fault image alike (inr (inr (inr (inr failed)))) =
    inr (inr (inr (inr (failed_alike side image (run s requests).0 (run t requests).0 fault
    (run_alike requests alike) failed))))

-- ---- of an opening

module _ (side : Side) (l r : List ℕ) (s : State) (fault : Fault) (image : List ℕ) (kept : IsKept l r s) where
  opened_of : (image ≡ on side l r) ⊎ IsOpenedFor side l r s image → IsOfRun side l r s [] fault image
  opened_of (inl same) = inr (inl (inl same))
  opened_of (inr (inl opens)) = inr (inr (inl (0, open_alone side image s opens)))
  opened_of (inr (inr (c, holds, opens))) =
      inr (inr (inr (inl (c, holds, open_alone side image (after s c) opens))))

  pub opening_of : OpenLeaves (has_odd side) (on side l r) image → IsOfRun side l r s [] fault image
  opening_of (inl same) = inr (inl (inl same))
  opening_of (inr (place, inl some, has)) =
      opened_of (open_left side l r s image some.0 kept some.1 (inr (place, inl some, has)))
  opening_of (inr (place, inr none, has)) =
      let there = has.1 ∙ ap (λ (n : ℕ). overwritten (on side l r) n (has.0 ∷ [])) none.1 in
      inr (inl (inr (unshut_no_gate (on side l r) none.2, (has.0, there))))

  opened_whole : (w : Written) → found_on (has_odd side) (on side l r) ≡ Open w
      → (image ≡ on side l r) ⊎ IsOpenedFor side l r s image → found_on (has_odd side) image ≡ Absent → ⊥
  opened_whole w found (inl same) absent =
      absent_isnt_open (has_odd side) image w absent (ap (found_on (has_odd side)) same ∙ found)
  opened_whole w found (inr (inl opens)) absent = isnt_absent side image s opens absent
  opened_whole w found (inr (inr (c, holds, opens))) absent = isnt_absent side image (after s c) opens absent

  -- with some byte at place 0, where no shut gate is, what it leaves is of the run, too
  pub opening_with : (held : List ℕ) → OpenLeaves (has_odd side) (on side l r) held → IsAsItStood held image
      → IsOfRun side l r s [] fault image
  opening_with held (inl same) stood = inr (inl (stood_again (on side l r) held image (inl same) stood))
  opening_with held (inr (place, inl some, has)) stood =
      by (open_left side l r s held some.0 kept some.1 (inr (place, inl some, has)))
    where
      open_or_not : (t : State) → (IsOpenFor side image t → IsOfRun side l r s [] fault image) → IsOpenFor side held t
          → IsOfRun side l r s [] fault image
      open_or_not t gives opens = ⊎_elim (λ absent. inl absent) gives (open_with side held image t opens stood)

      by : (held ≡ on side l r) ⊎ IsOpenedFor side l r s held → IsOfRun side l r s [] fault image
      by (inl same) = inr (inl (stood_again (on side l r) held image (inl same) stood))
      by (inr (inl opens)) = open_or_not s (λ is. opened_of (inr (inl is))) opens
      by (inr (inr (c, holds, opens))) = open_or_not (after s c) (λ is. opened_of (inr (inr (c, holds, is)))) opens
  opening_with held (inr (place, inr none, has)) stood =
      let there = has.1 ∙ ap (λ (n : ℕ). overwritten (on side l r) n (has.0 ∷ [])) none.1 in
      inr (inl (stood_again (on side l r) held image (inr (unshut_no_gate (on side l r) none.2, (has.0, there))) stood))

  -- an open disk stays open
  pub opening_whole : (w : Written) → found_on (has_odd side) (on side l r) ≡ Open w
      → OpenLeaves (has_odd side) (on side l r) image → found_on (has_odd side) image ≡ Absent → ⊥
  opening_whole w found leaves absent = opened_whole w found (open_left side l r s image w kept found leaves) absent

module _ (l r : List ℕ) (s : State) (fault : Fault) (image : List ℕ) (kept : IsKept l r s) where
  created_of : found_on true l ≡ Absent → found_on false r ≡ Absent
      → (found_on true image ≡ Absent)
      ⊎ (IsAsItStood l image ⊎ (found_on true image ≡ Open (beginning 1 [])))
      → IsOfRun Left l r s [] fault image
  created_of left right (inl absent) = inl absent
  created_of left right (inr (inl stood)) = inr (inl stood)
  created_of left right (inr (inr found)) =
      inr (inr (inl (0, open_alone Left image s (created_open l r s image kept left right found))))

  pub left_of : LeftLeaves l r image → IsOfRun Left l r s [] fault image
  left_of (inl opened) = opening_of Left l r s fault image kept opened
  left_of (inr (left, right, created)) = created_of left right (of_creation Left l image (beginning 1 []) created)

  pub left_whole : (w : Written) → found_on true l ≡ Open w → LeftLeaves l r image → found_on true image ≡ Absent → ⊥
  left_whole w found (inl opened) absent = opening_whole Left l r s fault image kept w found opened absent
  left_whole w found (inr (left, right, created)) absent = absent_isnt_open true l w left found

-- ---- what is damaged

alone_undamaged : (side : Side) (image : List ℕ) (s : State) (damage : Damage) → StandsAlone side image s
    → found_on (has_odd side) image ≡ Damaged damage → ⊥
alone_undamaged Left image s damage stands found =
    let no : pair_ends stands.state ≡ Err (Left, damage) = sym stands.is
    ∙ state_by image [] (Faulty damage) (standing false []) (standing_damaged true image damage found) refl in
    absurd (cc (no))
alone_undamaged Right image s damage stands found =
    let no : pair_ends stands.state ≡ Err (Right, damage) = sym stands.is
    ∙ state_by [] image Nothing (Faulty damage) (standing_absent true [] (empty_absent true))
    (standing_damaged false image damage found) in
    absurd (cc (no))

failed_undamaged : (side : Side) (image : List ℕ) (s : State) (fault : Fault) (damage : Damage)
    → IsOfFailed side s fault image → found_on (has_odd side) image ≡ Damaged damage → ⊥
failed_undamaged side image s NoFault damage none found = none
failed_undamaged side image s InOpening damage none found = none
failed_undamaged side image s (AtCommand c) damage failed found =
    alone_undamaged side image (after s c) damage failed.1 found

-- a damaged image is as the disk stood
pub damaged_stood : (side : Side) (l r : List ℕ) (start : State) (requests : List Request) (fault : Fault)
    (image : List ℕ) (damage : Damage) → IsOfRun side l r start requests fault image
    → found_on (has_odd side) image ≡ Damaged damage → IsAsItStood (on side l r) image
damaged_stood side l r start requests fault image damage (inl absent) found =
    let no : Absent ≡ Damaged damage = sym absent ∙ found in absurd (cc (no))
damaged_stood side l r start requests fault image damage (inr (inl stood)) found = stood
damaged_stood side l r start requests fault image damage (inr (inr (inl (n, alone)))) found =
    absurd (alone_undamaged side image (fold after start (take n (accepted start requests))) damage alone found)
damaged_stood side l r start requests fault image damage (inr (inr (inr (inl (c, holds, alone))))) found =
    absurd (alone_undamaged side image (after start c) damage alone found)
damaged_stood side l r start requests fault image damage (inr (inr (inr (inr failed)))) found =
    absurd (failed_undamaged side image (run start requests).0 fault damage failed found)

-- ---- what was closed

-- Nothing is open on an image of it, or that stands for a state of the run.
pub closed_stands : (side : Side) (l r : List ℕ) (start : State) (requests : List Request) (fault : Fault)
    (image : List ℕ) → IsClosed (on side l r) → IsOfRun side l r start requests fault image
    → (found_on (has_odd side) image ≡ Absent)
    ⊎ (IsOfPrefix side start requests image
    ⊎ (IsOfUnfinished side l r start image ⊎ IsOfFailed side (run start requests).0 fault image))
closed_stands side l r start requests fault image closed (inl absent) = inl absent
closed_stands side l r start requests fault image closed (inr (inl (inl same))) =
    inl (closed_absent (has_odd side) image (subst (λ (bytes : List ℕ). IsClosed bytes) (sym same) closed))
closed_stands side l r start requests fault image closed (inr (inl (inr (unshut, has)))) =
    inl (closed_absent (has_odd side) image
    (subst (λ (bytes : List ℕ). IsClosed bytes) (sym has.1) (closed_with (on side l r) has.0 closed unshut)))
closed_stands side l r start requests fault image closed (inr (inr stands)) = inr stands

-- ---- generations

is_rotation : (call : Call) → is_rotate call ≡ true → call ≡ Rotate
is_rotation Rotate is = refl
is_rotation _ is = cc (is)

-- one more at a rotation
after_one : (s : State) (c : Command) (b : Bool) → is_rotate c.call ≡ b
    → (after s c).generation ≡ s.generation + cond b 1 0
after_one s c true is = ap (λ (call : Call). (effect s call).generation) (is_rotation c.call is)
after_one s c false is = let stays = after_generation s c is in omega (arith, stays)

abbrev pub rotates_in : List Command → ℕ
rotates_in cs = count_by (λ (c : Command). is_rotate c.call) cs

pub fold_generation : (cs : List Command) (s : State) → (fold after s cs).generation ≡ s.generation + rotates_in cs
fold_generation [] s = omega arith
fold_generation (c ∷ cs) s =
    let one = after_one s c (is_rotate c.call) refl in
    let rest = fold_generation cs (after s c) in
    let both = sum_by-cons (λ (d : Command). cond (is_rotate d.call) 1 0) c cs in
    omega (arith, one, rest, both)

rotates_append : (cs ds : List Command) → rotates_in (cs ++ ds) ≡ rotates_in cs + rotates_in ds
rotates_append cs ds = sum_by-append (λ (d : Command). cond (is_rotate d.call) 1 0) cs ds

-- by the state's generation
pub generation_counts : (start : State) (requests : List Request)
    → (run start requests).0.generation ≡ start.generation + rotations start requests NoFault
generation_counts start requests =
    let cs = accepted start requests in
    let same : (run start requests).0 ≡ fold after start (cs ++ []) =
    run_folds start requests ∙ ap (fold after start) (sym (append-nil cs)) in
    ap (λ (s : State). s.generation) same ∙ fold_generation (cs ++ []) start

-- a longer run has no fewer
pub rotations_longer : (start : State) (requests more : List Request)
    → rotations start requests NoFault ≤ rotations start (requests ++ more) NoFault
rotations_longer start requests more =
    let cs = accepted start requests in
    let ds = accepted (run start requests).0 more in
    let all : accepted start (requests ++ more) ++ [] ≡ cs ++ ds =
    append-nil (accepted start (requests ++ more)) ∙ run_accepted start requests more in
    let first = rotates_append cs [] in
    let both = ap rotates_in all ∙ rotates_append cs ds in
    let none : rotates_in [] ≡ 0 = refl in
    omega (arith, first, both, none)

pub rotations_halted : (start : State) (requests : List Request) (fault : Fault)
    → rotations start requests NoFault ≤ rotations start requests fault
rotations_halted start requests fault =
    let cs = accepted start requests in
    let first = rotates_append cs [] in
    let both = rotates_append cs (failed_commands fault) in
    let none : rotates_in [] ≡ 0 = refl in
    omega (arith, first, both, none)

-- one rotation more, which was accepted
pub rotations_more : (start : State) (requests : List Request) (c : Command) → is_rotate c.call ≡ true
    → ruling (run start requests).0 c ≡ Allowed
    → rotations start (requests ++ Do c ∷ []) NoFault ≡ rotations start requests NoFault + 1
rotations_more start requests c rotate allowed =
    let s = (run start requests).0 in
    let cs = accepted start requests in
    let newly : accepted s (Do c ∷ []) ≡ c ∷ [] =
    ap (λ (x : Ruling). (if is_allowed x then c ∷ [] else []) ++ []) allowed in
    let all : accepted start (requests ++ Do c ∷ []) ++ [] ≡ cs ++ c ∷ [] =
    append-nil (accepted start (requests ++ Do c ∷ [])) ∙ run_accepted start requests (Do c ∷ [])
    ∙ ap (λ (ds : List Command). cs ++ ds) newly in
    let first = rotates_append cs [] in
    let both = ap rotates_in all ∙ rotates_append cs (c ∷ []) in
    let one : rotates_in (c ∷ []) ≡ 1 = ap (λ (b : Bool). 0 + cond b 1 0) rotate in
    let none : rotates_in [] ≡ 0 = refl in
    omega (arith, first, both, one, none)

-- a run that ended with a fault of a disk
pub rotations_failed : (start : State) (requests : List Request) (c : Command) → is_rotate c.call ≡ true
    → rotations start requests (AtCommand c) ≡ rotations start requests NoFault + 1
rotations_failed start requests c rotate =
    let cs = accepted start requests in
    let first = rotates_append cs [] in
    let both = rotates_append cs (c ∷ []) in
    let one : rotates_in (c ∷ []) ≡ 1 = ap (λ (b : Bool). 0 + cond b 1 0) rotate in
    let none : rotates_in [] ≡ 0 = refl in
    omega (arith, first, both, one, none)
