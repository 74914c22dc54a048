-- How the steps of a disk in memory go on, and what a crash leaves of it.
use Rattle.std.proofs.Common.{◌≡◌, ◌⊎◌, inl, inr, ℕ, suc, ◌+◌, ◌-◌, ◌≤◌, List, [], ◌∷◌, ◌++◌, length, take, drop, map, reverse, sym, ◌∙◌, ap, subst, arith, append_assoc, length-append, length-take, length-drop, take-append-drop}
use Rattle.std.proofs.lemmas.List.{take_at, drop_at, drop-drop, map-append, reverse-append, length-reverse, length-map}
use Rattle.liq_outside.specs.Calls.{Calls, begun, faulted}
use Rattle.liq_outside.specs.Disk.{Torn, overwritten, Follows, Reaches, Within, LeftNow, Elapses, Only}
use Rattle.liq_outside.specs.DiskInMemory.{Step, Wrote, Tried, Synced, Roomy, DiskInMemory, MayBeLeft, WasLeft, AreWrites, undone, undone_all, disk_at, IsNoted, after_disk_write, after_failed_disk_write, after_sync}
use Rattle.liq_outside.specs.Staying.{torn_nothing, stays, left_now, is_left_now}
use Rattle.liq_outside.specs.Made.{step_of, steps_of, IsNotedIn}
use Rattle.liq_outside.specs.declared.made.Made.{Made}

-- one note more is one step more
pub one_more_step : (before after : List Made) (step : Step) → IsNotedIn before after step
    → steps_of after ≡ step ∷ steps_of before
one_more_step before after step (note, is, stands) =
    ap steps_of is ∙ ap reverse (map-append step_of before (note ∷ []))
    ∙ reverse-append (map step_of before) (step_of note ∷ []) ∙ ap (λ (s : Step). s ∷ steps_of before) stands

module _ (held : List ℕ) (at : ℕ) (bytes : List ℕ) (inside : at ≤ length held) where
  front_length : length (take at held) ≡ at
  front_length = simp length-take (omega arith)

  -- a whole write is a part of itself
  pub torn_whole : Torn at (length bytes) held (overwritten held at bytes)
  torn_whole = record {
    before = ap (take at) (append_assoc (take at held) bytes (drop (at + length bytes) held))
        ∙ take_at (take at held) _ at front_length;
    behind = drop_at (take at held ++ bytes) (drop (at + length bytes) held) (at + length bytes)
        (length-append (take at held) bytes ∙ ap (λ (n : ℕ). n + length bytes) front_length);
    no_shorter = simp (length-append, length-take, length-drop) (omega arith);
    no_longer = simp (length-append, length-take, length-drop) (omega arith);
  }

  -- what it replaced, back in its place
  pub undone_write : undone (overwritten held at bytes) (Wrote at (length bytes) (take (length bytes) (drop at held)))
      ≡ held
  undone_write =
      let n = length bytes in
      let front : take at (overwritten held at bytes) ≡ take at held = torn_whole.before in
      let back : drop (at + n) (overwritten held at bytes) ≡ drop (at + n) held = torn_whole.behind in
      let rest : take n (drop at held) ++ drop (at + n) held ≡ drop at held = ap (λ (l : List ℕ). take n (drop at held)
      ++ l) (sym (drop-drop n at held)) ∙ take-append-drop n (drop at held) in
      ap (λ (l : List ℕ). l ++ take n (drop at held) ++ drop (at + n) (overwritten held at bytes)) front
      ∙ ap (λ (l : List ℕ). take at held ++ take n (drop at held) ++ l) back
      ∙ append_assoc (take at held) (take n (drop at held)) (drop (at + n) held)
      ∙ ap (λ (l : List ℕ). take at held ++ l) rest
      ∙ take-append-drop at held

  -- after it the writes are writes
  pub writes_on : (steps : List Step) → AreWrites held steps
      → AreWrites (overwritten held at bytes) (Wrote at (length bytes) (take (length bytes) (drop at held)) ∷ steps)
  writes_on steps writes = (
    subst (λ (l : List ℕ). Torn at (length bytes) l (overwritten held at bytes)) (sym undone_write) torn_whole,
    subst (λ (l : List ℕ). AreWrites l steps) (sym undone_write) writes,
  )

-- What might have been left at an earlier moment stays.
module _ (held after : List ℕ) (steps : List Step) (step : Step) (back : undone after step ≡ held) (k : ℕ) (le : k
    ≤ length steps) (image : List ℕ) where
  one_back : length (step ∷ steps) - k ≡ suc (length steps - k)
  one_back = omega arith

  pub as_before : WasLeft after (step ∷ steps) k image → WasLeft held steps k image
  as_before left =
      let stepped : MayBeLeft (undone_all (undone after step) (take (length steps - k) steps))
      (drop (length steps - k) steps) image =
      subst (λ (n : ℕ). MayBeLeft (undone_all after (take n (step ∷ steps))) (drop n (step ∷ steps)) image)
      one_back left in
      subst (λ (l : List ℕ). MayBeLeft (undone_all l (take (length steps - k) steps)) (drop (length steps - k) steps)
      image) back stepped

  pub as_after : WasLeft held steps k image → WasLeft after (step ∷ steps) k image
  as_after left =
      let stepped : MayBeLeft (undone_all (undone after step) (take (length steps - k) steps))
      (drop (length steps - k) steps) image =
      subst (λ (l : List ℕ). MayBeLeft (undone_all l (take (length steps - k) steps)) (drop (length steps - k) steps)
      image) (sym back) left in
      subst (λ (n : ℕ). MayBeLeft (undone_all after (take n (step ∷ steps))) (drop n (step ∷ steps)) image)
      (sym one_back) stepped

-- one step of a disk takes time
module _ (old new : Roomy) where
  pub elapses_still : new.disk.held ≡ old.disk.held → new.disk.steps ≡ old.disk.steps → Elapses disk_at old new
  elapses_still held steps = record {
    goes_on = record {
      later = omega (arith, ap length steps);
      past = λ k image le left. subst (λ (l : List ℕ). WasLeft l old.disk.steps k image) held
          (subst (λ (s : List Step). WasLeft new.disk.held s k image) steps left);
      kept = λ k image le left. subst (λ (s : List Step). WasLeft new.disk.held s k image) (sym steps)
          (subst (λ (l : List ℕ). WasLeft l old.disk.steps k image) (sym held) left);
    };
    within = λ k image from to left. let now : k ≡ length new.disk.steps = omega (arith, from, to, ap length steps)
        in inr (subst (λ (n : ℕ). WasLeft new.disk.held new.disk.steps n image) now left);
  }

  pub elapses_step : (step : Step) → new.disk.steps ≡ step ∷ old.disk.steps → undone new.disk.held step ≡ old.disk.held
      → Elapses disk_at old new
  elapses_step step steps back =
      let stepped : (k : ℕ) (image : List ℕ) → WasLeft new.disk.held new.disk.steps k image
      → WasLeft new.disk.held (step ∷ old.disk.steps) k image =
      λ k image left. subst (λ (s : List Step). WasLeft new.disk.held s k image) steps left in
      record {
        goes_on = record {
          later = omega (arith, ap length steps);
          past = λ k image le left. as_before old.disk.held new.disk.held old.disk.steps step back k le image
              (stepped k image left);
          kept = λ k image le left. subst (λ (s : List Step). WasLeft new.disk.held s k image) (sym steps)
              (as_after old.disk.held new.disk.held old.disk.steps step back k le image left);
        };
        within = λ k image from to left. elim (first_or_last k (length old.disk.steps) (length new.disk.steps)
            (ap length steps) from to) [
              | inl was ↦ inl (subst (λ (n : ℕ). WasLeft old.disk.held old.disk.steps n image) was
                  (as_before old.disk.held new.disk.held old.disk.steps step back k (omega (arith, was)) image
                  (stepped k image left)))
              | inr now ↦ inr (subst (λ (n : ℕ). WasLeft new.disk.held new.disk.steps n image) now left)
            ];
      }
    where
      first_or_last : (k m n : ℕ) → n ≡ suc m → m ≤ k → k ≤ n → (k ≡ m) ⊎ (k ≡ n)
      first_or_last k m n is from to = grind arith

-- what each call leaves, as a disk sees it
module _ (old new : Roomy) (at : ℕ) (bytes : List ℕ) where
  abbrev before : List ℕ → Type 0
  before = LeftNow disk_at old

  abbrev after : List ℕ → Type 0
  after = LeftNow disk_at new

  -- a call that left all as it was
  pub same_within : new.disk.held ≡ old.disk.held → new.disk.steps ≡ old.disk.steps → Within after before
  same_within held steps image left = subst (λ (l : List ℕ). WasLeft l old.disk.steps (length old.disk.steps) image)
      held (subst (λ (s : List Step). WasLeft new.disk.held s (length s) image) steps left)

  pub same_keeps : new.disk.held ≡ old.disk.held → new.disk.steps ≡ old.disk.steps → Within before after
  same_keeps held steps image left = subst (λ (s : List Step). WasLeft new.disk.held s (length s) image) (sym steps)
      (subst (λ (l : List ℕ). WasLeft l old.disk.steps (length old.disk.steps) image) (sym held) left)

  pub same_follows : new.disk.held ≡ old.disk.held → new.disk.steps ≡ old.disk.steps
      → Follows (Torn at (length bytes)) before after
  same_follows held steps image left = (image, same_within held steps image left, torn_nothing at (length bytes) image)

  -- the steps that are now
  now_is : (step : Step) → new.disk.steps ≡ step ∷ old.disk.steps → (image : List ℕ) → after image
      → MayBeLeft new.disk.held (step ∷ old.disk.steps) image
  now_is step steps image left = is_left_now new.disk.held (step ∷ old.disk.steps) image
      (subst (λ (s : List Step). WasLeft new.disk.held s (length s) image) steps left)

  is_now : (step : Step) → new.disk.steps ≡ step ∷ old.disk.steps → (image : List ℕ)
      → MayBeLeft new.disk.held (step ∷ old.disk.steps) image → after image
  is_now step steps image may = subst (λ (s : List Step). WasLeft new.disk.held s (length s) image) (sym steps)
      (left_now new.disk.held (step ∷ old.disk.steps) image may)

  -- a write
  module _ (inside : at ≤ length old.disk.held) (is : new.disk ≡ after_disk_write old.disk at bytes) where
    abbrev written : Step
    written = Wrote at (length bytes) (take (length bytes) (drop at old.disk.held))

    steps_are : new.disk.steps ≡ written ∷ old.disk.steps
    steps_are = ap (λ (d : DiskInMemory). d.steps) is

    held_is : new.disk.held ≡ overwritten old.disk.held at bytes
    held_is = ap (λ (d : DiskInMemory). d.held) is

    back_is : undone new.disk.held written ≡ old.disk.held
    back_is = ap (λ (l : List ℕ). undone l written) held_is ∙ undone_write old.disk.held at bytes inside

    pub write_elapses : Elapses disk_at old new
    write_elapses = elapses_step old new written steps_are back_is

    pub write_follows : Follows (Torn at (length bytes)) before after
    write_follows image left = elim (now_is written steps_are image left) [
      | inl whole ↦ (
        old.disk.held,
        left_now old.disk.held old.disk.steps old.disk.held
            (stays old.disk.held old.disk.steps),
        subst (λ (l : List ℕ). Torn at (length bytes) old.disk.held l) (sym (whole
            ∙ held_is)) (torn_whole old.disk.held at bytes inside),
      )
      | inr part ↦ (
        part.0,
        left_now old.disk.held old.disk.steps part.0
            (subst (λ (l : List ℕ). MayBeLeft l old.disk.steps part.0) back_is part.1),
        part.2,
      )
    ]

    pub write_reaches : Reaches (Torn at (length bytes)) before after
    write_reaches earlier image left torn =
        is_now written steps_are image (inr (
          earlier,
          subst (λ (l : List ℕ). MayBeLeft l old.disk.steps earlier)
              (sym back_is) (is_left_now old.disk.held old.disk.steps earlier left),
          torn,
        ))

  -- a write that failed and was noted
  module _ (is : new.disk ≡ after_failed_disk_write old.disk at bytes) where
    tried_steps : new.disk.steps ≡ Tried at (length bytes) ∷ old.disk.steps
    tried_steps = ap (λ (d : DiskInMemory). d.steps) is

    tried_held : new.disk.held ≡ old.disk.held
    tried_held = ap (λ (d : DiskInMemory). d.held) is

    pub tried_elapses : Elapses disk_at old new
    tried_elapses = elapses_step old new (Tried at (length bytes)) tried_steps tried_held

    pub tried_follows : Follows (Torn at (length bytes)) before after
    tried_follows image left =
        let part = now_is (Tried at (length bytes)) tried_steps image left in (
          part.0,
          left_now old.disk.held old.disk.steps part.0 (subst (λ (l : List ℕ). MayBeLeft l old.disk.steps part.0)
              tried_held part.1),
          part.2,
        )

    pub tried_reaches : Reaches (Torn at (length bytes)) before after
    tried_reaches earlier image left torn = is_now (Tried at (length bytes)) tried_steps image (
      earlier,
      subst (λ (l : List ℕ). MayBeLeft l old.disk.steps earlier) (sym tried_held)
          (is_left_now old.disk.held old.disk.steps earlier left),
      torn,
    )

  pub reaches_keeps : Reaches (Torn at (length bytes)) before after → Within before after
  reaches_keeps reaches image left = reaches image image left (torn_nothing at (length bytes) image)

  -- a sync
  module _ (is : new.disk ≡ after_sync old.disk) where
    synced_steps : new.disk.steps ≡ Synced ∷ old.disk.steps
    synced_steps = ap (λ (d : DiskInMemory). d.steps) is

    synced_held : new.disk.held ≡ old.disk.held
    synced_held = ap (λ (d : DiskInMemory). d.held) is

    pub sync_elapses : Elapses disk_at old new
    sync_elapses = elapses_step old new Synced synced_steps synced_held

    pub sync_only : Only old.disk.held after
    sync_only image left = now_is Synced synced_steps image left ∙ synced_held

    pub sync_within : Within after before
    sync_within image left = subst (λ (l : List ℕ). WasLeft old.disk.held old.disk.steps (length old.disk.steps) l)
        (sym (sync_only image left)) (left_now old.disk.held old.disk.steps old.disk.held
        (stays old.disk.held old.disk.steps))

  -- a write that failed
  pub failed_elapses : IsNoted old at bytes new.disk → Elapses disk_at old new
  failed_elapses (inl tried) = tried_elapses tried
  failed_elapses (inr (same, full)) = elapses_still old new (ap (λ (d : DiskInMemory). d.held) same)
      (ap (λ (d : DiskInMemory). d.steps) same)

  pub failed_follows : IsNoted old at bytes new.disk → Follows (Torn at (length bytes)) before after
  failed_follows (inl tried) = tried_follows tried
  failed_follows (inr (same, full)) = same_follows (ap (λ (d : DiskInMemory). d.held) same)
      (ap (λ (d : DiskInMemory). d.steps) same)

  pub failed_keeps : IsNoted old at bytes new.disk → Within before after
  failed_keeps (inl tried) = reaches_keeps (tried_reaches tried)
  failed_keeps (inr (same, full)) = same_keeps (ap (λ (d : DiskInMemory). d.held) same)
      (ap (λ (d : DiskInMemory). d.steps) same)

-- the same of the notes
abbrev pub noting : List ℕ → List Made → Calls → ℕ → Roomy
noting held made calls room = record {
  disk = record { held = held; steps = steps_of made; calls = calls };
  room = room;
}

module _ (held next : List ℕ) (before after : List Made) (calls later : Calls) (room more at : ℕ) (bytes : List ℕ) where
  pub noted : IsNotedIn before after (Tried at (length bytes)) ⊎ ((after ≡ before) × (room ≤ length before))
      → later ≡ faulted (begun calls) → length (steps_of before) ≡ length before
      → IsNoted (noting held before calls room) at bytes (noting held after later more).disk
  noted (inl one) counted sized = inl (let steps = one_more_step before after (Tried at (length bytes)) one in cc)
  noted (inr (same, full)) counted sized = inr ((let steps = ap steps_of same in cc), omega arith)

  pub written_is : next ≡ overwritten held at bytes
      → IsNotedIn before after (Wrote at (length bytes) (take (length bytes) (drop at held))) → later ≡ begun calls
      → (noting next after later more).disk ≡ after_disk_write (noting held before calls room).disk at bytes
  written_is held_is one counted = let steps =
      one_more_step before after (Wrote at (length bytes) (take (length bytes) (drop at held))) one in cc

  pub synced_is : IsNotedIn before after Synced → later ≡ begun calls → (noting held after later more).disk
      ≡ after_sync (noting held before calls room).disk
  synced_is one counted = let steps = one_more_step before after Synced one in cc

  pub writes_noted : at ≤ length held → next ≡ overwritten held at bytes
      → IsNotedIn before after (Wrote at (length bytes) (take (length bytes) (drop at held)))
      → AreWrites held (steps_of before) → AreWrites next (steps_of after)
  writes_noted inside held_is one writes =
      let step = Wrote at (length bytes) (take (length bytes) (drop at held)) in
      subst (λ (s : List Step). AreWrites next s) (sym (one_more_step before after step one))
      (subst (λ (l : List ℕ). AreWrites l (step ∷ steps_of before)) (sym held_is) (writes_on held at bytes inside
      (steps_of before) writes))

-- a note that changes no byte
module _ (held : List ℕ) (before after : List Made) where
  pub syncs_noted : IsNotedIn before after Synced → AreWrites held (steps_of before) → AreWrites held (steps_of after)
  syncs_noted one writes = subst (λ (s : List Step). AreWrites held s)
      (sym (one_more_step before after Synced one)) writes

  module _ (room at : ℕ) (bytes : List ℕ) where
    pub tries_noted : IsNotedIn before after (Tried at (length bytes)) ⊎ ((after ≡ before) × (room ≤ length before))
        → AreWrites held (steps_of before) → AreWrites held (steps_of after)
    tries_noted (inl one) writes = subst (λ (s : List Step). AreWrites held s)
        (sym (one_more_step before after (Tried at (length bytes)) one)) writes
    tries_noted (inr (same, full)) writes = subst (λ (s : List Made). AreWrites held (steps_of s)) (sym same) writes

pub length-steps_of : (notes : List Made) → length (steps_of notes) ≡ length notes
length-steps_of notes = simp (length-reverse, length-map)
