-- What a word finds on two disks: whether both tell their bytes, and what these stand for.
use Rattle.std.proofs.Common.{◌≡◌, ℕ, List, [], Option, Some, None, is_some, Ok, Err, Result, refl, sym, ap, subst, ◌∙◌, inl, inr}
use Rattle.std.specs.Prelude.{Contains, IsSome, ◌∷◌}
use Rattle.liq_outside.specs.At.{DiskAt, SinkAt, SourceAt}
use Rattle.liq_outside.specs.Faults.{Rose}
use Rattle.liq_types.specs.declared.amounts.TheConstants.{LIM}
use Rattle.liq_types.specs.State.{State, opening}
use Rattle.liq_types.specs.declared.requests.Command.{Command}
use Rattle.liq_rule_sound.proofs.SoundStart.{opening_sound}
use Rattle.liq_journal.specs.declared.damage.Damage.{Damage}
use Rattle.liq_journal.specs.declared.damage.What.TheVariants.{Form}
use Rattle.liq_disk_pair.specs.declared.side.Side.{Side}
use Rattle.liq_disk_pair.specs.declared.side.Side.TheVariants.{Left}
use Rattle.liq_disk_pair.specs.Pair.{commands_on, state_on}
use Rattle.liq_disk_pair.proofs.Formed.{state_sound}
use Rattle.liq_word_exit.specs.declared.halts.Halt.{Halt}
use Rattle.liq_word_exit.specs.declared.halts.Halt.TheVariants.{BadLine, ReadFault, WriteFault, DiskFault, Damaged, DamagedInput, NoMemory, Limit, Rotated}
use Rattle.liq_word_exit.specs.Causes.{DisksGoOn}
use Rattle.liq_word_exit.specs.Disks.{DisksStay, EndsDamaged, IsFaultOfTelling, LeavesDamaged, LeavesOfRun, LeavesOrShuts, OfBoth, OfDamage, OfState}
use Rattle.liq_word_exit.specs.Output.{last}
use Rattle.liq_word_exit.specs.Statuses.{End, status_of}
use Rattle.liq_word_exit.specs.Stops.{Adds, StopsDamaged}
use Rattle.liq_word_exit.specs.Outside.{Outside}
use Rattle.liq_word_exit.proofs.Opened.{some_of}
use Rattle.liq_word_state.specs.declared.telling.Text.{Text}
use Rattle.liq_word_state.specs.Told.{EndsSome, EndsTelling, FindsNone}
use Rattle.liq_serve.specs.Top.{Finds, Tells, TellsFound, TellsState}

-- ---- whether both disks tell their bytes

module _ {D : Type 0} (at : D → DiskAt) (left right : D) where
  -- they do not
  abbrev pub Untold : Type 0
  Untold = OfBoth at left right (λ l r. ⊥)

  -- then whatever is said of what both tell holds
  pub of_untold : Untold → (P : List ℕ → List ℕ → Type 0) → OfBoth at left right P
  of_untold none P l r told_l told_r = absurd (none l r told_l told_r)

  -- they tell nothing but these bytes
  pub of_told : (P : List ℕ → List ℕ → Type 0) (l r : List ℕ) → (at left).seen ≡ Some l → (at right).seen ≡ Some r
      → P l r → OfBoth at left right P
  of_told P l r told_l told_r p a b told_a told_b =
      let left_is : l ≡ a = cc (sym told_l ∙ told_a) in
      let right_is : r ≡ b = cc (sym told_r ∙ told_b) in
      subst (λ (x : List ℕ). P x b) left_is (subst (λ (y : List ℕ). P l y) right_is p)

  by_told : {Q : Type 0} → ((l r : List ℕ) → (at left).seen ≡ Some l → (at right).seen ≡ Some r → Q)
      → (Untold → Q) → Q
  by_told {Q} both none = by (at left).seen (at right).seen refl refl where
    by : (x y : Option (List ℕ)) → (at left).seen ≡ x → (at right).seen ≡ y → Q
    by None y left_is right_is = none (λ l r told_l told_r. absurd (cc (sym told_l ∙ left_is)))
    by (Some l) None left_is right_is = none (λ a b told_a told_b. absurd (cc (sym told_b ∙ right_is)))
    by (Some l) (Some r) left_is right_is = both l r left_is right_is

  -- two disks that tell where these told
  pub untold_then : (then_left then_right : D) → (IsSome (at then_left).seen → IsSome (at left).seen)
      → (IsSome (at then_right).seen → IsSome (at right).seen) → Untold → OfBoth at then_left then_right (λ a b. ⊥)
  untold_then then_left then_right left_tells right_tells none a b told_a told_b =
      let l = some_of (at left).seen (left_tells (ap is_some told_a)) in
      let r = some_of (at right).seen (right_tells (ap is_some told_b)) in
      none l.0 r.0 l.1 r.1

-- what is found, by cases
by_state : {T A B Q : Type 0} (found : Result T (A × B)) → ((x : T) → found ≡ Ok x → Q)
    → ((a : A) (b : B) → found ≡ Err (a, b) → Q) → Q
by_state (Ok x) good bad = good x refl
by_state (Err (a, b)) good bad = bad a b refl

-- an end at no state is one over some damage, where nothing is told of the disks then
unfound : {D : Type 0} (at : D → DiskAt) (left right : D) (end : End) → FindsNone end → Untold at left right
    → (side : Side) × (damage : Damage) × EndsDamaged at side damage end left right
unfound at left right (Err DiskFault) finds none = (Left, record { index = 0; what = Form 0 }, tt)
unfound at left right (Err (Damaged side number)) finds none =
    (side, record { index = number; what = Form 0 }, (refl, refl, of_untold at left right none _))
unfound at left right (Err NoMemory) finds none =
    (Left, record { index = 0; what = Form 0 }, of_untold at left right none _)
unfound at left right (Ok done) finds none = absurd finds
unfound at left right (Err (BadLine number)) finds none = absurd finds
unfound at left right (Err ReadFault) finds none = absurd finds
unfound at left right (Err WriteFault) finds none = absurd finds
unfound at left right (Err (Limit number)) finds none = absurd finds
unfound at left right (Err (Rotated generation)) finds none = absurd finds
unfound at left right (Err (DamagedInput number)) finds none = absurd finds

-- ---- what is found

module _
    {S K D : Type 0} (source_at : S → SourceAt) (sink_at : K → SinkAt) (disk_at : D → DiskAt)
    (before after : Outside S K D) where
  -- disks that stand for a state and told it have it found, with their commands
  pub found_of :
      (end : End) (Q : Type 0) (P : State → List Command → Type 0) (l r : List ℕ) (start : State)
      → (disk_at before.left).seen ≡ Some l → (disk_at before.right).seen ≡ Some r → state_on l r ≡ Ok start
      → Finds source_at sink_at disk_at before after end Q P → P start (commands_on l r)
  found_of end Q P l r start told_l told_r is (inl (s, commands, sound, p, so)) =
      let known = so l r told_l told_r in
      let same : s ≡ start = cc (sym known.0 ∙ is) in
      subst (λ (t : State). P t (commands_on l r)) same
      (subst (λ (all : List Command). P s all) (sym known.1) p)
  found_of end Q P l r start told_l told_r is (inr (side, damage, q, told, ends, so)) =
      absurd (cc (sym (so l r told_l told_r).0 ∙ is))

  -- where not both disks told, it may be any state, as the opening
  pub finds_any : (end : End) (Q : Type 0) (P : State → List Command → Type 0) → P opening []
      → Untold disk_at before.left before.right → Finds source_at sink_at disk_at before after end Q P
  finds_any end Q P p none =
      inl (opening, [], opening_sound LIM (inr refl), p, of_untold disk_at before.left before.right none _)

  -- a state and its commands, or a damage; or not both disks told
  pub finds_by :
      (end : End) (Q : Type 0) (P : State → List Command → Type 0)
      → ((l r : List ℕ) (start : State) → (disk_at before.left).seen ≡ Some l → (disk_at before.right).seen ≡ Some r
      → state_on l r ≡ Ok start → P start (commands_on l r))
      → ((l r : List ℕ) (side : Side) (damage : Damage) → (disk_at before.left).seen ≡ Some l
      → (disk_at before.right).seen ≡ Some r → state_on l r ≡ Err (side, damage)
      → Q × (Tells source_at sink_at disk_at before after [] [] end
      × LeavesDamaged disk_at before.left before.right l r side damage end after.left after.right))
      → (Untold disk_at before.left before.right → Finds source_at sink_at disk_at before after end Q P)
      → Finds source_at sink_at disk_at before after end Q P
  finds_by end Q P stood damaged none =
      by_told disk_at before.left before.right
      (λ l r told_l told_r. by_state (state_on l r)
      (λ start is. inl (
        start,
        commands_on l r,
        state_sound l r start is,
        stood l r start told_l told_r is,
        of_told disk_at before.left before.right
            (λ a b. (state_on a b ≡ Ok start) × (commands_on a b ≡ commands_on l r)) l r told_l told_r (is, refl),
      ))
      (λ side damage is.
      let so = damaged l r side damage told_l told_r is in
      inr (
        side,
        damage,
        so.0,
        so.1.0,
        so.1.1.ends,
        of_told disk_at before.left before.right
            (λ a b. (state_on a b ≡ Err (side, damage))
            × LeavesOrShuts disk_at before.left before.right a b end after.left after.right)
            l r told_l told_r (is, so.1.1.leaves),
      ))) none

  -- ---- over damaged disks

  -- the last line of a word
  last_told : (side : Side) (damage : Damage) (halt : Halt)
      → EndsDamaged disk_at side damage (Err halt) after.left after.right
      → Adds [] (last halt) (Rose (sink_at before.sink).faults (sink_at after.sink).faults)
      (sink_at before.sink).held (sink_at after.sink).held
      → Tells source_at sink_at disk_at before after [] [] (Err halt)
  last_told side damage (BadLine n) ends told = absurd ends
  last_told side damage ReadFault ends told = absurd ends
  last_told side damage WriteFault ends told = absurd ends
  last_told side damage DiskFault ends told = told
  last_told side damage (Damaged which number) ends told = told
  last_told side damage NoMemory ends told = told
  last_told side damage (Limit number) ends told = absurd ends
  last_told side damage (Rotated generation) ends told = absurd ends
  last_told side damage (DamagedInput number) ends told = absurd ends

  -- it stopped, and wrote its last line alone
  abbrev pub TellsDamage : End → List ℕ → List ℕ → Side → Damage → Type 0
  TellsDamage end l r side damage =
      StopsDamaged disk_at before.left before.right l r side damage end
      (Rose (sink_at before.sink).faults (sink_at after.sink).faults)
      (sink_at before.sink).held (sink_at after.sink).held after.left after.right

  pub damage_told : (end : End) (l r : List ℕ) (side : Side) (damage : Damage) → TellsDamage end l r side damage
      → Tells source_at sink_at disk_at before after [] [] end
      × LeavesDamaged disk_at before.left before.right l r side damage end after.left after.right
  damage_told end l r side damage so =
      subst (λ (e : End). Tells source_at sink_at disk_at before after [] [] e
      × LeavesDamaged disk_at before.left before.right l r side damage e after.left after.right)
      (sym so.1) (last_told side damage so.0 so.2.ends so.3, so.2)

  -- ---- words that tell of the disks

  abbrev SinkTells : Text → End → State → List Command → Type 0
  SinkTells what end s commands = EndsTelling what s commands end
      (Rose (sink_at before.sink).faults (sink_at after.sink).faults)
      (sink_at before.sink).held (sink_at after.sink).held

  abbrev TextOf : End → (State → List Command → List ℕ → Type 0) → State → List Command → Type 0
  TextOf end P s commands =
      (text : List ℕ) × P s commands text × Tells source_at sink_at disk_at before after [] text end

  abbrev Stay : End → State → List ℕ → List ℕ → Type 0
  Stay end start l r = DisksStay disk_at end l r start after.left after.right
      × LeavesOfRun disk_at before.left before.right (IsFaultOfTelling end) l r start [] after.left after.right

  module _
      (what : Text) (end : End)
      (told : OfState disk_at before.left before.right (λ l r start. SinkTells what end start (commands_on l r)
      × DisksStay disk_at end l r start after.left after.right))
      (past : OfState disk_at before.left before.right (λ l r start. LeavesOfRun disk_at before.left before.right
      (IsFaultOfTelling end) l r start [] after.left after.right))
      (damaged : OfDamage disk_at before.left before.right (TellsDamage end))
      (some : EndsSome what end (Rose (sink_at before.sink).faults (sink_at after.sink).faults)
      (sink_at before.sink).held (sink_at after.sink).held)
      (on : DisksGoOn disk_at before.left before.right end after.left after.right) where
    -- whatever the disks tell
    pub tells_found : (P : State → List Command → List ℕ → Type 0)
        → ((s : State) (commands : List Command) → SinkTells what end s commands → TextOf end P s commands)
        → TellsFound source_at sink_at disk_at before after end P
    tells_found P text_of =
        finds_by end (Unit {0})
        (λ start commands. TextOf end P start commands
        × OfBoth disk_at before.left before.right (Stay end start))
        (λ l r start told_l told_r is.
        let so = told l r told_l told_r start is in (
          text_of start (commands_on l r) so.0,
          of_told disk_at before.left before.right (Stay end start) l r told_l told_r
              (so.1, past l r told_l told_r start is),
        ))
        (λ l r side damage told_l told_r is.
        (tt, damage_told end l r side damage (damaged l r told_l told_r side damage is)))
        (λ none. by none some) where
          by : Untold disk_at before.left before.right
              → EndsSome what end (Rose (sink_at before.sink).faults (sink_at after.sink).faults)
              (sink_at before.sink).held (sink_at after.sink).held
              → TellsFound source_at sink_at disk_at before after end P
          by none (inl (s, commands, sound, h)) = inl (
            s,
            commands,
            sound,
            (text_of s commands h, of_untold disk_at before.left before.right none _),
            of_untold disk_at before.left before.right none _,
          )
          by none (inr (h, alone)) =
              let one = unfound disk_at after.left after.right end h
              (untold_then disk_at before.left before.right after.left after.right on.left_telling.0
              on.right_telling.0 none) in
              inr (one.0, one.1, tt, alone, one.2, of_untold disk_at before.left before.right none _)

    -- of a state alone
    pub tells_state : (text : State → List ℕ) → after.source ≡ before.source
        → ((s : State) (commands : List Command) → SinkTells what end s commands
        → Contains (0 ∷ 4 ∷ 5 ∷ 7 ∷ []) (status_of end)
        × Tells source_at sink_at disk_at before after [] (text s) end)
        → TellsState source_at sink_at disk_at before after text end
    tells_state text same telling = (
      same,
      tells_found (λ s commands it. Contains (0 ∷ 4 ∷ 5 ∷ 7 ∷ []) (status_of end) × (it ≡ text s))
          (λ s commands h. let so = telling s commands h in (text s, (so.0, refl), so.1)),
    )
