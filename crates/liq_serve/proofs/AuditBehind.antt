-- An audit behind a run.
use Rattle.std.proofs.Common.{◌≡◌, ◌≢◌, ℕ, ◌≤◌, List, [], ◌∷◌, ◌++◌, map, cond, Bool, true, false, Option, Some, Ok, Err, refl, sym, ap, subst, ◌∙◌, arith}
use Rattle.std.specs.Prelude.{All, count_by}
use Rattle.std.proofs.lemmas.List.Elements.{All-cons, All-nil}
use Rattle.std.proofs.lemmas.List.Sums.{sum_by-cons}
use Rattle.liq_outside.specs.At.{DiskAt, SinkAt, SourceAt}
use Rattle.liq_types.specs.declared.image.Image.{Image}
use Rattle.liq_types.specs.declared.requests.Command.{Command}
use Rattle.liq_types.specs.declared.requests.Request.{Request}
use Rattle.liq_types.specs.State.{State}
use Rattle.liq_types.specs.Verbs.{is_rotate}
use Rattle.liq_rule_step.specs.Step.{accepted, run}
use Rattle.liq_rule_sound.proofs.SoundTests.{sound_facts}
use Rattle.liq_disk_pair.specs.Commands.{read_back}
use Rattle.liq_disk_pair.specs.Pair.{StandFor, commands_on, state_on}
use Rattle.liq_disk_pair.specs.Past.{held_at_end}
use Rattle.liq_disk_pair.proofs.Behind.{behind_none}
use Rattle.liq_disk_pair.proofs.Formed.{state_sound}
use Rattle.liq_disk_pair.proofs.Past.{fold_generation, run_folds}
use Rattle.liq_word_line.specs.declared.words.Word.TheVariants as word
use Rattle.liq_word_line.specs.Words.{Ask}
use Rattle.liq_word_exit.specs.declared.halts.Halt.TheVariants.{BadLine, ReadFault, WriteFault, DiskFault, Damaged, DamagedInput, NoMemory, Limit, Rotated}
use Rattle.liq_word_exit.specs.Disks.{DisksHold}
use Rattle.liq_word_exit.specs.Outside.{Outside}
use Rattle.liq_word_exit.specs.Statuses.{End, status_of}
use Rattle.liq_word_state.specs.Audit.{IsAuditOf}
use Rattle.liq_serve.specs.Top.{Ends}
use Rattle.liq_serve.specs.Twice.{AuditsAnswered}
use Rattle.liq_serve.proofs.Found.{found_of}

-- ---- no generation is begun

abbrev rotates_in : List Command → ℕ
rotates_in cs = count_by (λ (c : Command). is_rotate c.call) cs

abbrev NoneRotates : List Command → Type 0
NoneRotates cs = All (λ (c : Command). is_rotate c.call ≡ false) cs

none_one : (b : Bool) → ◌≡◌ {A = ℕ} (cond b 1 0) 0 → b ≡ false
none_one true is = absurd (omega (arith, is))
none_one false is = refl

none_rotates : (cs : List Command) → rotates_in cs ≡ 0 → NoneRotates cs
none_rotates [] none = All-nil (λ (c : Command). is_rotate c.call ≡ false)
none_rotates (c ∷ cs) none =
    let both = sum_by-cons (λ (d : Command). cond (is_rotate d.call) 1 0) c cs in
    All-cons (λ (d : Command). is_rotate d.call ≡ false) c cs
    (none_one (is_rotate c.call) (omega (arith, both, none))) (none_rotates cs (omega (arith, both, none)))

-- of a run that ends in the first one
one_generation : (start : State) (requests : List Request) → 1 ≤ start.generation
    → (run start requests).0.generation ≡ 1 → NoneRotates (accepted start requests)
one_generation start requests least first =
    let ends = ap (λ (s : State). s.generation) (run_folds start requests) in
    let counts = fold_generation (accepted start requests) start in
    none_rotates (accepted start requests) (omega (arith, ends, counts, least, first))

-- ---- what a run leaves where no disk met a fault

module _ {D : Type 0} (disk_at : D → DiskAt) (left right : D) (l r : List ℕ) (start : State)
    (requests : List Request) (a b : List ℕ) (told_a : (disk_at left).seen ≡ Some a)
    (told_b : (disk_at right).seen ≡ Some b) where
  abbrev Stands : Type 0
  Stands = StandFor a b (run start requests).0 × (commands_on a b ≡ held_at_end l r start requests)

  stands_behind : (end : End) (told unread : Option (List ℕ)) → (status_of end ≡ 5 → ⊥)
      → DisksHold disk_at end told unread l r start left right requests → Stands
  stands_behind (Err DiskFault) told unread other holds = absurd (other refl)
  stands_behind (Err NoMemory) told unread other holds = let so = holds a b told_a told_b in (so.0, so.1)
  stands_behind (Ok done) told unread other holds = let so = holds a b told_a told_b in (so.kept.stands, so.commands)
  stands_behind (Err (BadLine n)) told unread other holds = let so = holds a b told_a told_b in (so.kept.stands, so.commands)
  stands_behind (Err ReadFault) told unread other holds = let so = holds a b told_a told_b in (so.kept.stands, so.commands)
  stands_behind (Err WriteFault) told unread other holds = let so = holds a b told_a told_b in (so.kept.stands, so.commands)
  stands_behind (Err (Damaged side number)) told unread other holds =
      let so = holds a b told_a told_b in (so.kept.stands, so.commands)
  stands_behind (Err (Limit number)) told unread other holds = let so = holds a b told_a told_b in (so.kept.stands, so.commands)
  stands_behind (Err (Rotated generation)) told unread other holds =
      let so = holds a b told_a told_b in (so.kept.stands, so.commands)
  stands_behind (Err (DamagedInput number)) told unread other holds =
      let so = holds a b told_a told_b in (so.kept.stands, so.commands)

-- ---- two calls

module _ {S K D : Type 0} (source_at : S → SourceAt) (sink_at : K → SinkAt) (disk_at : D → DiskAt) where
  pub audits_answered :
      (before middle again later : Outside S K D) (status second_status : ℕ) (words others : List (List ℕ))
      → Ends source_at sink_at disk_at before middle status words
      → Ends source_at sink_at disk_at again later second_status others
      → Ask words word.Run → Ask others word.Audit → (status ≢ 5)
      → (l r a b : List ℕ) (start : State)
      → (disk_at before.left).seen ≡ Some l → (disk_at before.right).seen ≡ Some r → state_on l r ≡ Ok start
      → (disk_at middle.left).seen ≡ Some a → (disk_at middle.right).seen ≡ Some b
      → (disk_at again.left).seen ≡ Some a → (disk_at again.right).seen ≡ Some b
      → ((state : State) → state_on a b ≡ Ok state → state.generation ≡ 1)
      → AuditsAnswered source_at sink_at disk_at before middle again later status second_status l r start
  audits_answered before middle again later status second_status words others one two asked asked_too other l r a b
      start told_l told_r is told_a told_b again_a again_b first =
      let e = one.ends word.Run asked in
      let ran = found_of source_at sink_at disk_at before middle e.end _ _ l r start told_l told_r is e.leaves.1 l r
      told_l told_r in
      let so = stands_behind disk_at middle.left middle.right l r start ran.requests a b told_a told_b e.end _ _
      (λ five. other (e.status_is ∙ five)) ran.disks in
      let t = so.0.state in
      let stands : state_on a b ≡ Ok t = so.0.is in
      let f = two.ends word.Audit asked_too in
      let found = found_of source_at sink_at disk_at again later f.end _ _ a b t again_a again_b stands f.leaves.1 in
      let least = (sound_facts start (state_sound l r start is)).ranges.first_generation in
      let ends : (run start ran.requests).0.generation ≡ 1 =
      sym (ap (λ (i : Image). i.generation) so.0.same.image) ∙ first t stands in
      let commands : commands_on a b ≡ commands_on l r ++ map read_back (accepted start ran.requests) =
      so.1 ∙ behind_none (commands_on l r) (accepted start ran.requests)
      (one_generation start ran.requests least ends) in
      record {
        end = e.end;
        status_is = e.status_is;
        first = ran;
        ending = f.end;
        later_is = f.status_is;
        state = t;
        same = so.0.same;
        text = found.0.0;
        review = subst (λ (cs : List Command). IsAuditOf t cs f.end found.0.0) commands found.0.1;
        told = found.0.2;
      }
