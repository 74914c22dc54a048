-- A whole journal that leads to a state, and bytes behind it.
use Rattle.std.proofs.Common.{◌≡◌, ℕ, ◌+◌, ◌<◌, ◌≤◌, List, [], ◌∷◌, ◌++◌, length, Bool, true, false, if◌then◌else◌, refl, sym, ◌∙◌, ap, subst, arith, length-append, append_assoc}
use Rattle.std.specs.Prelude.{Some}
use Rattle.std.proofs.lemmas.List.Elements.{All-pop}
use Rattle.std.proofs.lemmas.List.{get_or-append_right}
use Rattle.std.proofs.Common.{get_or, ◌-◌}
use Rattle.liq_journal.proofs.Reading.{isnt_long}
use Rattle.liq_disk_replay.specs.Making.{MayWantMemory}
use Rattle.liq_follower.specs.Fed.{Completes, LackOne}
use Rattle.liq_types.specs.declared.requests.Command.{Command}
use Rattle.liq_types.specs.State.{State, opening_with}
use Rattle.liq_rule_step.specs.Step.{Allowed, after, ruling}
use Rattle.liq_rule_step.proofs.Allowed.{allowed_few}
use Rattle.liq_journal.specs.declared.damage.Damage.{Damage}
use Rattle.liq_journal.specs.Records.{begins_whole}
use Rattle.liq_types.specs.Verbs.{is_rotate}
use Rattle.liq_journal.specs.Written.{Open, Written, and_then, end_of, found_on, record_on}
use Rattle.liq_journal.proofs.Bodies.{found_no_rotation}
use Rattle.liq_disk_pair.specs.Pair.{Faulty, Holding, standing}
use Rattle.liq_core_hinted.proofs.Steps.{after-records}
use Rattle.liq_disk_pair.proofs.Replaying.{outcome_then}
use Rattle.liq_disk_pair.proofs.Standings.{standing_damaged, standing_faulty, standing_open}
use Rattle.liq_follower.specs.Fed.{AreDamagedAt, EndsWhole, IsNoRecord, IsRecordOf, LeadTo, begun_limit, fed, has_header, is_turned}
use Rattle.liq_follower.proofs.Found as found
use Rattle.liq_follower.proofs.Replaying.{outcome_refused}

-- bytes with a whole header are what they are as the left disk
pub fed_behind : (bytes : List ℕ) → has_header bytes ≡ true → fed bytes ≡ standing true bytes
unfolding fed
fed_behind bytes has = ap (λ (b : Bool). if b then standing true bytes
    else Holding 1 (opening_with (begun_limit bytes))) has

module _ (front : List ℕ) (s : State) (e : EndsWhole front s) where
  abbrev w : Written
  w = e.written

  few : length w.commands ≤ 1000000
  few = subst (λ (n : ℕ). n ≤ 1000000) e.counted e.few

  module _ (rest : List ℕ) where
    abbrev bytes : List ℕ
    bytes = front ++ rest

    stays_open : begins_whole rest ≡ false → found_on true bytes ≡ Open w
    stays_open none = found.stays_open front w e.found e.ends few rest none

    long : length bytes ≡ end_of w + length rest
    long = found.long front w e.found e.ends few rest

    has : has_header bytes ≡ true
    has = found.has front w e.found e.ends few rest

    not_turned : is_turned bytes ≡ false
    not_turned = found.first_unturned bytes (found.same_generation front w e.found e.ends few rest ∙ e.first)

    pub leads : begins_whole rest ≡ false → LeadTo bytes s
    leads none = (
      not_turned,
      fed_behind bytes has ∙ standing_open true bytes w s (stays_open none) e.came
          ∙ ap (λ (g : ℕ). Holding g s) e.first,
    )

    faulty : (damage : Damage) (index : ℕ) → standing true bytes ≡ Faulty damage → damage.index ≡ index
        → AreDamagedAt index bytes
    faulty damage index is at = (not_turned, (damage, fed_behind bytes has ∙ is, at))

  -- ---- one record more

  module _ (raw : List ℕ) (size : length raw ≡ 128) (index : ℕ) (next : index ≡ s.records + 1) where
    abbrev record_is : List ℕ
    record_is = 1 ∷ raw

    index_is : index ≡ 1 + length w.commands
    index_is = let c = e.counted in omega arith

    same_on : (at : ℕ) → record_on w.generation index at raw ≡ record_on 1 index at raw
    same_on at = ap (λ (g : ℕ). record_on g index at raw) e.first

    found_next : (c : Command) → IsRecordOf index raw c → found_on true (front ++ record_is) ≡ Open (and_then w c)
    found_next c read = found.found_next front w e.found e.ends few raw size index index_is c (λ at. same_on at
        ∙ read at)

    -- it is no record of this number
    pub bad_form : IsNoRecord index raw → AreDamagedAt index (front ++ record_is)
    bad_form read =
        let bad = found.found_none front w e.found e.ends few raw size index index_is (λ at. (
          (read at).0,
          same_on at
              ∙ (read at).1,
        )) in
        let damage : Damage = record { index = index; what = bad.0 } in
        faulty record_is damage index (standing_damaged true (front ++ record_is) damage bad.1) refl

    -- the rules refuse its command
    pub bad_command : (c : Command) → IsRecordOf index raw c → (ruling s c ≡ Allowed → ⊥)
        → AreDamagedAt index (front ++ record_is)
    bad_command c read isnt =
        let ends = outcome_refused w c s e.came isnt in
        faulty record_is ends.damage index (standing_faulty true (front ++ record_is) (and_then w c) ends.damage
        (found_next c read) ends.is) (ends.at ∙ sym index_is)

    -- its command is made
    pub one_record_more : (c : Command) → IsRecordOf index raw c → ruling s c ≡ Allowed
        → EndsWhole (front ++ record_is) (after s c)
    one_record_more c read allowed =
        let open_more = found_next c read in
        let stays : is_rotate c.call ≡ false = (All-pop (λ (d : Command). is_rotate d.call ≡ false) (w.commands ++ c
        ∷ []) w.commands (Some c) refl (found_no_rotation true (front ++ record_is) (and_then w c) open_more)).1 in
        let more = after-records s c stays in
        let commands = length-append w.commands (c ∷ []) in
        let room : s.records < 1000000 = allowed_few s c allowed stays in
        record {
          written = and_then w c;
          found = open_more;
          first = e.first;
          came = outcome_then w c s e.came allowed;
          counted = let k = e.counted in omega arith;
          few = let most : (after s c).records ≤ 1000000 = omega arith in most;
          ends = let l = long record_is in let ends = e.ends in omega arith;
        }

  -- the last byte of a record of right form comes behind the others
  pub completes : (held : List ℕ) (last index : ℕ) (c : Command) → length held ≡ 127 → index ≡ s.records + 1
      → IsRecordOf index (held ++ last ∷ []) c → MayWantMemory s c → Completes last (front ++ 1 ∷ held)
  completes held last index c size next read wants =
      let none : begins_whole (1 ∷ held) ≡ false = isnt_long (1 ∷ held) (omega arith) in (
        w,
        c,
        s,
        stays_open (1 ∷ held) none,
        ap (found_on true) (append_assoc front (1 ∷ held) (last ∷ []))
            ∙ found_next (held ++ last ∷ []) (let n = length-append held (last ∷ [])
            in omega (arith, n, size)) index next c read,
        leads (1 ∷ held) none,
        wants,
      )

  -- all bytes of a record but the last one are there
  pub lacks_one : (held : List ℕ) → length held ≡ 127 → LackOne (front ++ 1 ∷ held)
  lacks_one held size =
      let none : begins_whole (1 ∷ held) ≡ false = isnt_long (1 ∷ held) (omega arith) in
      let l = long (1 ∷ held) in
      (w, stays_open (1 ∷ held) none, omega arith, gate)
    where
      same : end_of w - end_of w ≡ 0
      same = omega arith

      gate : get_or (front ++ 1 ∷ held) (end_of w) 0 ≡ 1
      gate = get_or-append_right front (1 ∷ held) (end_of w) (end_of w) 0 e.ends (omega arith)
          ∙ ap (λ (k : ℕ). get_or (1 ∷ held) k 0) same
