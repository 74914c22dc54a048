use Rattle.std.proofs.Common.{◌≡◌, ◌∙◌, List, Option, Result, IfOk, subst, ap, inl, inr, rules}
use Rattle.std.specs.Prelude.{◌∷◌, ◌⊎◌}
use Rattle.std.specs.declared.fs.File.{File}
use Rattle.liq_disk_files.specs.Asked.{Asked, Told, Earlier}
use Rattle.liq_disk_files.specs.Held.{IsHeld}
use Rattle.liq_disk_files.specs.Names.{text_of}
use Rattle.liq_disk_files.specs.Opened.{Taken, WasOpened}
use Rattle.liq_disk_files.specs.Taking.{MayBeTaken}
use Rattle.liq_disk_files.specs.Unopened.{judged, not_held, untold}
use Rattle.liq_disk_files.specs.declared.calls.Refusal.{Refusal}
use Rattle.liq_disk_files.specs.declared.found.Found.{Found}
use Rattle.liq_disk_files.proofs.Moments.{last, one, one_more, onward, still}
use Rattle.liq_disk_files.proofs.Openings.{handed, leads_still, opened_still}
use Rattle.liq_disk_files.proofs.files.taken.Goals as goal
use Rattle.liq_disk_files.proofs.files.taken.Goals.{then-ne-via-then-ne, then-ne-via-else-ne+then-not-may_be_taken}

pub returns-in_err-found-clause-since : goal.returns-in_err-found-clause-since
returns-in_err-found-clause-since g c = λ t. one_more (c.told.ensures t) (c.opened.ensures.since t)

pub returns-in_err-named-clause-since : goal.returns-in_err-named-clause-since
returns-in_err-named-clause-since g c = λ t. onward (one_more (c.told.ensures t) (c.opened.ensures.since t))
    (c.led_to.ensures.since t)

pub returns-then-ne-clause-since : goal.returns-then-ne-clause-since
returns-then-ne-clause-since g c = λ t. onward (one_more (c.told.ensures t) (c.opened.ensures.since t))
    (c.led_to.ensures.since t)

pub returns-then-not-is_held-clause-since : goal.returns-then-not-is_held-clause-since
returns-then-not-is_held-clause-since g c =
    λ t. one_more (c.lock.ensures t) (onward (one_more (c.told.ensures t) (c.opened.ensures.since t))
    (c.led_to.ensures.since t))

pub returns-then-not-is_there-clause-since : goal.returns-then-not-is_there-clause-since
returns-then-not-is_there-clause-since g c =
    λ t. one_more (c.lock.ensures t) (onward (one_more (c.told.ensures t) (c.opened.ensures.since t))
    (c.led_to.ensures.since t))

pub returns-clause-since : goal.returns-clause-since
returns-clause-since g c =
    λ t. one_more (c.lock.ensures t) (onward (one_more (c.told.ensures t) (c.opened.ensures.since t))
    (c.led_to.ensures.since t))

pub returns-clause-taken : goal.returns-clause-taken
returns-clause-taken g c = λ t.
    let asked = g.S.System.asked in
    let name = c.args.name in
    let user = c.args.user in
    let file = c.in-Ok.file in
    let found = c.in_ok-found.found in
    let named = c.in_ok-named.named in
    let after_open : List Asked = asked c.opened.new.system in
    let after_told : List Asked = asked c.told.new.self in
    let after_named : List Asked = asked c.led_to.new.system in
    let after_lock : List Asked = asked c.lock.new.self in
    let locked : Earlier after_named after_lock = one (c.lock.ensures t) in
    let since_told : Earlier after_told after_lock = onward (c.led_to.ensures.since t) locked in
    let since_open : Earlier after_open after_lock = onward (one (c.told.ensures t)) since_told in
    let opened : WasOpened name file after_open =
    subst (λ (r : Result File Refusal). IfOk r (λ f. WasOpened name f after_open)) c.in-Ok.is
    (c.opened.ensures.opened t) in
    let same : named.id ≡ found.id = search rules in
    let may : MayBeTaken user c.args.others.now found = c.may_be_taken.ensures.0 c.if-not-may_be_taken.false in
    let held : IsHeld c.lock.result = c.is_held.ensures.0 c.if-not-is_held.false in
    handed (λ f. Taken user c.args.others.now name f found after_lock) _ file c.into_disk-disk.result.device
    c.into_disk-disk.ensures.apart (record {
      opened = opened_still name file after_open after_lock since_open opened;
      told = still since_told (last (c.told.ensures t
          ∙ ap (λ (a : Option Found). Told file a ∷ after_open) c.in_ok-found.was));
      named = leads_still user (text_of name) named found after_named after_lock locked same
          (c.in_ok-named.ensures.leads t);
      may = may;
      held = (c.lock.result, last (c.lock.ensures t), held);
    })

pub returns-in_err-found-clause-none : goal.returns-in_err-found-clause-none
returns-in_err-found-clause-none g c = λ t none.
    let before = g.S.System.asked c.opened.new.system in
    let file = c.in-Ok.file in
    untold file before (c.told.ensures t ∙ ap (λ (a : Option Found). Told file a ∷ before) c.in_err-found.was)

pub returns-then-ne-clause-none : goal.returns-then-ne-clause-none
returns-then-ne-clause-none g c = λ t none.
    let asked = g.S.System.asked in
    let name = c.args.name in
    let user = c.args.user in
    let others = c.args.others.now in
    let file = c.in-Ok.file in
    let found = c.in_ok-found.found in
    let named = c.in_ok-named.named in
    let after_open : List Asked = asked c.opened.new.system in
    let after_named : List Asked = asked c.led_to.new.system in
    let since_open : Earlier after_open after_named = onward (one (c.told.ensures t)) (c.led_to.ensures.since t) in
    let opened : WasOpened name file after_open =
    subst (λ (r : Result File Refusal). IfOk r (λ f. WasOpened name f after_open)) c.in-Ok.is
    (c.opened.ensures.opened t) in
    let fault : (named.id ≡ found.id → ⊥) ⊎ (MayBeTaken user others found → ⊥) =
    elim c.then-ne.branch [
      | then-ne-via-then-ne w ↦ inl (λ same. search rules)
      | then-ne-via-else-ne+then-not-may_be_taken w ↦
          inr (λ may. let yes = w.may_be_taken.ensures.1 may in let off = w.if-not-may_be_taken.true in cc)
    ] in
    judged (record {
      file = file;
      found = found;
      named = named;
      opened = opened_still name file after_open after_named since_open opened;
      told = still (c.led_to.ensures.since t) (last (c.told.ensures t
          ∙ ap (λ (a : Option Found). Told file a ∷ after_open) c.in_ok-found.was));
      leads = c.in_ok-named.ensures.leads t;
      fault = fault;
    })

pub returns-then-not-is_held-clause-none : goal.returns-then-not-is_held-clause-none
returns-then-not-is_held-clause-none g c = λ t none.
    let off = c.if-not-is_held.true in
    not_held (
      c.in-Ok.file,
      c.lock.result,
      g.S.System.asked c.led_to.new.system,
      c.lock.ensures t,
      inl (λ held. let yes = c.is_held.ensures.1 held in cc),
    )
