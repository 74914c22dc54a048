-- Each step keeps the rule.
use Rattle.std.proofs.Common.{◌≡◌, ℕ, ◌≤◌, ◌≢◌, List, [], ◌∷◌, ◌++◌, fold, length, set, refl, ap, sym, subst, ◌∙◌, ⊎_elim, append_assoc, append-nil, length-append, arith}
use Rattle.std.proofs.lemmas.List.Sums.{fold-append}
use mathlib.Core.Option.{some, some-ne-none}
use lib.ListN.{get_elem?}
use Rattle.left_right.specs.Register.{Admits, Turns, TurnsAt}
use Rattle.std.specs.Prelude.{Result, Ok, Err}
use Rattle.atomic_table.proofs.Lists.{at_set, at_snoc}
use Rattle.liq_views.specs.declared.rule.Sight.{Sight}
use Rattle.liq_views.specs.declared.shelf.Shelf.{Shelf}
use Rattle.liq_views.specs.Batches.{Given, last_from, Rise, StartsWith, version_after}
use Rattle.liq_views.specs.Rules.{Keeps, Looks, newcomer}
use Rattle.liq_views.specs.Sending.{IsMade, IsSent}
use Rattle.liq_views.specs.Shelves.{opening, after, after_all}
use Rattle.liq_views.proofs.Numbers.{count_from, last_snoc, rise_later, rise_snoc, version_is}

-- a beginning of the log that makes the same shelf is the whole log
pub whole : (seen rest : List Given) → after_all (seen ++ rest) ≡ after_all seen → seen ++ rest ≡ seen
whole seen rest same =
    let long = count_from opening (seen ++ rest) in
    let short = count_from opening seen in
    let counts = ap (λ (s : Shelf). s.count) same in
    let none : length rest ≡ 0 = omega (arith, length-append seen rest) in
    at_end seen rest none
  where
    at_end : (seen rest : List Given) → length rest ≡ 0 → seen ++ rest ≡ seen
    at_end [] [] e = refl
    at_end [] (b ∷ bs) e = absurd (omega arith)
    at_end (b ∷ bs) rest e = ap (λ (x : List Given). b ∷ x) (at_end bs rest e)

longer : (log batches start : List Given) → StartsWith log start → StartsWith (log ++ batches) start
longer log batches start begins = (
  begins.0 ++ batches,
  ap (λ (x : List Given). x ++ batches) begins.1
      ∙ append_assoc start begins.0 batches,
)

-- each end's sight is a beginning, where one end's becomes the log and the others' are beginnings
all_begin : (log : List Given) (views : List Sight) (seat : ℕ) → ((j : ℕ) (v : Sight) → get_elem? views j ≡ some v
    → StartsWith log v.seen)
    → (j : ℕ) (v : Sight) → get_elem? (set views seat (record { seen = log })) j ≡ some v → StartsWith log v.seen
all_begin log views seat begins j v at =
    ⊎_elim (λ (t : (j ≡ seat) × (record { seen = log } ≡ v)). (
      [],
      ap (λ (s : Sight). s.seen) t.1
          ∙ sym (append-nil v.seen),
    ))
    (λ (t : (j ≢ seat) × (get_elem? views j ≡ some v)). begins j v t.1)
    (at_set views seat j (record { seen = log }) v at)

pub admits : Admits Keeps newcomer
admits x views h = record {
  log = h.log;
  made = h.made;
  rise = h.rise;
  begins = λ j v at. ⊎_elim (h.begins j v) (λ (e : newcomer ≡ v). (h.log, ap (λ (s : Sight). s.seen ++ h.log) e))
      (at_snoc views newcomer v j at);
}

-- before the first step
pub begun : (x : Shelf) → x ≡ opening → Keeps x (newcomer ∷ [])
begun x is = admits x [] (record {
  log = [];
  made = is;
  rise = tt;
  begins = λ j v at. absurd (some-ne-none v (sym at));
})

-- what is read is the version of what was then seen
pub shows : (x y : Shelf) (s t : Sight) → x ≡ y → y ≡ after_all s.seen → t ≡ s → x.version ≡ version_after t.seen
shows x y s t is made same =
    ap (λ (z : Shelf). z.version) is ∙ ap (λ (z : Shelf). z.version) made ∙ version_is s.seen
    ∙ ap (λ (z : Sight). version_after z.seen) (sym same)

pub looks : (seat : ℕ) (v : Sight) → Turns Keeps seat v (λ x. x) (λ v x y w. Looks v.seen x w.seen)
looks seat v x views h at =
    let begins = h.begins seat v at in (
      record { seen = h.log },
      record { log = h.log; made = h.made; rise = h.rise; begins = all_begin h.log views seat h.begins },
      record {
        begins = begins;
        later = subst (λ (l : List Given). last_from 0 v.seen ≤ last_from 0 l) (sym begins.1)
            (rise_later 0 v.seen begins.0 (subst (Rise 0) begins.1 h.rise));
        made = h.made;
      },
    )

pub sends : (seat : ℕ) (v : Sight) (batches : List Given) (x next : Shelf) → x ≡ after_all v.seen
    → Rise 0 (v.seen ++ batches)
    → next ≡ fold after x batches → TurnsAt Keeps seat v x next (λ v x y w. w.seen ≡ v.seen ++ batches)
sends seat v batches x next knows rise is views h at =
    let begins = h.begins seat v at in
    let log_is : h.log ≡ v.seen =
    begins.1 ∙ whole v.seen begins.0 (ap after_all (sym begins.1) ∙ sym h.made ∙ knows) in
    let log = v.seen ++ batches in (
      record { seen = log },
      record {
        log = log;
        made = is ∙ ap (λ (s : Shelf). fold after s batches) knows ∙ sym (fold-append after opening v.seen batches);
        rise = rise;
        begins = all_begin log views seat (λ j u there. longer v.seen batches u.seen
            (subst (λ (l : List Given). StartsWith l u.seen) log_is (h.begins j u there)));
      },
      refl,
    )

pub sends_these : (seat : ℕ) (v : Sight) (batches waits : List Given) (x next : Shelf) → batches ≡ waits
    → IsMade x v waits
    → next ≡ fold after x waits → TurnsAt Keeps seat v x next (λ v x y w. w.seen ≡ v.seen ++ batches)
sends_these seat v batches waits x next these made is =
    sends seat v batches x next made.0 (subst (λ (bs : List Given). Rise 0 (v.seen ++ bs)) (sym these) made.1)
    (is ∙ ap (λ (bs : List Given). fold after x bs) (sym these))

-- ---- the publisher's own facts

-- with one batch more that waits, where the desk stays
pub waits_more : {D : Type 0} (old new : D) (shown : D → Shelf) (sight : D
    → Sight) (waits more : List Given) (b given : Given) → new ≡ old
    → IsMade (shown old) (sight old) waits → last_from 0 ((sight old).seen ++ waits) ≤ given.number → b ≡ given
    → more ≡ waits ++ b ∷ []
    → IsMade (shown new) (sight new) more
waits_more old new shown sight waits more b given same made later is joined =
    let low : last_from 0 ((sight old).seen ++ waits) ≤ b.number =
    subst (λ (x : Given). last_from 0 ((sight old).seen ++ waits) ≤ x.number) (sym is) later in
    subst (λ d. IsMade (shown d) (sight d) more) (sym same) (
      made.0,
      subst (λ (bs : List Given). Rise 0 ((sight old).seen ++ bs)) (sym joined)
          (subst (Rise 0) (append_assoc (sight old).seen waits (b ∷ [])) (rise_snoc 0 ((sight old).seen
          ++ waits) b made.1 low)),
    )

-- after a publication, whether it was refused or not
pub stays_made : {T E : Type 0} (r : Result T E) (x y : Shelf) (s t : Sight) (waits rest : List Given)
    → IsMade x s waits → IsSent r x s waits y t rest → IsMade y t rest
stays_made (Ok _) x y s t waits rest made sent = (
  sent.2,
  subst (λ (bs : List Given). Rise 0 (t.seen ++ bs)) (sym sent.1)
      (subst (Rise 0) (sym (append-nil t.seen)) (subst (Rise 0) (sym sent.0) made.1)),
)
stays_made (Err _) x y s t waits rest made sent = (
  sent.0 ∙ made.0 ∙ ap (λ (z : Sight). after_all z.seen) (sym sent.1),
  subst (λ (bs : List Given). Rise 0 (t.seen ++ bs)) (sym sent.2)
      (subst (λ (z : Sight). Rise 0 (z.seen ++ waits)) (sym sent.1) made.1),
)

-- what was published and what waits is as before, all told
joined_after : {T E : Type 0} (r : Result T E) (x y : Shelf) (s t : Sight) (waits rest : List Given)
    → IsSent r x s waits y t rest → t.seen ++ rest ≡ s.seen ++ waits
joined_after (Ok _) x y s t waits rest sent = ap (λ (bs : List Given). t.seen ++ bs) sent.1 ∙ append-nil t.seen ∙ sent.0
joined_after (Err _) x y s t waits rest sent = ap (λ (bs : List Given). t.seen ++ bs) sent.2
    ∙ ap (λ (z : Sight). z.seen ++ waits) sent.1

-- So the last number is that of the batch that was given: it was taken behind those that waited, and then sent or not.
pub last_given : {T E W : Type 0} (r : Result T E) (old new sent : W) (shown : W → Shelf) (sight : W → Sight) (waits : W
    → List Given) (b given : Given)
    → waits new ≡ waits old ++ b ∷ [] → b ≡ given → IsSent r (shown new) (sight new) (waits new) (shown sent)
    (sight sent) (waits sent)
    → last_from 0 ((sight sent).seen ++ waits sent) ≤ given.number
last_given r old new sent shown sight waits b given joined is was_sent =
    let seen = (sight new).seen in
    let e : last_from 0 ((sight sent).seen ++ waits sent) ≡ given.number =
    ap (last_from 0) (joined_after r (shown new) (shown sent) (sight new) (sight sent) (waits new) (waits sent) was_sent
    ∙ ap (λ (bs : List Given). seen ++ bs) joined ∙ sym (append_assoc seen (waits old) (b ∷ [])))
    ∙ last_snoc 0 (seen ++ waits old) b ∙ ap (λ (z : Given). z.number) is in
    omega (arith, e)
