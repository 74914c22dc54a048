-- A store that begins tells its list: what was known of it still holds.
use Rattle.std.proofs.Common.{◌≡◌, ◌≢◌, ◌∙◌, List, None, Result, Ok, Err, IfOk, IfErr, sym, ap, ap₂, subst}
use Rattle.liq_types.specs.declared.events.ListChange.{ListChange}
use Rattle.liq_outside.specs.At.{DiskAt}
use Rattle.liq_core.specs.Core.{Core}
use Rattle.liq_store.specs.declared.answers.StoreFault.{StoreFault}
use Rattle.liq_store.specs.declared.answers.StoreWhy.TheVariants as why
use Rattle.liq_store.specs.Beginning.{IsUnbegun, IsUnbegunBy}
use Rattle.liq_store.specs.Causes.{counts_of}
use Rattle.liq_store.specs.Keeping.{IsAtRest, IsGoing, IsInOrder}
use Rattle.liq_store.specs.Opening.{OpensOn, left_after, right_after}
use Rattle.liq_store.specs.Stored.{Stored}
use Rattle.liq_store.proofs.Going.{going_of}

-- the same store but for its changes, or its disks
module _ {D : Type 0} (store : Stored D) (result : Result (Stored D) (StoreFault D))
    (same : IfOk result (λ listed. listed ≡ record store { changes = listed.changes }))
    (refused : IfErr result (λ e. (e.left ≡ store.left) × (e.right ≡ store.right) × (e.why ≡ why.NoMemory))) where
  pub still_so : (P : Stored D → Type 0) → ((changes : List ListChange) → P (record store { changes = changes }))
      → IfOk result P
  still_so P is = by result same
    where
      by : (r : Result (Stored D) (StoreFault D))
          → IfOk r (λ listed. listed ≡ record store { changes = listed.changes }) → IfOk r P
      by (Ok listed) so = subst P (sym so) (is listed.changes)
      by (Err e) so = tt

  -- what is said of its changes by the store's protocol is so by its own
  pub by_core : (P : Core → List ListChange → Type 0) → IfOk result (λ listed. P store.core listed.changes)
      → IfOk result (λ listed. P listed.core listed.changes)
  by_core P is = by result same is
    where
      by : (r : Result (Stored D) (StoreFault D))
          → IfOk r (λ listed. listed ≡ record store { changes = listed.changes })
          → IfOk r (λ listed. P store.core listed.changes) → IfOk r (λ listed. P listed.core listed.changes)
      by (Ok listed) so said = subst (λ (k : Core). P k listed.changes) (sym (ap (λ (o : Stored D). o.core) so)) said
      by (Err e) so said = tt

  pub same_disks : (left_after result ≡ store.left) × (right_after result ≡ store.right)
  same_disks = by result same refused
    where
      by : (r : Result (Stored D) (StoreFault D))
          → IfOk r (λ listed. listed ≡ record store { changes = listed.changes })
          → IfErr r (λ e. (e.left ≡ store.left) × (e.right ≡ store.right) × (e.why ≡ why.NoMemory))
          → (left_after r ≡ store.left) × (right_after r ≡ store.right)
      by (Ok listed) so refuses = (ap (λ (o : Stored D). o.left) so, ap (λ (o : Stored D). o.right) so)
      by (Err e) so refuses = (refuses.0, refuses.1)

  module _ (at : D → DiskAt) (left right : D) (opened : OpensOn at left right store) where
    pub listed_opened : IfOk result (OpensOn at left right)
    listed_opened = still_so (OpensOn at left right)
        (λ changes. record {
          state = opened.state;
          commands = opened.commands;
          going = opened.going;
          counts = opened.counts;
          stays = opened.stays;
        })

    pub unlisted : IfErr result (IsUnbegun at left right)
    unlisted = by result refused
      where
        by : (r : Result (Stored D) (StoreFault D)) → IfErr r (λ e. (e.left ≡ store.left) × (e.right ≡ store.right)
            × (e.why ≡ why.NoMemory)) → IfErr r (IsUnbegun at left right)
        by (Ok listed) refuses = tt
        by (Err e) refuses = subst (IsUnbegunBy at left right e) (sym refuses.2) (record {
          counts = ap₂ (counts_of at) refuses.0 refuses.1 ∙ opened.counts;
          stays = λ l r a b tl tr ta tb. opened.stays l r a b tl tr (ap (λ (d : D). (at d).seen) (sym refuses.0)
              ∙ ta) (ap (λ (d : D). (at d).seen) (sym refuses.1) ∙ tb);
        })

  -- where there is no memory for it nothing is pending
  module _ (at : D → DiskAt) where
    abbrev Rests : StoreFault D → Type 0
    Rests e = e.why ≢ why.DiskFault → IsAtRest at e.left × IsAtRest at e.right

    pub unlisted_rests : store.stopped ≡ None → IsInOrder at store → IfErr result Rests
    unlisted_rests none order = by result refused
      where
        going : IsGoing at store
        going = going_of at store none order

        by : (r : Result (Stored D) (StoreFault D))
            → IfErr r (λ e. (e.left ≡ store.left) × (e.right ≡ store.right) × (e.why ≡ why.NoMemory)) → IfErr r Rests
        by (Ok listed) refuses = tt
        by (Err e) refuses = λ cause. (
          subst (IsAtRest at) (sym refuses.0) going.left,
          subst (IsAtRest at) (sym refuses.1) going.right,
        )
