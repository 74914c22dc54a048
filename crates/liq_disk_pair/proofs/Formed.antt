-- The state for which two disks stand is sound, and so well formed.
use Rattle.std.proofs.Common.{◌≡◌, ℕ, List, inr, Option, Some, None, Ok, refl, subst}
use Rattle.liq_types.specs.declared.amounts.TheConstants.{LIM}
use Rattle.liq_types.specs.State.{State}
use Rattle.liq_types.specs.WellFormed.{IsWellFormed}
use Rattle.liq_rule_sound.specs.SoundState.{IsSoundState}
use Rattle.liq_rule_sound.proofs.SoundStart.{opening_sound}
use Rattle.liq_journal.specs.Written.{Written}
use Rattle.liq_disk_pair.specs.Pair.{journal_on, state_on}
use Rattle.liq_disk_pair.proofs.Commands.{Leads, journal_leads}
use Rattle.liq_disk_pair.proofs.Replaying.{outcome_sound}

by_journal : (o : Option Written) (s : State) → Leads o s → IsSoundState s
by_journal None s leads = subst (λ (t : State). IsSoundState t) leads (opening_sound LIM (inr refl))
by_journal (Some w) s leads = outcome_sound w s leads.0.limit leads.1

pub state_sound : (l r : List ℕ) (s : State) → state_on l r ≡ Ok s → IsSoundState s
state_sound l r s is = by_journal (journal_on l r) s (journal_leads l r s is)

pub state_formed : (l r : List ℕ) (s : State) → state_on l r ≡ Ok s → IsWellFormed s
state_formed l r s is = (state_sound l r s is).formed
