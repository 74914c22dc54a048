-- The lists of events that the tests make, each one event longer than the one before, and that they are lawful.
use Rattle.std.proofs.Common.{List, [], ◌∷◌, refl, arith}
use Rattle.liq_types.specs.declared.events.PoolEvent.TheVariants.{Own, Offset}
use Rattle.liq_types.specs.Product.{least_from}
use Rattle.liq_types.specs.State.{opening}
use Rattle.liq_stability.proofs.LawfulTests.{lawful_tested}
use Rattle.liq_rewards.specs.Timed.{Timed, timed, events_of}
use Rattle.liq_rewards.specs.Kept.{MayHappen}

abbrev pub shared_1 : List Timed
shared_1 = timed 0 (Own 1 1000000000 0 0 1000000000) ∷ []

abbrev pub shared_2 : List Timed
shared_2 = timed 0 (Own 2 2000000000 0 0 2000000000) ∷ shared_1

abbrev pub shared_3 : List Timed
shared_3 = timed 3 (Offset 1000000000 700000000 3000000000 0) ∷ shared_2

pub shared_may_3 : MayHappen (timed 3 (Offset 1000000000 700000000 3000000000 0)) shared_2
unfolding least_from
shared_may_3 = record { lawful = lawful_tested opening (events_of shared_3) refl; few = omega arith }

pub shared_may_2 : MayHappen (timed 0 (Own 2 2000000000 0 0 2000000000)) shared_1
unfolding least_from
shared_may_2 = record { lawful = lawful_tested opening (events_of shared_2) refl; few = omega arith }

pub shared_may_1 : MayHappen (timed 0 (Own 1 1000000000 0 0 1000000000)) []
unfolding least_from
shared_may_1 = record { lawful = lawful_tested opening (events_of shared_1) refl; few = omega arith }

abbrev pub ended_1 : List Timed
ended_1 = timed 0 (Own 1 4000000000 0 0 4000000000) ∷ []

abbrev pub ended_2 : List Timed
ended_2 = timed 2 (Offset 4000000000 0 4000000000 0) ∷ ended_1

abbrev pub ended_3 : List Timed
ended_3 = timed 3 (Own 2 1000000000 0 0 1000000000) ∷ ended_2

pub ended_may_3 : MayHappen (timed 3 (Own 2 1000000000 0 0 1000000000)) ended_2
unfolding least_from
ended_may_3 = record { lawful = lawful_tested opening (events_of ended_3) refl; few = omega arith }

pub ended_may_2 : MayHappen (timed 2 (Offset 4000000000 0 4000000000 0)) ended_1
unfolding least_from
ended_may_2 = record { lawful = lawful_tested opening (events_of ended_2) refl; few = omega arith }

pub ended_may_1 : MayHappen (timed 0 (Own 1 4000000000 0 0 4000000000)) []
unfolding least_from
ended_may_1 = record { lawful = lawful_tested opening (events_of ended_1) refl; few = omega arith }

abbrev pub least_1 : List Timed
least_1 = timed 0 (Own 1 999999999 0 0 999999999) ∷ []

abbrev pub least_2 : List Timed
least_2 = timed 1 (Own 1 1 0 0 1000000000) ∷ least_1

pub least_may_2 : MayHappen (timed 1 (Own 1 1 0 0 1000000000)) least_1
unfolding least_from
least_may_2 = record { lawful = lawful_tested opening (events_of least_2) refl; few = omega arith }

pub least_may_1 : MayHappen (timed 0 (Own 1 999999999 0 0 999999999)) []
unfolding least_from
least_may_1 = record { lawful = lawful_tested opening (events_of least_1) refl; few = omega arith }

abbrev pub risen_1 : List Timed
risen_1 = timed 0 (Own 1 1000000000000000000 0 0 1000000000000000000) ∷ []

abbrev pub risen_2 : List Timed
risen_2 = timed 1 (Offset 999999999999999999 0 1000000000000000000 1) ∷ risen_1

abbrev pub risen_3 : List Timed
risen_3 = timed 1 (Own 2 999999999999999999 0 0 999999999999999999) ∷ risen_2

abbrev pub risen_4 : List Timed
risen_4 = timed 2 (Offset 999999999999999999 0 1000000000000000000 2) ∷ risen_3

abbrev pub risen_5 : List Timed
risen_5 = timed 2 (Own 3 999999999999999999 0 0 999999999999999999) ∷ risen_4

pub risen_may_5 : MayHappen (timed 2 (Own 3 999999999999999999 0 0 999999999999999999)) risen_4
unfolding least_from
risen_may_5 = record { lawful = lawful_tested opening (events_of risen_5) refl; few = omega arith }

pub risen_may_4 : MayHappen (timed 2 (Offset 999999999999999999 0 1000000000000000000 2)) risen_3
unfolding least_from
risen_may_4 = record { lawful = lawful_tested opening (events_of risen_4) refl; few = omega arith }

pub risen_may_3 : MayHappen (timed 1 (Own 2 999999999999999999 0 0 999999999999999999)) risen_2
unfolding least_from
risen_may_3 = record { lawful = lawful_tested opening (events_of risen_3) refl; few = omega arith }

pub risen_may_2 : MayHappen (timed 1 (Offset 999999999999999999 0 1000000000000000000 1)) risen_1
unfolding least_from
risen_may_2 = record { lawful = lawful_tested opening (events_of risen_2) refl; few = omega arith }

pub risen_may_1 : MayHappen (timed 0 (Own 1 1000000000000000000 0 0 1000000000000000000)) []
unfolding least_from
risen_may_1 = record { lawful = lawful_tested opening (events_of risen_1) refl; few = omega arith }

abbrev pub fourth_1 : List Timed
fourth_1 = timed 0 (Own 1 1000000000000000000 0 0 1000000000000000000) ∷ []

abbrev pub fourth_2 : List Timed
fourth_2 = timed 0 (Offset 999999999999999999 0 1000000000000000000 1) ∷ fourth_1

abbrev pub fourth_3 : List Timed
fourth_3 = timed 0 (Own 2 9999999999999999999 0 0 9999999999999999999) ∷ fourth_2

abbrev pub fourth_4 : List Timed
fourth_4 = timed 0 (Offset 9999999999999999999 0 10000000000000000000 3) ∷ fourth_3

abbrev pub fourth_5 : List Timed
fourth_5 = timed 0 (Own 3 1000000000 0 0 1000000000) ∷ fourth_4

pub fourth_may_5 : MayHappen (timed 0 (Own 3 1000000000 0 0 1000000000)) fourth_4
unfolding least_from
fourth_may_5 = record { lawful = lawful_tested opening (events_of fourth_5) refl; few = omega arith }

pub fourth_may_4 : MayHappen (timed 0 (Offset 9999999999999999999 0 10000000000000000000 3)) fourth_3
unfolding least_from
fourth_may_4 = record { lawful = lawful_tested opening (events_of fourth_4) refl; few = omega arith }

pub fourth_may_3 : MayHappen (timed 0 (Own 2 9999999999999999999 0 0 9999999999999999999)) fourth_2
unfolding least_from
fourth_may_3 = record { lawful = lawful_tested opening (events_of fourth_3) refl; few = omega arith }

pub fourth_may_2 : MayHappen (timed 0 (Offset 999999999999999999 0 1000000000000000000 1)) fourth_1
unfolding least_from
fourth_may_2 = record { lawful = lawful_tested opening (events_of fourth_2) refl; few = omega arith }

pub fourth_may_1 : MayHappen (timed 0 (Own 1 1000000000000000000 0 0 1000000000000000000)) []
unfolding least_from
fourth_may_1 = record { lawful = lawful_tested opening (events_of fourth_1) refl; few = omega arith }

abbrev pub taken_1 : List Timed
taken_1 = timed 0 (Own 1 3000000000 0 0 3000000000) ∷ []

abbrev pub taken_2 : List Timed
taken_2 = timed 1 (Own 2 1000000000 0 0 1000000000) ∷ taken_1

abbrev pub taken_3 : List Timed
taken_3 = timed 2 (Own 1 0 3000000000 0 0) ∷ taken_2

pub taken_may_3 : MayHappen (timed 2 (Own 1 0 3000000000 0 0)) taken_2
unfolding least_from
taken_may_3 = record { lawful = lawful_tested opening (events_of taken_3) refl; few = omega arith }

pub taken_may_2 : MayHappen (timed 1 (Own 2 1000000000 0 0 1000000000)) taken_1
unfolding least_from
taken_may_2 = record { lawful = lawful_tested opening (events_of taken_2) refl; few = omega arith }

pub taken_may_1 : MayHappen (timed 0 (Own 1 3000000000 0 0 3000000000)) []
unfolding least_from
taken_may_1 = record { lawful = lawful_tested opening (events_of taken_1) refl; few = omega arith }
