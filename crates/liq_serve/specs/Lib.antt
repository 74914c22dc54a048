-- A reader of the top call's clause begins with Top. ByStatus, Calm and Twice are what follows from
-- that clause (`laws`). Finishing is for the contracts below it.
pub mod ByStatus
pub mod Calm
pub mod Finishing
pub mod Top
pub mod Twice
