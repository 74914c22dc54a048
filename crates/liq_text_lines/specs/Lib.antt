-- A reader of the top call's clause needs Lines, Saying and Writing, and of Reading `ReadsAtMost`
-- and `taken_most`. The rest of Reading is for the contracts below it.
pub mod Lines
pub mod Reading
pub mod Saying
pub mod Writing
