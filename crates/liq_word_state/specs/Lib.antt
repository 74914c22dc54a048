-- A reader of the top call's clause needs Answers, Audit, Leads, Report and State. The others are
-- for the contracts below it.
pub mod Answers
pub mod Audit
pub mod Leads
pub mod Report
pub mod Reviewing
pub mod State
pub mod Told
pub mod Writing
pub mod Whole
