pub mod Accounts
pub mod Ascending
pub mod Clients
pub mod FinishedSums
mod Least
pub mod Lookups
pub mod MapRows
pub mod Places
pub mod Ranges
pub mod RankedLists
pub mod Refused
pub mod Rounding
pub mod SameRows
pub mod Sums
pub mod Tests
pub mod UsedRows
pub mod Verbs
pub mod Watching
