pub mod Audited
pub mod Engine
pub mod Limits
pub mod Paid
pub mod Replaying
pub mod Reviewed
pub mod Shown
