pub mod Auditable
pub mod Enclosure
pub mod Examples
pub mod Watching
pub mod Rows
