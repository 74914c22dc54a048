pub mod Batch
pub mod Numbering
pub mod Texts
