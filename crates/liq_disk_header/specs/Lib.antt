pub mod Header
pub mod Layout
pub mod RecordDigest
