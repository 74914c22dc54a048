pub mod AccountKey
pub mod Parts
pub mod ShortKey
