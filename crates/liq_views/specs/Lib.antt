pub mod Batches
pub mod Hints
pub mod Panes
pub mod Publishers
pub mod Rules
pub mod Sending
pub mod Shelves
pub mod Windows
