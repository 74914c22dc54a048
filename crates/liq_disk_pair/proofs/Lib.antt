pub mod Alike
pub mod Alone
pub mod Around
pub mod AtEnd
pub mod Basing
pub mod Behind
pub mod Beginning
mod Checkpoints
pub mod Commands
pub mod FirstPlace
pub mod Formed
pub mod Generations
mod Heard
pub mod Hints
mod ImageTables
pub mod Keeping
pub mod KeptWith
pub mod OneByte
pub mod Past
pub mod Recovering
pub mod Replaying
pub mod Standings
pub mod Turning
