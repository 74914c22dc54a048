pub mod Audited
mod DamagedTold
mod Generations
mod Leading
mod Looking
mod SomeTold
pub mod StakeLines
pub mod TagLines
mod Standing
mod TextsTold
