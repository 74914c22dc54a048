pub mod SoundBorrow
pub mod SoundBounds
pub mod SoundCalls
pub mod SoundEvents
pub mod SoundFacts
mod SoundLimits
pub mod SoundLiquidate
pub mod SoundPool
mod SoundProducts
pub mod SoundPromises
pub mod SoundRedeem
mod SoundSame
pub mod SoundStart
pub mod SoundStep
pub mod SoundTests
