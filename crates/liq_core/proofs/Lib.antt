mod AccountsFirst
pub mod Alike
mod Answered
mod Beginning
mod Cutting
mod Depositing
mod Forecasting
mod FromNothing
mod FromTheEnd
pub mod HintsAside
mod Images
mod KeptReplies
mod Lending
mod Liquidating
mod Noting
mod Numbering
mod Paying
mod Placing
mod Planning
mod Pooling
mod Reading
mod Redeeming
mod Rooms
mod Rotating
pub mod SameContents
pub mod SoundCores
mod Stands
mod Stepping
mod Telling
