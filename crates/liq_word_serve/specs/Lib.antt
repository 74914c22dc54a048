-- A reader of the top call's clause needs none of these: they are for the contracts below it.
pub mod Answered
pub mod Ends
pub mod Input
pub mod Leaves
pub mod Running
pub mod Serves
