-- A reader of the top call's clause needs Followed. Feeding is for the contracts below it.
pub mod Feeding
pub mod Followed
