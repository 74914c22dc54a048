-- A reader of the top call's clause needs Gathering. Progress is for the contracts below it.
pub mod Gathering
pub mod Progress
