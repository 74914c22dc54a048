-- A reader of the top call's clause needs Load. Carrying is for the contracts below it.
pub mod Carrying
pub mod Load
