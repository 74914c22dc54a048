-- A reader of the top call's clause needs Asked, Output and Sessions. BySession, Gathering and
-- Sending are for the contracts below it.
pub mod Asked
pub mod BySession
pub mod Gathering
pub mod Output
pub mod Sending
pub mod Sessions
