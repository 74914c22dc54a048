-- A reader of the top call's clause needs Answered, Disks, Outside, Output, Reading, Requests,
-- Statuses, and of Stops all but its last part. That part, Causes, Fed, Further, Rest, Telling,
-- Unopened and Unsaid are for the contracts below it.
pub mod Answered
pub mod Causes
pub mod Disks
pub mod Fed
pub mod Further
pub mod Outside
pub mod Output
pub mod Reading
pub mod Requests
pub mod Rest
pub mod Statuses
pub mod Stops
pub mod Telling
pub mod Unopened
pub mod Unsaid
