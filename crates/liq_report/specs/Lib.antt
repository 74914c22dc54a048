-- A reader of the report's contract needs Report and Texts. Told, Values and Sent are for the
-- contracts below it.
pub mod Report
pub mod Sent
pub mod Texts
pub mod Told
pub mod Values
