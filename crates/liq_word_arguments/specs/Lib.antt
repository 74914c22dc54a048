-- A reader of the top call's clause needs neither: the words stand in liq_word_line. These are for
-- the contracts of reading.
pub mod Line
pub mod Reading
