-- How the code goes from the front of the bytes. What was read is written again and compared, and the contract of
-- `read_report` names the text alone, so nothing here must be believed.
pub mod Reading
pub mod Parts
pub mod Entries
pub mod Whole
