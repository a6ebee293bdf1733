-- What the parts of a report are asked, one after another. The contract of `check` names none of it, so nothing here must be
-- believed.
pub mod Feeding
pub mod Parts
pub mod Steps
