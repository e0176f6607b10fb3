-- why a refusal is given
pub mod Reasons
-- what the other demands claim
pub mod Claims
-- what is claimed of a book's file
pub mod BookFiles
-- what the rewriter's contracts ask of an old frame
pub mod OldFrames
-- what is claimed of a train graph
pub mod Pages
-- what is claimed of the borders that carry a plan
pub mod Carriers
