-- Reading: what a refusal means, what a book that was read is, and the file that it is read from
pub mod Faults
pub mod Wellformed
pub mod Growing
pub mod Reading
pub mod Building
pub mod Exact
pub mod RunLists
-- The formula and the plan rules say the same
pub mod Sections
pub mod Labels
pub mod Meaning
pub mod Coding
pub mod Moves
pub mod Rules
pub mod Satisfied
pub mod Encoding
pub mod Counting
pub mod Cap
pub mod Plans
-- Refutations
pub mod Refuting
pub mod Files
-- The entry points, and the demands
pub mod Entries
pub mod Words
pub mod Variables
pub mod Reasons
pub mod Refusals
-- what a cap leaves alone
pub mod Uncapped
pub mod Demands
-- the fewest borders
pub mod Fewest
-- The requests: old books rewritten, the train graph, speeds
pub mod Widening
pub mod Upgrading
pub mod Pages
pub mod Speeds
pub mod Leaving
-- which borders carry a plan
pub mod Meetings
pub mod Carriers
-- the formula under a cap
pub mod Capping
-- judging apart from unpacking
pub mod Unpacking
