-- The modules in document 01's order; `Upgrade`, `Page` and `Carriers` are for P1, P2 and P5 of document 02. `Lists` has the few list words
-- that the others are written with.
pub mod Lists
pub mod Numbers
pub mod Frames
pub mod Book
pub mod BookFile
pub mod Runs
pub mod Read
pub mod Reached
pub mod Held
pub mod Answers
pub mod Instance
pub mod Sections
pub mod Plan
pub mod Cap
pub mod Formula
pub mod Assignment
pub mod Refutation
pub mod Entry
pub mod Upgrade
pub mod Page
pub mod Carriers
pub mod Library
pub mod Programs
