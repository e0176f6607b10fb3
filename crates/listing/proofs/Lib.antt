pub mod Leaves
pub mod Lists
pub mod Successors
pub mod Levels
pub mod Filled
pub mod Trains
