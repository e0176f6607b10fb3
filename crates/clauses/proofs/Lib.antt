pub mod Laws
pub mod Turns
pub mod Pairs
pub mod Totals
