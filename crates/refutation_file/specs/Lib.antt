pub mod Numbers
pub mod Found
