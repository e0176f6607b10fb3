pub mod NumberLists
pub mod Signs
pub mod Found
pub mod Places
