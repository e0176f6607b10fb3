pub mod Placed
pub mod Tables
pub mod Meets
pub mod Ready
pub mod Prepared
