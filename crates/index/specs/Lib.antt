pub mod Seek
pub mod Keys
pub mod Indexed
pub mod Settled
