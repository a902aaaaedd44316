pub mod Runs
pub mod Derivations
pub mod Law
pub mod Offerable
pub mod Wrong
