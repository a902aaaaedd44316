pub mod Facts
pub mod Few
pub mod Reading
pub mod Rows
pub mod Text
