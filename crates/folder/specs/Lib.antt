pub mod Buffers
pub mod Contents
pub mod Folders
pub mod Printing
pub mod Printouts
