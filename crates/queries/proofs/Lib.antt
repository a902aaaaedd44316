pub mod Adding
pub mod Back
pub mod Held
pub mod Loops
pub mod Printed
pub mod Same
pub mod Valid
