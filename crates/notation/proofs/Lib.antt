pub mod Back
pub mod Fronts
pub mod Failing
pub mod Lacks
pub mod Pieces
pub mod Shown
pub mod Equal
