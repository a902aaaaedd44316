pub mod Linked
pub mod Fitted
pub mod Leading
pub mod Building
pub mod Covered
