pub mod Ledgers
pub mod Opening
pub mod Questions
pub mod Rows
pub mod Strikes
pub mod Runs
pub mod Views
pub mod LawOfRuns
