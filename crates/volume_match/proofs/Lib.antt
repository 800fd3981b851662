pub mod Candidates
pub mod Fitting
pub mod IndexBest
pub mod KindSearch
pub mod OwnPart
pub mod Passed
pub mod Scans
