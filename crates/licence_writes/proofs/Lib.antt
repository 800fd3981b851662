mod Assigning
mod Growing
mod NoRow
mod Paging
mod Scheduling
pub mod OpsRows
