pub mod OpsRows
