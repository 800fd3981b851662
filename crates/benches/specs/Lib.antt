pub mod UserCalls
