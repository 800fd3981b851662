pub mod EveryRound
