pub mod ShortRounds
