pub mod Answer
pub mod Audit
pub mod End
pub mod Replay
pub mod Threads
