pub mod Acts
pub mod Choosing
pub mod Fewer
pub mod Firsts
pub mod Placing
pub mod Seeing
pub mod Turning
