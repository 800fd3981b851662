pub mod FirstLine
