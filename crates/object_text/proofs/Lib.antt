pub mod WholeParts
pub mod Versions
pub mod Utf8Texts
pub mod Refusals
