pub mod NamedWords
pub mod UidFits
pub mod UidTexts
