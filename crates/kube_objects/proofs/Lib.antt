pub mod EmptyTexts
pub mod KeyOrder
pub mod KindRows
pub mod RowPlaces
pub mod SameKeys
