pub mod NodeLists
