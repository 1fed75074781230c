pub mod OptionLists
