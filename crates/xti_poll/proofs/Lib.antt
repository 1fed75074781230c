mod Sets
mod SumBits
mod Finds
pub mod Apart
mod TableRows
