pub mod Numbers
pub mod Loans
pub mod Wholes
mod Looked
pub mod Holdings
mod Staying
pub mod Orders
pub mod OpeningCells
mod Sights
mod Ends
mod Marks
mod Events
mod SurveyEnds
