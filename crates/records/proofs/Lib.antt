-- What loops over lent lists have copied or laid after each turn.
pub mod Overlaid
pub mod LaidRecords
