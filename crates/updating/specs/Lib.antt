pub mod Updates
pub mod Deserted
pub mod CarriesOver
pub mod Counted
