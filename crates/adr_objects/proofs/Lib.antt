pub mod NameSets
pub mod Written
pub mod RoundTrips
