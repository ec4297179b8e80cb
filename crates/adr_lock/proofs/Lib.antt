pub mod Offices
