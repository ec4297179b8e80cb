pub mod Columns
pub mod Firsts
pub mod Cuts
pub mod Objects
pub mod Laws
