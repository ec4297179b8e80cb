pub mod SubStatements
pub mod Hearing
