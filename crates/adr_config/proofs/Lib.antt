mod Listening
pub mod Calling
mod Telling
