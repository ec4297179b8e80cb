pub mod Keys
pub mod Contents
pub mod Stored
pub mod Schemas
pub mod Creations
pub mod Calls
pub mod Codecs
