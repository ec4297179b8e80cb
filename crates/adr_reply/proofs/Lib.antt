pub mod RenderedPieces
pub mod MemoryReply
pub mod Codes
