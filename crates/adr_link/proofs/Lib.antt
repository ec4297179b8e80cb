pub mod HeadLemmas
pub mod EndLemmas
pub mod LinkFaults
pub mod OneReply
pub mod NotWhole
pub mod AppendedPieces
