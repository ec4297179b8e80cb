pub mod HeadLemmas
pub mod OneReading
pub mod NotWhole
