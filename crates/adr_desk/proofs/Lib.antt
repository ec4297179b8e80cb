mod After
pub mod Empty
pub mod Transactions
pub mod Applied
pub mod Created
pub mod DecisionLemmas
pub mod ListedLemmas
pub mod AskLemmas
pub mod AnswerLemmas
pub mod CoverLemmas
pub mod StepLemmas
pub mod ToldLemmas
mod StayLemmas
pub mod MadeLemmas
pub mod DeliveryLemmas
pub mod EvidenceLemmas
pub mod ReplyLemmas
pub mod Soundness
pub mod Since
pub mod Readied
pub mod Restarts
pub mod ShutLemmas
pub mod DroppedLemmas
