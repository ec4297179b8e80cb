mod Common
mod WrittenLemmas
mod RunLemmas
mod ScanLemmas
mod RowLemmas
pub mod CatchUpLemmas
pub mod ExampleLemmas
pub mod NeededLemmas
