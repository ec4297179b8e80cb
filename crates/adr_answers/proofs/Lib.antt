pub mod Behind
pub mod Sighted
pub mod ToldLemmas
pub mod ProgramLemmas
pub mod KeyLemmas
pub mod ListedLemmas
