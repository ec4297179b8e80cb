pub mod ReadIds
pub mod ShownPrograms
pub mod ListedReports
pub mod KeptLimits
pub mod WrittenReports
pub mod ToldStamps
pub mod KeptReports
