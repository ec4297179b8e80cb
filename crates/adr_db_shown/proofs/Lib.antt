pub mod ShownStatements
pub mod RollupStatements
pub mod RangeStatements
