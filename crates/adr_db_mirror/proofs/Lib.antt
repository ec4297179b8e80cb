pub mod MirrorStatements
pub mod PolledStatements
pub mod PolledKeys
mod KindRows
