pub mod StampStatements
