pub mod FrozenRuns
