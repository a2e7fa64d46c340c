pub mod TableRuns
pub mod ColumnsUnique
pub mod MadeOnce
