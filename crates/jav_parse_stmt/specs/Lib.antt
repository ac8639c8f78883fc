pub mod LocalRules
pub mod StmtRules
pub mod NestsStmt
