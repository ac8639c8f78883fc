pub mod ConditionParts
pub mod EntryExamples
pub mod Examples
pub mod ExpressionFaults
pub mod Leaves
pub mod Mentioned
pub mod StatementFaults
