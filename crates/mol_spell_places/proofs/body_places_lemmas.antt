pub mod StatementSteps
