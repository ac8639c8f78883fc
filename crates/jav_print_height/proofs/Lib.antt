pub mod ExampleHeights
pub mod MeasuredExpressions
pub mod PrintedStatements
