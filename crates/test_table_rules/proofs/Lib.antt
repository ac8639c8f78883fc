pub mod ExpressionForms
pub mod Forms
pub mod Given
pub mod Rules
pub mod StatementForms
pub mod TokenForms
pub mod TypeForms
