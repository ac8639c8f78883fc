pub mod PrimaryRules
pub mod ExprRules
pub mod Nests
pub mod ActionRules
pub mod NestsLead
