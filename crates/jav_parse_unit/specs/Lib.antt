pub mod WordRules
pub mod MemberRules
pub mod UnitRules
pub mod Features
pub mod FeatureTables
pub mod BadToken
pub mod WholeRules
