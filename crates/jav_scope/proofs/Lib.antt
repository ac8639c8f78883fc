mod AboveClasses
pub mod ClimbSteps
pub mod Climbing
pub mod CutTexts
pub mod FewestNames
pub mod Finding
mod FoundConstructors
pub mod FoundMembers
mod LeftmostFound
mod MemberOwners
mod MembersListed
mod NamePlaces
mod NamesFound
pub mod Numbered
mod TypesFound
mod VariablesFound
pub mod ancestors_lemmas
pub mod ascent_lemmas
pub mod imports_lemmas
pub mod typenames_lemmas
