pub mod AnswersTested
pub mod FoundMembers
pub mod MembersAnswered
pub mod NamesAnswered
pub mod PathsSpelled
pub mod PlacesRead
pub mod StaticMembers
pub mod SupersAnswered
