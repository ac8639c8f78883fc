pub mod MadeOf
pub mod MembersListed
