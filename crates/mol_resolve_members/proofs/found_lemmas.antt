pub mod AsAnswered
pub mod MemberRows
pub mod MembersThere
