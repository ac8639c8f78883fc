pub mod Files
pub mod Headings
pub mod MemberTrees
