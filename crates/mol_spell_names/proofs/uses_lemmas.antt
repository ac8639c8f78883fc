pub mod MembersUsed
