pub mod Given
pub mod InMember
pub mod Stands
