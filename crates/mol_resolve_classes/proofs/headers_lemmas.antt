pub mod FirstNamed
pub mod Marking
pub mod DoublesFound
pub mod Begun
pub mod PackagesFound
pub mod Failing
pub mod FoundClashes
