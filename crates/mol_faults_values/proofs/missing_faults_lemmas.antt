pub mod Slots
pub mod ReferringSlots
pub mod SameRows
pub mod Found
