pub mod Orders
pub mod Counts
pub mod Listings
