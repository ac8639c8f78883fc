pub mod Fronts
pub mod RunsFound
pub mod PairsFound
pub mod PackagesListed
pub mod PairsOrdered
