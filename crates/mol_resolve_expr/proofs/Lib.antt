pub mod AfterDots
pub mod ChainPaths
pub mod FirstNames
pub mod MadeOfParts
pub mod Nodes
pub mod Outcomes
pub mod Several
pub mod StandsEither
