pub mod MadeEntities
pub mod ListedParams
pub mod PartsThere
pub mod ReadAtKeys
