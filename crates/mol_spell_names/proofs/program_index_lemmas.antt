pub mod UsesKept
