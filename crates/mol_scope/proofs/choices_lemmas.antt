pub mod KnownValues
pub mod EqualOrApart
