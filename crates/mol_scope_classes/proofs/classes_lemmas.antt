pub mod ClassesFound
pub mod KnownIds
pub mod LivingClasses
