pub mod FaultyClasses
