pub mod MoreArguments
pub mod OnlyFound
pub mod Outcomes
pub mod FieldsRead
pub mod CallsRead
pub mod CreationsRead
