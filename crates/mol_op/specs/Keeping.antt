-- That an operation that applies keeps the rules of programs, kind by kind.
pub mod AddMethods
pub mod Added
pub mod AddedOne
pub mod AddedTwo
pub mod Kinds
pub mod ParamsPass
pub mod Sets
pub mod Setting
pub mod Signature
