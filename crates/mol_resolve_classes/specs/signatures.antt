pub mod TypeOrder
pub mod SignatureOrder
pub mod Repeats
