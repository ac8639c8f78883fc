pub mod SimpleTypes
