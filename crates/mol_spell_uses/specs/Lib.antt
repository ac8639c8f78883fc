pub mod body_uses
pub mod uses
