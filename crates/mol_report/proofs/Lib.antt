pub mod DeclarationAddresses
pub mod IdLines
