pub mod Alike
pub mod HasKeys
pub mod Keys
pub mod Laws
pub mod Numbered
pub mod Strange
pub mod ViewsMatch
