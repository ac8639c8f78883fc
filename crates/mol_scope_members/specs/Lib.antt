pub mod declaring
pub mod inherited
pub mod topmost
