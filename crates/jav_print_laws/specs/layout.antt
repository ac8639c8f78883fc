pub mod ParsesBack
