pub mod Soughts
