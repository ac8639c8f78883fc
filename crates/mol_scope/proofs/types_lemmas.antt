pub mod ItemsFound
