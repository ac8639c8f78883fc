pub mod AtHeight
