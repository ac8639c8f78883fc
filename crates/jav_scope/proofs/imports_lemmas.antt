pub mod ImportsFound
