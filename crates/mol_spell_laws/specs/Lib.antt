pub mod PrintableFiles
