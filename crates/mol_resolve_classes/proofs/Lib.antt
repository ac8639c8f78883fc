pub mod header_faults_lemmas
pub mod headers_lemmas
pub mod namesakes_lemmas
pub mod related_lemmas
pub mod signatures_lemmas
