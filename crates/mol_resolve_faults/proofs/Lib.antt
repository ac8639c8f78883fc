pub mod FirstOfAll
pub mod KindOrder
pub mod SameFaults
pub mod beside_lemmas
pub mod first_faults_lemmas
