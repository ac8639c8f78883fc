pub mod method_faults_lemmas
pub mod override_faults_lemmas
pub mod package_faults_lemmas
pub mod pair_faults_lemmas
