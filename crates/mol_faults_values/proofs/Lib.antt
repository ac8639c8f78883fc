pub mod local_faults_lemmas
pub mod missing_faults_lemmas
