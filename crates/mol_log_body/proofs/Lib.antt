pub mod BackBodies
pub mod BodyTurns
pub mod Openings
pub mod ReadsOn
pub mod SoundBodies
pub mod WrittenBodies
