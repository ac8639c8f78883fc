pub mod Conflicts
pub mod Interleavings
pub mod PairConflicts
pub mod TwoLogs
pub mod United
