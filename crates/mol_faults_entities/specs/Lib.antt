pub mod method_faults
pub mod override_faults
pub mod package_faults
pub mod pair_faults
