pub mod Filtering
pub mod Roads
pub mod Walking
