pub mod Stages
pub mod Tables
pub mod Walk
