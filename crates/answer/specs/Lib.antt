pub mod Promise
pub mod Determined
pub mod Answering
