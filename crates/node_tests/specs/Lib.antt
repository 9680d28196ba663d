pub mod Endpoints
pub mod Needs
pub mod NodeTests
pub mod Outputs
pub mod Registers
pub mod Walks
