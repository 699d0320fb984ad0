pub mod Attended
pub mod Serve
pub mod Terms
