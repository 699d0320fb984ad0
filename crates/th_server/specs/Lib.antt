pub mod Bytes
pub mod Busy
pub mod Parts
pub mod Serving
pub mod Sums
pub mod Words
