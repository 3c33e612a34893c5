pub mod Macros
pub mod Records
pub mod Results
pub mod Streams
