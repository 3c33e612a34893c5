pub mod ByOrder
