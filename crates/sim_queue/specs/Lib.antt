pub mod Pending
pub mod Items
pub mod Packed
pub mod inside
