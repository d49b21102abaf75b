pub mod Leasts
pub mod Cutting
pub mod Seeding
pub mod Refusing
