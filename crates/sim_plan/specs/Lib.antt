pub mod Planned
pub mod Happening
pub mod Owing
pub mod Forecasting
