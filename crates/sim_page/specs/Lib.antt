pub mod Between
pub mod Logs
pub mod Pages
pub use Rattle.sim_export.specs.Exports
