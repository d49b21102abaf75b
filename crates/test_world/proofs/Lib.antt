pub mod EchoRows
pub mod DiskRows
pub mod MessageRows
pub mod ProtocolBase
pub mod PrimaryBackupRows
pub mod AbdRows
pub mod TwoPhaseRows
pub mod RaftRows
