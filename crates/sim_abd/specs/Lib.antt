pub mod Abd
pub mod AbdNumbers
pub mod AbdRecords
