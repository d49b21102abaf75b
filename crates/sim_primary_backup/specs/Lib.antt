pub mod PrimaryBackup
pub mod PrimaryBackupRecords
