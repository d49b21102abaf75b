pub mod RaftLog
pub mod Raft
pub mod RaftProbes
pub mod RaftRecords
pub mod Reacting
