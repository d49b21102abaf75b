pub mod TwoPhase
pub mod TwoPhaseRecords
