pub mod BestLaws
pub mod TrialLaws
pub mod SharedLaws
pub mod BestIsGreatest
