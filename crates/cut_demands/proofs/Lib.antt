pub mod FoundNumbers
pub mod CutSurveyed
pub mod Records
pub mod CutOpened
pub mod CutOpenedAt
