pub mod OverLaws
pub mod PutLaws
pub mod DigitLaws
pub mod LineLaws
pub mod LinesMore
