pub mod AnswerLine
pub mod WithinOutput
