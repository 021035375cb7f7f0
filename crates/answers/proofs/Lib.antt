-- Laws of answers and lent outputs.
pub mod AnswerLaws
