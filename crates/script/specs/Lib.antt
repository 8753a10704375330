pub mod Script
pub mod LineAnswers
