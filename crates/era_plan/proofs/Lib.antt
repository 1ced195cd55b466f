pub mod WordNumbers
pub mod LineForms
pub mod Sayable
pub mod StreamSteps
pub mod ReadingSteps
pub mod RefusedLines
pub mod RoundEndings
