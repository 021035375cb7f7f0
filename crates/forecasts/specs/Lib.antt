-- What is told before judging.
pub mod Forecast
pub mod Code
