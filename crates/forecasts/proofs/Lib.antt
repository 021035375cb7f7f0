-- Laws of forecasts: what is met first, what is told, and that full choices stay below the ceiling.
pub mod ForecastLaws
pub mod TellingLaws
pub mod AlikeLaws
