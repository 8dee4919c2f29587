pub mod UnitTests
pub mod SettledValues
pub mod StandardFacts
