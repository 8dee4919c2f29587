pub mod PartlyPlayed
pub mod PlayedScripts
pub mod SourceLemmas
