pub mod TravelLemmas
pub mod NoTickDrawn
pub mod ModeTests
pub mod RefusalsLemmas
pub mod SessionsAct
pub mod FaultLemmas
