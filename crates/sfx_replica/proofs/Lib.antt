pub mod UnseenItems
pub mod LiveLemmas
pub mod RefusalsLemmas
pub mod EditsKeepConsistency
pub mod EditsLemmas
pub mod ClashingItems
pub mod CountedCalls
