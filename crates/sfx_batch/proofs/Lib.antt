pub mod FirstItems
pub mod PickedItems
pub mod ListedIds
pub mod DueBatches
