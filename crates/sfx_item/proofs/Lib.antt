pub mod ClashLemmas
pub mod NamesAreDecided
pub mod NameLemmas
pub mod RenamedLemmas
