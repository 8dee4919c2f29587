pub mod SinkLemmas
pub mod SourceLemmas
pub mod KnownBytesLemmas
pub mod ReadFaults
