pub mod Fault
pub mod Source
pub mod Sink
pub mod MemorySource
pub mod MemorySink
pub mod StdSource
pub mod StdSink
