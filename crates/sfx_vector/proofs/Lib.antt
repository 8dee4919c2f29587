pub mod ClocksLemmas
