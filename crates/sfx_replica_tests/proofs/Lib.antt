pub mod TombstoneCommits
