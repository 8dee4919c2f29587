pub mod CommitLemmas
pub mod WalkLemmas
pub mod CourseLemmas
pub mod HeadLemmas
pub mod FaultLemmas
pub mod LeavesLemmas
pub mod AnswerLemmas
