pub mod ReadingLaws
pub mod WaitingLaws
pub mod ProgressLaws
