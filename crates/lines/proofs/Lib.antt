pub mod DecimalLaws
pub mod FrontLaws
pub mod LineLaws
pub mod ReadingLaws
pub mod RunLaws
