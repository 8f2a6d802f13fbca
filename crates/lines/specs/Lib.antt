pub mod Text
pub mod Lines
pub mod Reading
pub mod Listing
pub mod ListingLaws
