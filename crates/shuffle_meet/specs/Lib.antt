pub mod Stops
pub mod Seen
pub mod Adding
pub mod Sizes
pub mod Objects
pub mod SectionStarts
