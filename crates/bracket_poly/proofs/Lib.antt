pub mod Additions
pub mod Copies
pub mod Degrees
pub mod EntryLaws
pub mod KeyParts
pub mod Makings
pub mod MetKeys
pub mod ProductKeys
pub mod Signs
pub mod Totals
pub mod TrackedLaws
pub mod Within
pub mod ArenaLaws
mod ArenaRows
mod ArenaSteps
mod ArenaCopies
mod HeadLaws
pub mod ArenaOrder
mod OrderLaws
