pub mod Options
pub mod FirstViolations
pub mod TermLists
pub mod Rewritings
pub mod TurnLaws
pub mod RunLemmas
pub mod UseLemmas
pub mod NextUses
pub mod SoFar
pub mod Members
pub mod BoundLaws
pub mod ClassLaws
pub mod TurnableLaws
pub mod BoundChecks
mod QueueLaws
pub mod CoverLaws
