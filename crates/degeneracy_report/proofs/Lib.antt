mod Fixed
mod Units
mod ZeroLaws
mod StartTerms
mod RowLaws
mod StartSteps
mod StartKeys
mod Reports
pub mod WithinLaws
