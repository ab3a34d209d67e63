pub mod Cuts
pub mod Exact
pub mod LeafLaws
pub mod Optional
pub mod Lists
pub mod Labels
