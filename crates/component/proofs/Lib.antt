pub mod Makings
pub mod KeyLaws
pub mod ComponentLaws
pub mod ConfigurationLaws
pub mod Walks
