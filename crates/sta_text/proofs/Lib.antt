pub mod TokensLemmas
pub mod OrderLemmas
pub mod NamesLemmas
pub mod PlacesLemmas
pub mod FaultsLemmas
pub mod DistinctLemmas
pub mod DecimalLemmas
