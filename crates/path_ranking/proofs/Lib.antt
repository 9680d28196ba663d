pub mod FirstLaws
pub mod RankedPaths
