pub mod WireLaws
pub mod OrderLaws
pub mod SinkLaws
pub mod NetLaws
