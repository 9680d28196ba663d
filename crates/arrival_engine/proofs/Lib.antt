mod BeforeLaws
mod CalmNodes
mod CarriedLaws
mod FineRows
mod ForwardCone
mod ListingLaws
mod PassLaws
mod PlanLaws
pub mod RenewLaws
mod TurnLaws
pub mod UpdateEnds
pub mod UpdateLaws
mod UpdatedLaws
mod MovedLaws
