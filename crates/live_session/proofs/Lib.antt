pub mod DoorLaws
pub mod TalkLaws
pub mod TurnLaws
pub mod JoinLaws
pub mod MomentLaws
pub mod AfterLaws
