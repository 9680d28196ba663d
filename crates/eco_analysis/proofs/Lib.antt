pub mod SoundLaws
pub mod EditLaws
pub mod CountLaws
