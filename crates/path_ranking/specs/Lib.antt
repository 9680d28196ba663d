pub mod WalkLists
