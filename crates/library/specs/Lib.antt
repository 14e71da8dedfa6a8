pub mod Told
pub mod Slots
pub mod Answers
pub mod Decks
pub mod Faults
pub mod Found
pub mod Held
pub mod Sound
