pub mod Told
pub mod Areas
pub mod Lines
pub mod Clashes
pub mod Layout
pub mod Views
pub mod Keys
