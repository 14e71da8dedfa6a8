pub mod Told
pub mod Gathered
pub mod Asked
pub mod Rules
pub mod Bounds
pub mod Overlaps
pub mod Defines
