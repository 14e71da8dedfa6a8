pub mod Joined
pub mod Additions
pub mod Withheld
pub mod Renamed
pub mod Changed
