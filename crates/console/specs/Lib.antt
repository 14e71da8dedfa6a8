pub mod Typed
pub mod Lines
pub mod Text
