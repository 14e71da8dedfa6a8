pub mod Places
mod Stretches
