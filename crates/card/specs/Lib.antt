pub mod Numbers
pub mod Names
pub mod Told
pub mod Shown
pub mod Kinds
pub mod Items
pub mod Contents
