mod Punches
mod Cells
mod Typing
mod Spelled
