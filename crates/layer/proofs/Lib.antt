mod Editing
mod Told
