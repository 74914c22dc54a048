mod Loads
mod Told
