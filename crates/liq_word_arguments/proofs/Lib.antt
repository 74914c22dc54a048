mod Asked
mod Found
mod Taken
