mod Places
mod Rows
mod Searching
