mod Coming
mod Joined
mod Places
mod Running
