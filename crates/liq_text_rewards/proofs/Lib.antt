mod Minutes
mod Following
mod Lines
mod Finding
mod Tagging
