mod Few
mod Own
mod Reading
mod Sent
