mod Adding
mod Sharing
mod Ways
mod Stakers
mod Lines
mod Answered
mod Limits
mod Shares
