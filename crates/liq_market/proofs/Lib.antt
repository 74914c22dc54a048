mod Few
mod Forking
mod Loading
mod Making
mod Moves
mod Opening
mod Unhinted
mod Unused
