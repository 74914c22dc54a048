mod Gains
mod Lines
mod Paying
mod Residual
mod Rows
mod Runs
