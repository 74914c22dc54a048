mod Back
mod Held
