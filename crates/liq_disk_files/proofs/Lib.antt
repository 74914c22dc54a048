mod Causes
mod Links
mod Moments
mod Openings
