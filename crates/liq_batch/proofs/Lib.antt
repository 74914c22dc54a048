mod Batching
mod Lining
mod Numbered
mod Ways
