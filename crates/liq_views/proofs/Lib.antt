mod Keeping
mod Numbers
