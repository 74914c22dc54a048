mod Lists
mod Begun
