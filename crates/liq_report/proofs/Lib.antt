mod Alike
mod Rows
mod Sending
mod Stands
mod Written
