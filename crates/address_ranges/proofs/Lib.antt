pub mod Places
mod Ascending
mod Steps
