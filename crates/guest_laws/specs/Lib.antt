pub mod Read
pub mod Known
