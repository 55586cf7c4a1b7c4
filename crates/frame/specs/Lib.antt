pub mod Distance
pub mod Laying
pub mod Build
pub mod Listed
pub mod Steps
pub mod Images
