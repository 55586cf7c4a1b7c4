pub mod Kick
