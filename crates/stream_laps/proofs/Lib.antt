pub mod Laps
