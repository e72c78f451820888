mod Cuts
mod Lines
mod Words
