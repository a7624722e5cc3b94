-- Laws of levels.
mod Floors
