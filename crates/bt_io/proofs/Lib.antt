mod Files
mod Readings
