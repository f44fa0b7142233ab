mod Placed
mod Moved
