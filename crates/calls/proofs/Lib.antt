mod Each
mod Done
