mod Points
mod Working
