mod Takes
mod Points
