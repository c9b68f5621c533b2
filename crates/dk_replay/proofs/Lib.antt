mod Walking
mod Drawing
