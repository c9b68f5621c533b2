mod Adding
mod Counting
mod Examples
mod Tables
