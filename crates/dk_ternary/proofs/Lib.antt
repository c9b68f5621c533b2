mod Takes
mod Relating
