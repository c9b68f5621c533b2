mod Takes
mod Relating
mod Words
