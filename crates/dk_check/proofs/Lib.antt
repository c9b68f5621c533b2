mod Asked
mod Claiming
mod Judged
mod Taking
mod VerdictLines
