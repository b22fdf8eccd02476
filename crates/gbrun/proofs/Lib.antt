mod CommandLines
mod Endings
mod Faults
mod Seeds
