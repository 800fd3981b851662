mod Absence
mod Defaults
mod Listed
mod Shown
