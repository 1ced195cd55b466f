mod WordBits
mod Flags
mod ChangedWords
