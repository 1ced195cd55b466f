mod Simple
mod Values
mod Named
mod Tables
pub mod OneJob
mod WrittenValues
mod WrittenServing
mod WrittenTools
