pub mod Numbers
pub mod Pages
pub mod Root
pub mod Damage
pub mod Kinds
