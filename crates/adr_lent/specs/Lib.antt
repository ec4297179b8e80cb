pub mod Texts
pub mod Lent
pub mod Selections
pub mod Pages
pub mod Picks
pub mod Whole
