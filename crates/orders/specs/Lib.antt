pub mod Laws
pub mod Compartments
pub mod Ladder
pub mod Inclusion
