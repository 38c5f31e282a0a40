pub mod Certificates
pub mod Fields
pub mod Layout
pub mod Numbers
pub mod Tables
