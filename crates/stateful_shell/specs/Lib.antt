-- What contracts speak of.
pub mod Printed
pub mod Words
