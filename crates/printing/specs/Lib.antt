pub mod Printed
pub mod Numbers
