pub mod OrderStatement
