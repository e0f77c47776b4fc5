-- What `key` prints for any file.
pub mod Text
pub mod Printed
