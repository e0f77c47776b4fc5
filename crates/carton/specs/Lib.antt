-- Document 01's carton file.
pub mod Most
pub mod Blocks
pub mod Words
pub mod Heading
pub mod Tables
pub mod Small
pub mod Fitted
pub mod File
