-- The laws behind the root, that it is the nearest (RootNearest) and the library's (MachineRoot), and worked examples.
pub mod Patterns
pub mod RootLaws
pub mod RootFloat
pub mod RootNearest
pub mod MachineRoot
pub mod Examples
