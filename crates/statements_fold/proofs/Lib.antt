-- Laws of the core and of the public call.
pub mod Core
pub mod Returning
