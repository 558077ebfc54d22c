-- What the repeat returns and writes, what holds of it, and what one run of it comes to.
pub mod Answer
pub mod Laws
pub mod Run
