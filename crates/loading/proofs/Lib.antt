pub mod Enters
pub mod Injective
pub mod Accepts
pub mod RoundTrip
pub mod Counted
pub mod Named
pub mod Parents
