-- Each call: what its causes come to, one after the other, and its effect.
pub mod Format
pub mod Open
