-- By which error the call is refused, and what taking its blocks needs.
pub mod Allocate
