-- What a call that passes its slot's causes may use.
pub mod Ready
