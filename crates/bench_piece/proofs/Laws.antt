-- The bytes kept; a line that was kept, and a piece.
pub mod Keep
pub mod Line
pub mod Piece
