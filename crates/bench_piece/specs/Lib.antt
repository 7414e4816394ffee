-- What a piece of input does.
pub mod Piece
