-- What a literal keeps of the bytes that it was given.
pub mod LiteralBytes
pub mod LiteralPieces
pub mod OneDigitMore
pub mod DigitBounds
pub mod LastDigits
pub mod RunsOfDigits
pub mod RunsOfZeros
