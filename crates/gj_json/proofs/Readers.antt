-- What a reader keeps, and that it moves as the machine does.
pub mod LevelWords
pub mod Simulation
pub mod ContentLetters
pub mod NumberUnderWay
pub mod StepsAlike
pub mod ReadBytes
pub mod CallsInTurn
