mod Common
mod Runs
mod Walks
mod LinesRead
mod JoinedTexts
