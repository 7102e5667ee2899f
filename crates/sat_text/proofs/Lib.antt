mod ClimbingLemmas
mod FirstWord
mod Judging
mod Pieces
mod TokenSteps
