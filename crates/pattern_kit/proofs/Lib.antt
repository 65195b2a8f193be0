pub mod OneMeaning
mod Lengths
mod WordLemmas
mod FrontLengths
mod Lifting
mod PassedPlaces
mod SearchSteps
mod PlainPatterns
