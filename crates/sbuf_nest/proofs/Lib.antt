pub mod MarkLists
pub mod SearchSteps
pub mod ClassRuns
pub mod StrangerRows
