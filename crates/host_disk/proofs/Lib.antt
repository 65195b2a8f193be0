mod ContentsLemmas
pub mod NotDone
