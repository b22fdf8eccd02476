mod AppendLaws
pub mod BlockLaws
pub mod FiberMerges
pub mod FewLaws
pub mod FullLaws
mod InPlaceLaws
mod JoinedWords
pub mod Joins
mod Keeping
pub mod Keeps
mod KeptFiber
pub mod MarkedLaws
mod Merges
mod Merging
mod PairLaws
mod ReadBits
pub mod SameEnds
pub mod SamePlaces
mod SparseLaws
mod WriteLaws
