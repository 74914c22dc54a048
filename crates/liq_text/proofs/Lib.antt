mod Named
pub mod PieceLaws
pub mod ReadingLaws
pub mod SpellingLaws
mod RequestLaws
mod QueryLaws
pub mod LineLaws
mod FormLaws
pub mod LineLengths
pub mod WritingLaws
mod ReplyLaws
