-- Lemmas on what is before a cursor, on members and on escapes.
pub mod PutLemmas
pub mod MemberLemmas
pub mod EscapeLemmas
pub mod DigitLemmas
