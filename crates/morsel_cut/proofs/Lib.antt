-- Lemmas on runs of bytes, on the ends of records and on rows.
pub mod RunLemmas
pub mod PassLemmas
pub mod CuttingLemmas
pub mod SizeLemmas
pub mod BlankLemmas
pub mod RowLemmas
pub mod CountLemmas
pub mod PieceLemmas
pub mod PieceWholeLemmas
pub mod PieceReadLemmas
mod PieceFacts
pub mod LineLemmas
pub mod BitLemmas
pub mod MarkLemmas
pub mod QuoteLemmas
pub mod BlockLemmas
pub mod BlockRunLemmas
pub mod HeadLemmas
