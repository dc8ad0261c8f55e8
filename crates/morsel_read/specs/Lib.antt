-- The files of a CSV scan as they are read: what a reader knows of them, and what it reads and gives.
pub mod ReadScans
pub mod ScanReads
pub mod PieceReads
pub mod Seeking
pub mod ReadLaws
