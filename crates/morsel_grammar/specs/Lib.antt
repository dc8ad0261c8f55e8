-- The grammar of CSV, the function on lists that reads it, and the laws between the two.
pub mod Dialect
pub mod Grammar
pub mod Cells
pub mod Rows
pub mod Split
pub mod Reading
pub mod Results
pub mod Laws
pub mod GrammarRows
pub mod GrammarResults
pub mod Joined
pub mod OneEnd
pub mod Machine
pub mod Cuts
