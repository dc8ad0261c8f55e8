-- The words of the command line, the query that a command asks, and what the program does with it.
pub mod Words
pub mod Results
pub mod QueryFiles
pub mod CommandQueries
pub mod QueryReads
pub mod CommandRuns
pub mod Complete
pub mod Program
