-- Laws of the faults of CSV files, and of groups.
pub mod FileFaults
pub mod GroupFaults
