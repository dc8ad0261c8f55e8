-- What is seen of several lanes, and of lanes that are merged by the order of what they carry.
pub mod Ends
pub mod Merging
pub mod Got
pub mod Log
pub mod Boards
pub mod Spread
