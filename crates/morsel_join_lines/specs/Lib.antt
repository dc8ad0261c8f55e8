-- The nodes and the jobs of the lines of a join, and the tasks of stages.
pub mod TasksOf
pub mod JoinNodes
