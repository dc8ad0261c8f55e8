-- Nodes whose units make one load of each that they take.
pub mod MakerNodes
