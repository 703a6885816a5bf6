-- The opening tasks: their strings, their execves, and the state that they begin with.
pub mod Arguments
pub mod Opening
pub mod Records
