-- The run of a job on its old route.
pub mod Run
