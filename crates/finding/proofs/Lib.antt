-- Laws on the done names found in both routes.
pub mod ComparedRows
