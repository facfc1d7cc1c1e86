-- What the limits of a version give, and that both versions keep to them.
pub mod Tens
pub mod Limits
