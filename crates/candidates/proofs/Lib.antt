-- That the code finds the first fit list.
pub mod KeptColumns
pub mod Decoding
pub mod CandidateColumns
pub mod FirstFit
