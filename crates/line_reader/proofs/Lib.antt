-- Laws on one line: its text by tokens, its form, its rows.
pub mod LineTexts
pub mod LineTokens
pub mod LineForm
pub mod RowForms
