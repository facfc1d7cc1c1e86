-- Laws on the layout: the table of words, and that the points are the text.
pub mod Letters
pub mod Numbers
pub mod LineLists
pub mod Complete
pub mod Reversed
pub mod Sound
pub mod Ends
pub mod Broken
pub mod Prefix
pub mod PrefixStep
pub mod Apart
