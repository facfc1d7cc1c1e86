-- That the code gives what the specs say.
pub mod ShelfLength
pub mod Numbers
pub mod GoodShelf
pub mod PutRows
pub mod EntriesFound
pub mod JudgeBetween
