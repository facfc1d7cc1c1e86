-- Laws on the lines of a sheet as emitters write them.
pub mod TextsInFront
pub mod InParts
pub mod EachLine
