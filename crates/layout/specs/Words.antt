-- "The nine words": old, new, job, done, step, in, out, read, write; and 02's cloth and start; as bytes.
use Rattle.std.specs.Prelude.{List, [], ◌∷◌, ℕ}
use Rattle.layout.specs.declared.Word.{Word}
use Rattle.layout.specs.declared.Word.TheVariants.{Old, New, Job, Done, Step, In, Out, Read, Write, Cloth, Start}

unfoldable pub spelling : Word → List ℕ
spelling Old = 111 ∷ 108 ∷ 100 ∷ []
spelling New = 110 ∷ 101 ∷ 119 ∷ []
spelling Job = 106 ∷ 111 ∷ 98 ∷ []
spelling Done = 100 ∷ 111 ∷ 110 ∷ 101 ∷ []
spelling Step = 115 ∷ 116 ∷ 101 ∷ 112 ∷ []
spelling In = 105 ∷ 110 ∷ []
spelling Out = 111 ∷ 117 ∷ 116 ∷ []
spelling Read = 114 ∷ 101 ∷ 97 ∷ 100 ∷ []
spelling Write = 119 ∷ 114 ∷ 105 ∷ 116 ∷ 101 ∷ []
spelling Cloth = 99 ∷ 108 ∷ 111 ∷ 116 ∷ 104 ∷ []
spelling Start = 115 ∷ 116 ∷ 97 ∷ 114 ∷ 116 ∷ []

-- a word's row in the table
unfoldable pub number_of : Word → ℕ
number_of Old = 0
number_of New = 1
number_of Job = 2
number_of Done = 3
number_of Step = 4
number_of In = 5
number_of Out = 6
number_of Read = 7
number_of Write = 8
number_of Cloth = 9
number_of Start = 10

-- "The nine words are held in one fixed table", and 02's two: six bytes for each, its length and its letters filled up
-- with 0
abbrev pub word_table : List ℕ
word_table = 3 ∷ 111 ∷ 108 ∷ 100 ∷ 0 ∷ 0 ∷ 3 ∷ 110 ∷ 101 ∷ 119 ∷ 0 ∷ 0 ∷ 3 ∷ 106 ∷ 111 ∷ 98 ∷ 0 ∷ 0 ∷ 4 ∷ 100 ∷ 111 ∷ 110
    ∷ 101 ∷ 0 ∷ 4 ∷ 115 ∷ 116 ∷ 101 ∷ 112 ∷ 0 ∷ 2 ∷ 105 ∷ 110 ∷ 0 ∷ 0 ∷ 0 ∷ 3 ∷ 111 ∷ 117 ∷ 116 ∷ 0 ∷ 0 ∷ 4 ∷ 114 ∷ 101
    ∷ 97 ∷ 100 ∷ 0 ∷ 5 ∷ 119 ∷ 114 ∷ 105 ∷ 116 ∷ 101 ∷ 5 ∷ 99 ∷ 108 ∷ 111 ∷ 116 ∷ 104 ∷ 5 ∷ 115 ∷ 116 ∷ 97 ∷ 114
    ∷ 116 ∷ []
