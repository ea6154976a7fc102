-- The answers as text; 32 is a space, 41 a closing bracket, 10 the line feed. Assumes nothing.
use Rattle.std.specs.Prelude.{ℕ, ◌*◌, Bool, cond, List, [], ◌∷◌, ◌++◌, map, codes, decimal}
use Rattle.lines.specs.Limits.{max_lines}
use Rattle.search.specs.Search.{Vector}

-- (refused NUMBER PLACE), on a line of its own
abbrev pub refused_text : ℕ → ℕ → List ℕ
refused_text number place = codes "(refused " ++ (decimal number ++ (32 ∷ (decimal place ++ (41 ∷ (10 ∷ [])))))

-- a vector by its digits, input 0 first: 48 is the digit 0, and 49 the digit 1
abbrev pub digit_of : Bool → ℕ
digit_of value = cond value 49 48

abbrev pub vector_text : Vector → List ℕ
vector_text vector = map digit_of vector

-- (worst NAME TICKS VECTOR), on a line of its own
abbrev pub worst_text : List ℕ → ℕ → Vector → List ℕ
worst_text name ticks vector = codes "(worst " ++ (name ++ (32 ∷ (decimal ticks ++ (32 ∷ (vector_text vector ++ (41 ∷ (10 ∷ [])))))))

-- room for one printed form: 8 bytes of a name, 20 digits, 24 inputs, and what stands round them
abbrev pub max_form : ℕ
max_form = 64

-- room for an answer: a form for each line that there can be
abbrev pub max_answer : ℕ
max_answer = max_form * max_lines
