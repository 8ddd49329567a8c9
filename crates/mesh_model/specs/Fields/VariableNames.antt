-- The names of a mesh's variables.
use Rattle.std.specs.Prelude.{ℕ, List, [], Option, None}

-- the bytes of the names: the cell variables in declared order, and the face and the edge variable where there is one
pub record VariableNames : Type 0 where
  pub cells : List (List ℕ)
  pub face : Option (List ℕ)
  pub edge : Option (List ℕ)

-- no variable is declared
abbrev pub no_names : VariableNames
no_names = record { cells = []; face = None; edge = None }

-- the most cell variables that a mesh has, and the most bytes that a name has
abbrev pub most_cell_variables : ℕ
most_cell_variables = 4

abbrev pub longest_name : ℕ
longest_name = 16
