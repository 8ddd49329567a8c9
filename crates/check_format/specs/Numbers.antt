-- The numbers that are read.
use Rattle.std.specs.Prelude.{◌≡◌, ℕ, ℤ, List, length, map}
use Rattle.std.specs.List.{zip}
use Rattle.mesh_model.specs.Images.Codec.{Codec, followed, times}
use Rattle.mesh_model.specs.Images.Reading.{ValueLists, content, out}
use Rattle.check_format.specs.declared.reading.lists.Counts.{Counts}
use Rattle.check_format.specs.declared.reading.lists.Variables.{Variables}
use Rattle.check_format.specs.declared.reading.lists.Values.{Values}

-- what flowed out of a variable, and so many contents
abbrev pub variable : ℕ → Codec (ℤ × List ℤ)
variable count = followed out (λ o. times count content)

-- so many numbers
abbrev pub counted_values : Counts → Codec ValueLists
counted_values c = followed (times c.variables (variable c.cells)) (λ cells. followed (times c.faces content) (λ faces. times c.edges content))

-- what was read
abbrev pub variables_in : Variables → List (ℤ × List ℤ)
variables_in v = zip v.outs.items (map (λ contents. contents.items) v.cells.items)

abbrev pub values_in : Values → ValueLists
values_in v = (variables_in v.variables, (v.faces.items, v.edges.items))

-- there are so many variables
pub record HasVariables (n : ℕ) (v : Variables) : Type 0 where
  pub outs : length v.outs.items ≡ n
  pub cells : length v.cells.items ≡ n
