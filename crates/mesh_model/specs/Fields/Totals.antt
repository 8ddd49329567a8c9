-- Sums over the cells of a level and over the leaf cells, and the total of a variable.
use Rattle.std.specs.Prelude.{ℕ, suc, ◌+◌, ◌*◌, ℤ, pos, ◌+ℤ◌, List, [], ◌∷◌}
use Rattle.amr_num.specs.declared.Axis.TheVariants.{X, Y, Z}
use Rattle.amr_num.specs.declared.BlockAt.{BlockAt}
use Rattle.amr_num.specs.declared.CellAt.{CellAt}
use Rattle.amr_num.specs.Numbers.{sum_below}
use Rattle.mesh_model.specs.declared.geometry.Shape.{Shape}
use Rattle.mesh_model.specs.Geometry.Coordinates.{extent}
use Rattle.mesh_model.specs.Tree.Kinds.{Grid}
use Rattle.mesh_model.specs.Fields.Plain.{on_cells}

-- the sum of f over a box of a by b by c places
unfoldable pub box_sum : ℕ → ℕ → ℕ → (ℕ → ℕ → ℕ → ℤ) → ℤ
box_sum a b c f = sum_below c (λ z. sum_below b (λ y. sum_below a (λ x. f x y z)))

-- the sum of f over the cells of level l in the domain
abbrev pub level_sum : Shape → ℕ → (CellAt → ℤ) → ℤ
level_sum s l f = box_sum (extent s X l) (extent s Y l) (extent s Z l) (λ x y z. f (record { level = l; x = x; y = y; z = z }))

-- the sum of f over the leaf cells
unfoldable pub leaf_sum : Grid → (CellAt → ℤ) → ℤ
leaf_sum g f = sum_below (suc g.shape.max) (λ l. level_sum g.shape l (on_cells g f))

-- the sum of f over the cells of a block
abbrev pub block_sum : ℕ → (CellAt → ℤ) → BlockAt → ℤ
block_sum n f b = box_sum n n n (λ i j k. f (record { level = b.level; x = n * b.x + i; y = n * b.y + j; z = n * b.z + k }))

-- the sum of f over blocks
abbrev pub sum_over : (BlockAt → ℤ) → List BlockAt → ℤ
sum_over f [] = pos 0
sum_over f (b ∷ bs) = f b +ℤ sum_over f bs

-- the total of a cell variable is the sum of its contents over the leaf blocks
abbrev pub total : Grid → (CellAt → ℤ) → ℤ
total g content = sum_over (block_sum g.shape.n content) g.leaves
