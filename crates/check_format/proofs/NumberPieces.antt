-- Which variable's a piece of the numbers is.
use Rattle.std.proofs.Common.{◌≡◌, ℕ, ◌+◌, ◌-◌, ◌<◌, ◌≤◌, true, is_some, List, ℤ, sym, subst, ◌∙◌, arith}
use Rattle.mesh_model.specs.declared.fields.values.Group.TheVariants.{Edge, Face}
use Rattle.mesh_model.specs.Fields.VariableNames.{VariableNames}
use Rattle.mesh_model.specs.Tree.Kinds.{Grid}
use Rattle.check_format.specs.Numbered.{Pieces, ◌then◌}
use Rattle.check_format.specs.Written.{Numbers, cell_pieces, group_pieces, if_declared, number_pieces}
use Rattle.check_format.proofs.Pieces.{declared, in_first, in_second}

module _ (g : Grid) (v : VariableNames) (outs : List ℤ) (number : Numbers) (n : ℕ) where
  abbrev cells : Pieces
  cells = cell_pieces g v outs number

  abbrev faces : Pieces
  faces = if_declared v.face (group_pieces g number Face)

  abbrev edges : Pieces
  edges = if_declared v.edge (group_pieces g number Edge)

  abbrev all : Pieces
  all = number_pieces g v outs number

  -- of a cell variable
  pub of_cells : (a : ℕ) → a ≡ cells.count → n < a → (n < cells.count) × (all.piece n ≡ cells.piece n)
  of_cells a is low =
      let here = subst (λ u. n < u) is low in
      (here, in_first cells (faces then edges) n here)

  abbrev pub OfFaces : ℕ → Type 0
  OfFaces a = (is_some v.face ≡ true) × (n - a < (group_pieces g number Face).count) × (all.piece n ≡ (group_pieces g number Face).piece (n - a))

  -- of the face variable
  pub of_faces : (a b : ℕ) → a ≡ cells.count → b ≡ faces.count → a ≤ n → n - a < b → OfFaces a
  of_faces a b is are past low =
      subst OfFaces (sym is) (
      let here = subst (λ u. n - cells.count < u) are (subst (λ u. n - u < b) is low) in
      let found = declared v.face (group_pieces g number Face) (n - cells.count) here in
      (found.0, found.1, in_second cells (faces then edges) n (subst (λ u. u ≤ n) is past) ∙ in_first faces edges (n - cells.count) here ∙ found.2)
      )

  abbrev pub OfEdges : ℕ → ℕ → Type 0
  OfEdges a b = (is_some v.edge ≡ true) × (n - a - b < (group_pieces g number Edge).count) × (all.piece n ≡ (group_pieces g number Edge).piece (n - a - b))

  -- of the edge variable
  pub of_edges : (a b : ℕ) → a ≡ cells.count → b ≡ faces.count → n < all.count → a ≤ n → b ≤ n - a → OfEdges a b
  of_edges a b is are low past beyond =
      subst (λ u. OfEdges u b) (sym is) (subst (OfEdges cells.count) (sym are) (
      let from = subst (λ u. u ≤ n) is past in
      let next = subst (λ u. u ≤ n - cells.count) are (subst (λ u. b ≤ n - u) is beyond) in
      let here : n - cells.count - faces.count < edges.count = left_over n cells.count faces.count edges.count low from next in
      let found = declared v.edge (group_pieces g number Edge) (n - cells.count - faces.count) here in
      (found.0, found.1, in_second cells (faces then edges) n from ∙ in_second faces edges (n - cells.count) next ∙ found.2)
      ))
    where
      left_over : (n a b d : ℕ) → n < a + (b + d) → a ≤ n → b ≤ n - a → n - a - b < d
      left_over n a b d h i j = omega (arith, h, i, j)
