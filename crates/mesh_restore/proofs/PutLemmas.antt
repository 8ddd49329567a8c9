-- A number that is put at a place of an array.
use Rattle.std.proofs.Common.{◌≡◌, ◌≢◌, ℕ, ◌+◌, ◌<◌, List, length, get_or, set, ℤ, pos, sym, ap, subst, ◌∙◌, arith}
use Rattle.std.proofs.lemmas.List.{get_or-set_other, get_or-set_same, length-set}
use Rattle.amr_num.specs.declared.Axis.{Axis}
use Rattle.block_tree.specs.Interior.{array_on}
use Rattle.block_tree.specs.Numbered.{IsNode}
use Rattle.check_format.specs.Own.{Place}
use Rattle.mesh_model.specs.declared.fields.values.Group.{Group}
use Rattle.mesh_model.specs.declared.fields.values.Var.{Var}
use Rattle.mesh_model.specs.Fields.ArrayPlaces.{Extents, IsSize, extents_of, number_at, place_in}
use Rattle.mesh_model.specs.Fields.Arrays.{HasArray, HasVar, array_in, var_length}
use Rattle.mesh_model.specs.Fields.Ranks.{IsFit, WorldState, rank_at, world_with}
use Rattle.mesh_model.specs.Tree.Kinds.{Grid}
use Rattle.mesh_model.proofs.FieldLemmas.BlockPlaces.{place_inside, same_x, same_y, same_z}
use Rattle.mesh_model.proofs.FieldLemmas.Worlds.{has_array, only_of, written_in}
use Rattle.mesh_restore.specs.Filling.{IsPlaceOf, IsPutAt, number_in}
use Rattle.mesh_restore.proofs.PlaceLemmas.{place_within}

module _ (w : WorldState) (group : Group) (a : Axis) (node : ℕ) (p : Place) (inside : IsPlaceOf w.told.grid group a p) (declared : HasVar w.told.counts (array_on group a)) (there : IsNode w.told.grid node) where
  abbrev n : ℕ
  n = w.told.grid.shape.n

  abbrev g : ℕ
  g = w.told.grid.shape.g

  abbrev var : Var
  var = array_on group a

  abbrev e : Extents
  e = extents_of w.told.grid.shape.n w.told.grid.shape.g (array_on group a)

  abbrev at : Place → ℕ
  at q = place_in (extents_of w.told.grid.shape.n w.told.grid.shape.g (array_on group a)) (w.told.grid.shape.g + q.x) (w.told.grid.shape.g + q.y) (w.told.grid.shape.g + q.z)

  abbrev old : List ℤ
  old = array_in (rank_at w 0).own.values (array_on group a) node

  -- two places that are one in the list are one
  one_place : (q : Place) → IsPlaceOf w.told.grid group a q → at q ≡ at p → q ≡ p
  one_place q hq is =
      let i = place_within n g var p.x p.y p.z inside.x inside.y inside.z in
      let h = place_within n g var q.x q.y q.z hq.x hq.y hq.z in
      let x = same_x e (g + q.x) (g + q.y) (g + q.z) (g + p.x) (g + p.y) (g + p.z) h.0 i.0 is in
      let y = same_y e (g + q.x) (g + q.y) (g + q.z) (g + p.x) (g + p.y) (g + p.z) h.0 i.0 h.1 i.1 is in
      let z = same_z e (g + q.x) (g + q.y) (g + q.z) (g + p.x) (g + p.y) (g + p.z) h.0 i.0 h.1 i.1 is in
      let sx : q.x ≡ p.x = omega (arith, x) in
      let sy : q.y ≡ p.y = omega (arith, y) in
      let sz : q.z ≡ p.z = omega (arith, z) in
      λ t. record { x = sx t; y = sy t; z = sz t }

  module _ (size : IsSize n g) (fit : IsFit n g w) (z : ℤ) where
    has : HasArray (rank_at w 0).own.values (array_on group a) node
    has = has_array n g w (array_on group a) node fit there declared

    abbrev new : WorldState
    new = world_with w 0 (array_on group a) node (set old (at p) z)

    long : length (set old (at p) z) ≡ var_length n g (array_on group a)
    long = length-set old (at p) z ∙ fit.whole.each (array_on group a) node has

    is_now : array_in (rank_at new 0).own.values (array_on group a) node ≡ set old (at p) z
    is_now = written_in w (array_on group a) node (set old (at p) z) fit.one n g size fit has long

    pub was_put : IsPutAt w.told.grid group a node p z w (world_with w 0 (array_on group a) node (set old (at p) z))
    was_put = record {
      only = only_of w (array_on group a) node (set old (at p) z) fit.one;
      here =
          let i = place_within n g var p.x p.y p.z inside.x inside.y inside.z in
          ap (λ xs. get_or xs (at p) (pos 0)) is_now
          ∙ get_or-set_same old (at p) z (pos 0) (subst (λ m. at p < m) (sym (fit.whole.each (array_on group a) node has)) (place_inside e (g + p.x) (g + p.y) (g + p.z) i.0 i.1 i.2));
      others = λ q hq apart. ap (λ xs. get_or xs (at q) (pos 0)) is_now ∙ get_or-set_other old (at p) (at q) z (pos 0) (λ same. apart (one_place q hq same));
    }

-- the same in the words of the code
pub put_as : (n g : ℕ) (w : WorldState) (group : Group) (a : Axis) (node : ℕ) (p : Place) (var : Var) (xs : List ℤ) (at : ℕ) (z : ℤ) → IsSize n g → IsFit n g w → IsPlaceOf w.told.grid group a p → HasVar w.told.counts (array_on group a) → IsNode w.told.grid node →
    var ≡ array_on group a → xs ≡ array_in (rank_at w 0).own.values var node → at ≡ place_in (extents_of n g var) (g + p.x) (g + p.y) (g + p.z) → IsPutAt w.told.grid group a node p z w (world_with w 0 var node (set xs at z))
put_as n g w group a node p var xs at z size fit inside declared there is_var is_xs is_at =
    subst (λ u. IsPutAt w.told.grid group a node p z w (world_with w 0 u node (set xs at z))) (sym is_var)
    (subst (λ ys. IsPutAt w.told.grid group a node p z w (world_with w 0 (array_on group a) node (set ys at z))) (sym (is_xs ∙ ap (λ u. array_in (rank_at w 0).own.values u node) is_var))
    (subst (λ q. IsPutAt w.told.grid group a node p z w (world_with w 0 (array_on group a) node (set (array_in (rank_at w 0).own.values (array_on group a) node) q z))) (sym place_is)
    (was_put w group a node p inside declared there sized fit_here z)))
  where
    cells : n ≡ w.told.grid.shape.n
    cells = sym fit.sizes.cells

    guards : g ≡ w.told.grid.shape.g
    guards = sym fit.sizes.guards

    sized : IsSize w.told.grid.shape.n w.told.grid.shape.g
    sized = subst (λ m. IsSize m w.told.grid.shape.g) cells (subst (λ m. IsSize n m) guards size)

    fit_here : IsFit w.told.grid.shape.n w.told.grid.shape.g w
    fit_here = subst (λ m. IsFit m w.told.grid.shape.g w) cells (subst (λ m. IsFit n m w) guards fit)

    place_is : at ≡ place_in (extents_of w.told.grid.shape.n w.told.grid.shape.g (array_on group a)) (w.told.grid.shape.g + p.x) (w.told.grid.shape.g + p.y) (w.told.grid.shape.g + p.z)
    place_is = is_at ∙ ap (λ u. place_in (extents_of n g u) (g + p.x) (g + p.y) (g + p.z)) is_var ∙ (λ i. place_in (extents_of (cells i) (guards i) (array_on group a)) (guards i + p.x) (guards i + p.y) (guards i + p.z))
