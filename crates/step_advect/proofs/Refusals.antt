-- The first of a block's cells that is refused is the mesh's.
use Rattle.std.proofs.Common.{◌≡◌, ℕ, ◌<◌, Bool, true, false, List, ℤ, pos, Some, None, refl, sym, ap, ◌∙◌}
use Rattle.std.specs.Prelude.{if◌then◌else◌, unwrap_or}
use Rattle.std.specs.Option.{option_map}
use Rattle.amr_num.specs.Numbers.{number_range}
use Rattle.amr_num.specs.declared.Axis.TheVariants.{X}
use Rattle.amr_num.specs.declared.BlockAt.{BlockAt}
use Rattle.amr_num.specs.declared.CellAt.{CellAt}
use Rattle.mesh_model.specs.Geometry.Places.{in_block}
use Rattle.mesh_model.specs.Tree.Kinds.{Grid}
use Rattle.mesh_model.specs.Tree.ValidGrid.{Valid}
use Rattle.mesh_model.specs.Fields.Advect.{Speeds, advected}
use Rattle.mesh_model.specs.Fields.Firsts.{first_in_box}
use Rattle.mesh_model.specs.Fields.RangeWalk.{is_above}
use Rattle.mesh_model.proofs.FieldLemmas.FirstFound.{box_mapped, box_same, found_in_box}
use Rattle.step_advect.specs.declared.update.RangeAt.{RangeAt}
use Rattle.step_advect.specs.Applied.{AreInRange, first_out, flows_in, left_at, range_at}
use Rattle.step_advect.specs.Lifts.{HoldsFlows, first_above}
use Rattle.step_advect.proofs.Nets.{left_advected}
use Rattle.step_advect.proofs.Ranges.{none_out}

if_mapped : {A B : Type 0} (f : A → B) (p : Bool) (x : A) → option_map f (if p then Some x else None) ≡ (if p then Some (f x) else None)
if_mapped f true x = refl
if_mapped f false x = refl

-- the first of a block's cells that is out of range, told in some way by its place
first_as : {B : Type 0} (n : ℕ) (cells : ℕ → ℕ → ℕ → ℤ) (f : RangeAt → B) (from : ℕ → ℕ → ℕ → B) →
    ((i j k : ℕ) → i < n → j < n → k < n → f (record { axis = X; i = i; j = j; k = k; value = cells i j k }) ≡ from i j k) →
    option_map f (first_out n cells) ≡ first_in_box n (λ i j k. if is_above number_range (cells i j k) then Some (from i j k) else None)
first_as n cells f from same =
    box_mapped f n (range_at cells)
    ∙ box_same n (λ i j k. option_map f (range_at cells i j k)) (λ i j k. if is_above number_range (cells i j k) then Some (from i j k) else None)
    (λ i j k hi hj hk.
    if_mapped f (is_above number_range (cells i j k)) (record { axis = X; i = i; j = j; k = k; value = cells i j k })
    ∙ ap (λ x. if is_above number_range (cells i j k) then Some x else None) (same i j k hi hj hk))

module _ (g : Grid) (content : CellAt → ℤ) (n : Speeds) (b : BlockAt) (cells fx fy fz : List ℤ) (valid : Valid g) (holds : HoldsFlows g content n b cells fx fy fz) where
  abbrev left : ℕ → ℕ → ℕ → ℤ
  left = left_at (flows_in g.shape.n g.shape.g cells fx fy fz)

  abbrev cell_of : RangeAt → CellAt
  cell_of at = in_block g.shape.n b at.i at.j at.k

  left_is : (i j k : ℕ) → i < g.shape.n → j < g.shape.n → k < g.shape.n → left i j k ≡ advected g content n (in_block g.shape.n b i j k)
  left_is = left_advected g content n b cells fx fy fz valid holds

  cells_are : option_map cell_of (first_out g.shape.n left) ≡ first_above g content n b
  cells_are =
      first_as g.shape.n left cell_of (in_block g.shape.n b) (λ i j k hi hj hk. refl)
      ∙ box_same g.shape.n (λ i j k. if is_above number_range (left i j k) then Some (in_block g.shape.n b i j k) else None)
      (λ i j k. if is_above number_range (advected g content n (in_block g.shape.n b i j k)) then Some (in_block g.shape.n b i j k) else None)
      (λ i j k hi hj hk. ap (λ (v : ℤ). if is_above number_range v then Some (in_block g.shape.n b i j k) else None) (left_is i j k hi hj hk))
      ∙ sym (found_in_box (λ d. is_above number_range (advected g content n d)) (in_block g.shape.n b) g.shape.n)

  values_are : option_map (λ (at : RangeAt). at.value) (first_out g.shape.n left) ≡ option_map (λ (at : RangeAt). advected g content n (cell_of at)) (first_out g.shape.n left)
  values_are =
      first_as g.shape.n left (λ (at : RangeAt). at.value) left (λ i j k hi hj hk. refl)
      ∙ sym (first_as g.shape.n left (λ (at : RangeAt). advected g content n (cell_of at)) left (λ i j k hi hj hk. sym (left_is i j k hi hj hk)))

  pub refused_first : (at : RangeAt) → first_out g.shape.n left ≡ Some at → (first_above g content n b ≡ Some (cell_of at)) × (at.value ≡ advected g content n (cell_of at))
  refused_first at is =
      let found = ap (option_map (λ (at : RangeAt). at.value)) (sym is) ∙ values_are ∙ ap (option_map (λ (at : RangeAt). advected g content n (cell_of at))) is in
      (sym cells_are ∙ ap (option_map cell_of) is, ap (λ o. unwrap_or o (pos 0)) found)

  pub none_refused : AreInRange g.shape.n left → first_above g content n b ≡ None
  none_refused within = sym cells_are ∙ ap (option_map cell_of) (none_out g.shape.n left within)
