-- Leaves that are found by their contents.
use Rattle.std.proofs.Common.{◌≡◌, ℕ, suc, ◌+◌, ◌<◌, Bool, true, false, List, [], ◌∷◌, length, ℤ, refl, sym, ap, ap₂, ◌∙◌, arith}
use Rattle.std.specs.Prelude.{◌||◌, ◌&&◌, nat_lt, not}
use Rattle.std.proofs.lemmas.Bool.{and_parts, ltb-true}
use Rattle.std.specs.List.{list_any, range_with_len}
use Rattle.amr_num.specs.Numbers.{at}
use Rattle.amr_num.specs.declared.BlockAt.{BlockAt}
use Rattle.amr_num.specs.declared.CellAt.{CellAt}
use Rattle.mesh_model.specs.Fields.ArrayPlaces.{HoldsViews}
use Rattle.mesh_model.specs.Fields.Setting.{has_cell}
use Rattle.mesh_model.specs.Geometry.Places.{in_block, places}
use Rattle.mesh_model.specs.Tree.Kinds.{Grid, is_leaf, is_leaf_block}
use Rattle.mesh_model.specs.Tree.ValidGrid.{Valid}
use Rattle.mesh_model.proofs.FieldLemmas.BlockOctants.{block_of_cell}
use Rattle.mesh_model.proofs.FieldLemmas.CellSums.{view_leaf}
use Rattle.mesh_model.proofs.FieldLemmas.ValidGrid.{leaf_whole}
use Rattle.amr_engine.specs.MarkedWhere.{MayMark, block_has, is_found, is_found_by, passes}
use Rattle.amr_engine.specs.declared.marking.Where.{Where}
use Rattle.amr_engine.specs.declared.marking.Where.TheVariants.{DerefineBelow, RefineAbove}
use Rattle.amr_engine.proofs.Anys.{same_places}

-- a test of a list's numbers by their places
row_from : (p : ℤ → Bool) (xs : List ℤ) (f : ℕ → ℤ) (a : ℕ) → ((i : ℕ) → i < length xs → at xs i ≡ f (a + i)) → list_any p xs ≡ list_any (λ i. p (f i)) (range_with_len a (length xs))
row_from p [] f a h = refl
row_from p (x ∷ xs) f a h =
    ap₂ (λ s t. s || t) (ap p (h 0 (omega arith) ∙ ap f (omega arith))) (row_from p xs f (a + 1) (λ i l. h (suc i) (omega arith) ∙ ap f (omega arith)))

pub row_by_places : (p : ℤ → Bool) (n : ℕ) (row : List ℤ) (numbers : ℕ → ℤ) → length row ≡ n → ((i : ℕ) → i < n → at row i ≡ numbers i) → list_any p row ≡ list_any (λ i. p (numbers i)) (places n)
row_by_places p n row numbers long is =
    row_from p row numbers 0 (λ i h. let zero : i ≡ 0 + i = omega arith in is i (omega (arith, long)) ∙ ap numbers zero) ∙ ap (λ m. list_any (λ i. p (numbers i)) (range_with_len 0 m)) long

-- some number of a leaf decides exactly where some content does
pub decided : (g : Grid) (content : CellAt → ℤ) (b : BlockAt) (numbers : ℕ → ℕ → ℕ → ℤ) (rule : Where) → Valid g → is_leaf_block g b ≡ true → HoldsViews g content b numbers →
    block_has g.shape.n (λ x y z. numbers (g.shape.g + x) (g.shape.g + y) (g.shape.g + z)) rule ≡ has_cell g.shape.n b (λ c. passes rule (content c))
decided g content b numbers rule valid leaf holds =
    let n = g.shape.n in
    same_places _ _ n (λ k hk. same_places _ _ n (λ j hj. same_places _ _ n (λ i hi.
    let c = in_block n b i j k in
    let here : is_leaf g c ≡ true = ap (is_leaf_block g) (block_of_cell n b i j k hi hj hk) ∙ leaf in
    ap (passes rule) (holds.at i j k hi hj hk ∙ view_leaf g content c (leaf_whole g valid c here) here))))

pub found_leaf : (g : Grid) (content : CellAt → ℤ) (b : BlockAt) (rule : Where) (result decides : Bool) → is_leaf_block g b ≡ true → decides ≡ has_cell g.shape.n b (λ c. passes rule (content c)) →
    result ≡ is_found_by g.shape b decides rule → result ≡ is_found g content rule b
found_leaf g content b rule result decides leaf same is =
    is ∙ ap (λ d. is_found_by g.shape b d rule) same ∙ sym (ap (λ t. t && is_found_by g.shape b (has_cell g.shape.n b (λ c. passes rule (content c))) rule) leaf)

pub found_none : (g : Grid) (content : CellAt → ℤ) (b : BlockAt) (rule : Where) → is_leaf_block g b ≡ false → false ≡ is_found g content rule b
found_none g content b rule inner = sym (ap (λ t. t && is_found_by g.shape b (has_cell g.shape.n b (λ c. passes rule (content c))) rule) inner)

-- what is found is a leaf that may get the mark
pub found_leaf_is : (g : Grid) (content : CellAt → ℤ) (rule : Where) (b : BlockAt) → is_found g content rule b ≡ true → is_leaf_block g b ≡ true
found_leaf_is g content rule b h = (and_parts (is_leaf_block g b) (is_found_by g.shape b (has_cell g.shape.n b (λ c. passes rule (content c))) rule) h).0

pub found_may : (g : Grid) (content : CellAt → ℤ) (rule : Where) (b : BlockAt) → is_found g content rule b ≡ true → MayMark g rule b
found_may g content rule b h =
    let both = and_parts (is_leaf_block g b) (is_found_by g.shape b (has_cell g.shape.n b (λ c. passes rule (content c))) rule) h in
    by rule (has_cell g.shape.n b (λ c. passes rule (content c))) both.0 both.1
  where
    by : (rule : Where) (decides : Bool) → is_leaf_block g b ≡ true → is_found_by g.shape b decides rule ≡ true → MayMark g rule b
    by (RefineAbove above) decides leaf f = (leaf, ltb-true _ _ (and_parts (nat_lt b.level g.shape.max) decides f).0)
    by (DerefineBelow below) decides leaf f = (leaf, ltb-true _ _ (and_parts (nat_lt g.shape.min b.level) (not decides) f).0)
