-- Texts by the numbers of nodes are texts of the list of nodes.
use Rattle.std.proofs.Common.{◌≡◌, ℕ, zero, suc, ◌+◌, ◌<◌, ◌≤◌, Bool, if◌then◌else◌, inl, inr, List, [], ◌∷◌, ◌++◌, Option, subst, length, get_or, take, refl, sym, ap, ap₂, ◌∙◌, arith, append_assoc, append-nil, add-zero, take_all, length-take-le}
use Rattle.std.proofs.Math.Seq.{take-suc}
use Rattle.std.proofs.lemmas.Bool.{cases_Bool}
use Rattle.std.proofs.lemmas.Grind.{flat_map-append}
use Rattle.std.specs.Prelude.{filter, flat_map}
use Rattle.std.specs.List.{range_with_len}
use Rattle.amr_num.specs.declared.BlockAt.{BlockAt}
use Rattle.block_tree.specs.declared.tree.Tree.{Tree}
use Rattle.block_tree.specs.GridOf.{grid_of}
use Rattle.block_tree.specs.Numbered.{block_at}
use Rattle.block_tree.proofs.Facts.{known}
use Rattle.block_tree.proofs.ByNumber.{flat_next, leaves_by_number}
use Rattle.mesh_model.specs.Tree.Order.{nodes}
use Rattle.mesh_model.specs.Tree.Kinds.{Grid, is_leaf_block}
use Rattle.mesh_model.specs.Tree.ValidGrid.{Valid}
use Rattle.mesh_model.specs.Run.TreeText.{node_text, nodes_text}
use Rattle.amr_report.specs.Nodes.{node_line, of_leaf}
use Rattle.amr_report.proofs.Printed.{Broke, Printed, place_broke}

pub leaves_by_node : (tree : Tree) (f : BlockAt → List ℕ) → flat_map (of_leaf (grid_of tree) f) (range_with_len 0 (length (nodes (grid_of tree).leaves))) ≡ flat_map f (grid_of tree).leaves
leaves_by_node tree f = let whole = known tree in leaves_by_number (grid_of tree) whole.valid f

-- the sink failed at one node
pub node_broke : (tree : Tree) (f : BlockAt → List ℕ) (a b c : Option (List ℕ)) (j : ℕ) (before now after : ℕ) → j < length (nodes (grid_of tree).leaves) → Printed a (flat_map (of_leaf (grid_of tree) f) (range_with_len 0 j)) b before now → Broke b (of_leaf (grid_of tree) f j) c now after → Broke a (flat_map f (grid_of tree).leaves) c before after
node_broke tree f a b c j before now after h one two = subst (λ t. Broke a t c before after) (leaves_by_node tree f) (place_broke a b c (of_leaf (grid_of tree) f) j _ before now after h one two)

-- all nodes were looked at
pub nodes_printed : (tree : Tree) (f : BlockAt → List ℕ) (a b : Option (List ℕ)) (j : ℕ) (before now : ℕ) → j ≡ length (nodes (grid_of tree).leaves) → Printed a (flat_map (of_leaf (grid_of tree) f) (range_with_len 0 j)) b before now → Printed a (flat_map f (grid_of tree).leaves) b before now
nodes_printed tree f a b j before now all one = subst (λ t. Printed a t b before now) (ap (λ n. flat_map (of_leaf (grid_of tree) f) (range_with_len 0 n)) all ∙ leaves_by_node tree f) one

-- ---- lines with numbers

lines_push : (g : Grid) (number : ℕ) (bs : List BlockAt) (b : BlockAt) → nodes_text g number (bs ++ b ∷ []) ≡ nodes_text g number bs ++ node_text g (number + length bs) b
lines_push g number [] b = append-nil (node_text g number b) ∙ ap (λ n. node_text g n b) (sym (add-zero number))
lines_push g number (c ∷ bs) b =
    let shift : suc number + length bs ≡ number + suc (length bs) = omega arith in
    ap (λ t. node_text g number c ++ t) (lines_push g (suc number) bs b ∙ ap (λ n. nodes_text g (suc number) bs ++ node_text g n b) shift)
    ∙ sym (append_assoc (node_text g number c) (nodes_text g (suc number) bs) (node_text g (number + suc (length bs)) b))

lines_taken : (g : Grid) (d : BlockAt) (bs : List BlockAt) (n : ℕ) → n ≤ length bs → flat_map (λ p. node_text g p (get_or bs p d)) (range_with_len 0 n) ≡ nodes_text g 0 (take n bs)
lines_taken g d bs zero few = refl
lines_taken g d bs (suc n) few =
    let next : suc n ≡ n + 1 = omega arith in
    let size : 0 + length (take n bs) ≡ n = let e = length-take-le n bs (omega arith) in omega arith in
    ap (λ m. flat_map (λ p. node_text g p (get_or bs p d)) (range_with_len 0 m)) next
    ∙ flat_next (λ p. node_text g p (get_or bs p d)) n
    ∙ ap₂ (λ (a b : List ℕ). a ++ b) (lines_taken g d bs n (omega arith)) (ap (λ m. node_text g m (get_or bs n d)) (sym size))
    ∙ sym (ap (nodes_text g 0) (take-suc bs n d (omega arith)) ∙ lines_push g 0 (take n bs) (get_or bs n d))

-- the lines of all nodes, by their numbers
pub lines_by_node : (g : Grid) → flat_map (node_line g) (range_with_len 0 (length (nodes g.leaves))) ≡ nodes_text g 0 (nodes g.leaves)
unfolding block_at node_line
lines_by_node g =
    lines_taken g (record { level = 0; x = 0; y = 0; z = 0 }) (nodes g.leaves) (length (nodes g.leaves)) (omega arith)
    ∙ ap (nodes_text g 0) (take_all (length (nodes g.leaves)) (nodes g.leaves) (omega arith))

pub line_broke : (g : Grid) (a b c : Option (List ℕ)) (j : ℕ) (before now after : ℕ) → j < length (nodes g.leaves) → Printed a (flat_map (node_line g) (range_with_len 0 j)) b before now → Broke b (node_line g j) c now after → Broke a (nodes_text g 0 (nodes g.leaves)) c before after
line_broke g a b c j before now after h one two = subst (λ t. Broke a t c before after) (lines_by_node g) (place_broke a b c (node_line g) j _ before now after h one two)

pub lines_printed : (g : Grid) (a b : Option (List ℕ)) (j : ℕ) (before now : ℕ) → j ≡ length (nodes g.leaves) → Printed a (flat_map (node_line g) (range_with_len 0 j)) b before now → Printed a (nodes_text g 0 (nodes g.leaves)) b before now
lines_printed g a b j before now all one = subst (λ t. Printed a t b before now) (ap (λ n. flat_map (node_line g) (range_with_len 0 n)) all ∙ lines_by_node g) one
