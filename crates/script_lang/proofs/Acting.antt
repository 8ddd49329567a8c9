-- What an action names and how great its numbers are.
use Rattle.std.proofs.Common.{◌≡◌, ℕ, ◌^◌, Bool, true, false, ◌==◌, if◌then◌else◌, List, Ok, Err, IsSome, length, codes, bytes_eq, refl, subst}
use Rattle.mesh_model.specs.declared.language.script.Action.{Action}
use Rattle.mesh_model.specs.declared.language.script.Action.TheVariants as action
use Rattle.mesh_model.specs.declared.language.script.Command.{Command}
use Rattle.mesh_model.specs.declared.language.script.Command.TheVariants.{FillAll, FillBox, FaceSet, EdgeSet, Uniform, MarkRefine, MarkDerefine, RefineWhere, DerefineWhere, Regrid, Advect, Curl, Induct, Checkpoint, PrintSize, PrintMesh, PrintTree, PrintRanks, PrintTrace, PrintVar, PrintGuards, Total, NetFlux}
use Rattle.mesh_model.specs.declared.language.script.Declared.{Declared}
use Rattle.mesh_model.specs.declared.language.script.Reason.TheVariants.{BadBox, UnknownWord}
use Rattle.mesh_model.specs.Language.Actions.{fill_all, fill_box, fill, faceset, edgeset, uniform, refine_where, refine_block, derefine_where, derefine_block, mark, advect, induct, print_var, print_one, print_guards, print, total}
use Rattle.mesh_model.specs.Language.Commands.{IsCommandOf}
use Rattle.mesh_model.specs.Language.Forms.{leaf_number, numbers, level, point, block, fixed, axis, cell_variable, variable}
use Rattle.mesh_model.specs.Language.Grammar.{acts, wants_face, wants_edge}
use Rattle.mesh_model.specs.Fields.VariableNames.{VariableNames}
use Rattle.mesh_model.specs.Language.Words.{word}
use Rattle.script_lang.proofs.Ranges.{count_range, named_cell, named_group, small, three_says, place_says, box_says}
use Rattle.script_lang.proofs.Steps.{bound, passed, same_value}

-- the variables that the action wants are there
pub record Has (names : VariableNames) (a : Action) : Type 0 where
  pub face : wants_face a ≡ true → IsSome names.face
  pub edge : wants_edge a ≡ true → IsSome names.edge

fill_all_fits : (d : Declared) (ws : List (List ℕ)) (c : Command) → fill_all d ws ≡ Ok c → IsCommandOf d c
unfolding fill_all
fill_all_fits d ws c h =
    let v = bound (cell_variable d.names (word ws 1)) _ c h in
    let a = bound (fixed (codes "all") (word ws 2)) _ c v.2 in
    let z = bound (leaf_number (word ws 3)) _ c a.2 in
    subst (IsCommandOf d) (same_value (FillAll v.0 z.0) c z.2) (named_cell d.names (word ws 1) v.0 v.1, small (2 ^ 40) (word ws 3) z.0 z.1)

fill_box_fits : (d : Declared) (ws : List (List ℕ)) (c : Command) → fill_box d ws ≡ Ok c → IsCommandOf d c
unfolding fill_box
fill_box_fits d ws c h =
    let v = bound (cell_variable d.names (word ws 1)) _ c h in
    let b = bound (fixed (codes "box") (word ws 2)) _ c v.2 in
    let l = bound (level (word ws 3)) _ c b.2 in
    let low = bound (point ws 4) _ c l.2 in
    let high = bound (point ws 7) _ c low.2 in
    let z = bound (leaf_number (word ws 10)) _ c high.2 in
    let t = passed _ BadBox (FillBox v.0 l.0 low.0 high.0 z.0) c z.2 in
    let deep = (count_range 0 10 (word ws 3) l.0 l.1).1 in
    subst (IsCommandOf d) t.1 (named_cell d.names (word ws 1) v.0 v.1, box_says d.shape l.0 low.0 high.0 deep t.0, small (2 ^ 40) (word ws 10) z.0 z.1)

fill_case : (b : Bool) (d : Declared) (ws : List (List ℕ)) (c : Command) → (if b then fill_all d ws else fill_box d ws) ≡ Ok c → IsCommandOf d c
fill_case true d ws c h = fill_all_fits d ws c h
fill_case false d ws c h = fill_box_fits d ws c h

faceset_fits : (d : Declared) (ws : List (List ℕ)) (c : Command) → IsSome d.names.face → faceset ws ≡ Ok c → IsCommandOf d c
unfolding faceset
faceset_fits d ws c there h =
    let a = bound (axis (word ws 1)) _ c h in
    let b = bound (block ws 2) _ c a.2 in
    let z = bound (leaf_number (word ws 6)) _ c b.2 in
    subst (IsCommandOf d) (same_value (FaceSet (record { axis = a.0; level = b.0.level; x = b.0.x; y = b.0.y; z = b.0.z }) z.0) c z.2) (there, place_says ws 2 b.0 b.1, small (2 ^ 40) (word ws 6) z.0 z.1)

edgeset_fits : (d : Declared) (ws : List (List ℕ)) (c : Command) → IsSome d.names.edge → edgeset ws ≡ Ok c → IsCommandOf d c
unfolding edgeset
edgeset_fits d ws c there h =
    let a = bound (axis (word ws 1)) _ c h in
    let b = bound (block ws 2) _ c a.2 in
    let z = bound (leaf_number (word ws 6)) _ c b.2 in
    subst (IsCommandOf d) (same_value (EdgeSet (record { axis = a.0; level = b.0.level; x = b.0.x; y = b.0.y; z = b.0.z }) z.0) c z.2) (there, place_says ws 2 b.0 b.1, small (2 ^ 40) (word ws 6) z.0 z.1)

refine_where_fits : (d : Declared) (ws : List (List ℕ)) (c : Command) → refine_where d.names ws ≡ Ok c → IsCommandOf d c
unfolding refine_where
refine_where_fits d ws c h =
    let v = bound (cell_variable d.names (word ws 3)) _ c h in
    let a = bound (fixed (codes "above") (word ws 4)) _ c v.2 in
    let z = bound (leaf_number (word ws 5)) _ c a.2 in
    subst (IsCommandOf d) (same_value (RefineWhere v.0 z.0) c z.2) (named_cell d.names (word ws 3) v.0 v.1, small (2 ^ 40) (word ws 5) z.0 z.1)

derefine_where_fits : (d : Declared) (ws : List (List ℕ)) (c : Command) → derefine_where d.names ws ≡ Ok c → IsCommandOf d c
unfolding derefine_where
derefine_where_fits d ws c h =
    let v = bound (cell_variable d.names (word ws 3)) _ c h in
    let a = bound (fixed (codes "below") (word ws 4)) _ c v.2 in
    let z = bound (leaf_number (word ws 5)) _ c a.2 in
    subst (IsCommandOf d) (same_value (DerefineWhere v.0 z.0) c z.2) (named_cell d.names (word ws 3) v.0 v.1, small (2 ^ 40) (word ws 5) z.0 z.1)

refine_block_fits : (d : Declared) (ws : List (List ℕ)) (c : Command) → refine_block ws ≡ Ok c → IsCommandOf d c
unfolding refine_block
refine_block_fits d ws c h = let b = bound (block ws 2) _ c h in subst (IsCommandOf d) (same_value (MarkRefine b.0) c b.2) (place_says ws 2 b.0 b.1)

derefine_block_fits : (d : Declared) (ws : List (List ℕ)) (c : Command) → derefine_block ws ≡ Ok c → IsCommandOf d c
unfolding derefine_block
derefine_block_fits d ws c h = let b = bound (block ws 2) _ c h in subst (IsCommandOf d) (same_value (MarkDerefine b.0) c b.2) (place_says ws 2 b.0 b.1)

mark_case : (refine derefine everywhere : Bool) (d : Declared) (ws : List (List ℕ)) (c : Command) → (if refine then (if everywhere then refine_where d.names ws else refine_block ws) else if derefine then (if everywhere then derefine_where d.names ws else derefine_block ws) else Err UnknownWord) ≡ Ok c → IsCommandOf d c
mark_case true derefine true d ws c h = refine_where_fits d ws c h
mark_case true derefine false d ws c h = refine_block_fits d ws c h
mark_case false true true d ws c h = derefine_where_fits d ws c h
mark_case false true false d ws c h = derefine_block_fits d ws c h
mark_case false false everywhere d ws c h = absurd (cc)

var_fits : (d : Declared) (ws : List (List ℕ)) (c : Command) → print_var d.names ws ≡ Ok c → IsCommandOf d c
unfolding print_var
var_fits d ws c h =
    let g = bound (variable d.names (word ws 1)) _ c h in
    subst (IsCommandOf d) (same_value (PrintVar g.0) c g.2) (named_group d.names (word ws 1) g.0 g.1)

one_case : (size mesh tree ranks trace : Bool) (d : Declared) (ws : List (List ℕ)) (c : Command) → (if size then Ok PrintSize else if mesh then Ok PrintMesh else if tree then Ok PrintTree else if ranks then Ok PrintRanks else if trace then Ok PrintTrace else print_var d.names ws) ≡ Ok c → IsCommandOf d c
one_case true mesh tree ranks trace d ws c h = subst (IsCommandOf d) (same_value PrintSize c h) tt
one_case false true tree ranks trace d ws c h = subst (IsCommandOf d) (same_value PrintMesh c h) tt
one_case false false true ranks trace d ws c h = subst (IsCommandOf d) (same_value PrintTree c h) tt
one_case false false false true trace d ws c h = subst (IsCommandOf d) (same_value PrintRanks c h) tt
one_case false false false false true d ws c h = subst (IsCommandOf d) (same_value PrintTrace c h) tt
one_case false false false false false d ws c h = var_fits d ws c h

guards_fit : (d : Declared) (ws : List (List ℕ)) (c : Command) → print_guards d.names ws ≡ Ok c → IsCommandOf d c
unfolding print_guards
guards_fit d ws c h =
    let f = bound (fixed (codes "guards") (word ws 1)) _ c h in
    let g = bound (variable d.names (word ws 2)) _ c f.2 in
    let b = bound (block ws 3) _ c g.2 in
    subst (IsCommandOf d) (same_value (PrintGuards g.0 b.0) c b.2) (named_group d.names (word ws 2) g.0 g.1, place_says ws 3 b.0 b.1)

one_fits : (d : Declared) (ws : List (List ℕ)) (c : Command) → print_one d.names ws ≡ Ok c → IsCommandOf d c
unfolding print_one
one_fits d ws c h = one_case _ _ _ _ _ d ws c h

print_case : (short : Bool) (d : Declared) (ws : List (List ℕ)) (c : Command) → (if short then print_one d.names ws else print_guards d.names ws) ≡ Ok c → IsCommandOf d c
print_case true d ws c h = one_fits d ws c h
print_case false d ws c h = guards_fit d ws c h

pub acts_fit : (d : Declared) (a : Action) (ws : List (List ℕ)) (c : Command) → Has d.names a → acts d a ws ≡ Ok c → IsCommandOf d c
unfolding acts fill mark print uniform advect induct total
acts_fit d action.Fill ws c has h = fill_case (length ws == 4) d ws c h
acts_fit d action.FaceSet ws c has h = faceset_fits d ws c (has.face refl) h
acts_fit d action.EdgeSet ws c has h = edgeset_fits d ws c (has.edge refl) h
acts_fit d action.Uniform ws c has h =
    let b = bound (numbers (2 ^ 40) ws 1) _ c h in
    subst (IsCommandOf d) (same_value (Uniform b.0) c b.2) (has.face refl, three_says (2 ^ 40) ws 1 b.0 b.1)
acts_fit d action.Mark ws c has h = mark_case (bytes_eq (word ws 1) (codes "refine")) (bytes_eq (word ws 1) (codes "derefine")) (bytes_eq (word ws 2) (codes "where")) d ws c h
acts_fit d action.Regrid ws c has h = subst (IsCommandOf d) (same_value Regrid c h) tt
acts_fit d action.Advect ws c has h =
    let v = bound (cell_variable d.names (word ws 1)) _ c h in
    let n = bound (numbers (2 ^ 20) ws 2) _ c v.2 in
    subst (IsCommandOf d) (same_value (Advect v.0 n.0) c n.2) (named_cell d.names (word ws 1) v.0 v.1, three_says (2 ^ 20) ws 2 n.0 n.1)
acts_fit d action.Curl ws c has h = subst (IsCommandOf d) (same_value Curl c h) (has.face refl, has.edge refl)
acts_fit d action.Induct ws c has h =
    let n = bound (numbers (2 ^ 20) ws 1) _ c h in
    subst (IsCommandOf d) (same_value (Induct n.0) c n.2) (has.face refl, three_says (2 ^ 20) ws 1 n.0 n.1)
acts_fit d action.Checkpoint ws c has h = subst (IsCommandOf d) (same_value Checkpoint c h) tt
acts_fit d action.Print ws c has h = print_case (length ws == 2) d ws c h
acts_fit d action.Total ws c has h =
    let v = bound (cell_variable d.names (word ws 1)) _ c h in
    subst (IsCommandOf d) (same_value (Total v.0) c v.2) (named_cell d.names (word ws 1) v.0 v.1)
acts_fit d action.NetFlux ws c has h = subst (IsCommandOf d) (same_value NetFlux c h) (has.face refl)
