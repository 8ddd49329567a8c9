-- Marks of which none stands.
use Rattle.std.proofs.Common.{◌≡◌, ℕ, ◌≤◌, false, length, ap, ◌∙◌, sym, subst, List, Bool, replicate}
use Rattle.std.proofs.Math.ListN.{length-replicate}
use Rattle.mesh_model.specs.Tree.Order.{nodes}
use Rattle.mesh_model.specs.Tree.Kinds.{Grid}
use Rattle.block_tree.specs.declared.marks.Marks.{Marks}
use Rattle.block_tree.specs.Marked.{IsMarksOf, IsUnmarked, refine_at, derefine_at}
use Rattle.block_tree.specs.Numbered.{flag_in}
use Rattle.block_tree.proofs.Flags.{set_empty, flag_lowered}

module _ (g : Grid) (marks : Marks) (n k : ℕ) (refine : marks.refine.items ≡ replicate n false) (derefine : marks.derefine.items ≡ replicate k false) where
  pub unmarked : IsUnmarked g marks
  unmarked = record {
    refine = set_empty g (refine_at marks) (λ i. ap (λ (u : List Bool). flag_in u i) refine ∙ flag_lowered n i);
    derefine = set_empty g (derefine_at marks) (λ i. ap (λ (u : List Bool). flag_in u i) derefine ∙ flag_lowered k i);
  }

  pub fits_unmarked : length (nodes g.leaves) ≤ n → IsMarksOf g marks
  fits_unmarked h = record {
    room = subst (λ m. length (nodes g.leaves) ≤ m) (sym (ap (λ (u : List Bool). length u) refine ∙ length-replicate n false)) h;
    fit = record { refine = λ b t. let no = unmarked.refine b in cc; derefine = λ b t. let no = unmarked.derefine b in cc };
  }
