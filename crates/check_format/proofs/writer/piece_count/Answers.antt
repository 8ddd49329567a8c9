use Rattle.std.proofs.Common.{◌≡◌, ℕ, ◌+◌, List, ℤ, ap₂}
use Rattle.block_tree.specs.declared.marks.Marks.{Marks}
use Rattle.check_format.specs.Written.{Numbers, image_pieces}
use Rattle.check_format.specs.Writing.{handed}
use Rattle.check_format.proofs.writer.piece_count.Goals as goal

pub returns : goal.returns
returns c =
    let all : (turn : ℕ) (marks : Marks) (outs : List ℤ) (number : Numbers) → c.head_count.result + (c.cell_count.result + (c.face_count.result + c.edge_count.result)) ≡ (image_pieces (handed turn c.args.tree.now marks c.args.names.now outs number)).count =
    λ turn marks outs number. ap₂ (λ (a b : ℕ). a + b) c.head_count.ensures.value (ap₂ (λ (a b : ℕ). a + b) (c.cell_count.ensures.value outs number) (ap₂ (λ (a b : ℕ). a + b) (c.face_count.ensures.value number) (c.edge_count.ensures.value number))) in
    record { value = all }
