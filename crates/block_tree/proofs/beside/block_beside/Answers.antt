use Rattle.std.proofs.Common.{◌≡◌, ℕ, Bool, Some, None, Option, ap, ap₂, sym, ◌∙◌}
use Rattle.block_tree.specs.Beside.{beside_on}
use Rattle.block_tree.proofs.BlocksBeside.{beside_is}
use Rattle.block_tree.proofs.beside.block_beside.Goals as goal

in_words : (p q high : Bool) (m n x y : ℕ) (r o : Option ℕ) → r ≡ beside_on p high m x → p ≡ q → m ≡ n → x ≡ y → r ≡ o → beside_on q high n y ≡ o
in_words p q high m n x y r o is ep em ex eo = ap₂ (λ u v. beside_on u high v y) (sym ep) (sym em) ∙ ap (beside_on p high m) (sym ex) ∙ sym is ∙ eo

pub returns-in-Some : goal.returns-in-Some
returns-in-Some c =
    ap Some c.block_with.ensures
    ∙ beside_is c.args.shape.now c.args.axis c.args.high c.args.b (Some c.in-Some.coordinate)
    (in_words _ _ c.args.high _ _ _ _ _ _ c.coordinate_beside.ensures c.is_periodic.ensures c.blocks_on-many.ensures c.block_on.ensures c.in-Some.is)

pub returns-in-None : goal.returns-in-None
returns-in-None c =
    beside_is c.args.shape.now c.args.axis c.args.high c.args.b None
    (in_words _ _ c.args.high _ _ _ _ _ _ c.coordinate_beside.ensures c.is_periodic.ensures c.blocks_on-many.ensures c.block_on.ensures c.in-None.is)
