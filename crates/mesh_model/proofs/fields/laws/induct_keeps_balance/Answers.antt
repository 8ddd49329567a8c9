use Rattle.std.proofs.Common.{◌∙◌}
use Rattle.mesh_model.specs.Fields.Induct.{leaf_electromotive_force}
use Rattle.mesh_model.proofs.FieldLemmas.Divergence.{circulation_keeps_net}
use Rattle.mesh_model.proofs.FieldLemmas.ValidGrid.{leaf_inside}
use Rattle.mesh_model.proofs.fields.laws.induct_keeps_balance.Goals as goal

pub returns : goal.returns
returns c = record {
  net = λ m n d valid t. circulation_keeps_net m.grid valid.grid m.faces (leaf_electromotive_force m.grid m.faces n) d (leaf_inside m.grid valid.grid d t) t;
  any = λ g faces edges d valid t. circulation_keeps_net g valid faces edges d (leaf_inside g valid d t) t;
  balance = λ m n valid balanced. record { at_leaf = λ d t. circulation_keeps_net m.grid valid.grid m.faces (leaf_electromotive_force m.grid m.faces n) d (leaf_inside m.grid valid.grid d t) t ∙ balanced.at_leaf d t };
}
