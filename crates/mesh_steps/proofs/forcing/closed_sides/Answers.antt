use Rattle.amr_num.specs.declared.Axis.TheVariants.{X, Y, Z}
use Rattle.mesh_steps.proofs.forcing.closed_sides.Goals as goal

pub returns : goal.returns
returns c = record {
  low = elim [
    | X ↦ c.is_closed_low.ensures
    | Y ↦ c.is_closed_low-2.ensures
    | Z ↦ c.is_closed_low-3.ensures
  ];
  high = elim [
    | X ↦ c.is_closed_high.ensures
    | Y ↦ c.is_closed_high-2.ensures
    | Z ↦ c.is_closed_high-3.ensures
  ];
}
