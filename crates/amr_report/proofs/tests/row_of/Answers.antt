use Rattle.std.proofs.Common.{refl, inl, arith}
use Rattle.amr_num.specs.declared.Axis.TheVariants.{X, Y, Z}
use Rattle.amr_report.proofs.tests.row_of.Goals as goal

pub returns-clause-limits : goal.returns-clause-limits
returns-clause-limits c = record {
  rx = c.requires.some;
  ry = omega arith;
  rz = omega arith;
  few_x = c.requires.few;
  few_y = omega arith;
  few_z = omega arith;
  cells = inl refl;
  guards = inl refl;
  min = omega arith;
  max = omega arith;
  six = refl;
  both = elim [ X ↦ refl | Y ↦ refl | Z ↦ refl ];
}
