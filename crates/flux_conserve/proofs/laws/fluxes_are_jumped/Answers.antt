use Rattle.std.proofs.Common.{sym, ◌∙◌}
use Rattle.flux_conserve.proofs.Fields.{fluxes_jumped, fluxes_own}
use Rattle.flux_conserve.proofs.laws.fluxes_are_jumped.Goals as goal

pub returns : goal.returns
returns c = record {
  jumped = λ g content n b a i j k valid leaf hi hj hk. fluxes_jumped g content n b a valid leaf i j k hi hj hk;
  held = λ g content n b a numbers valid leaf holds. record {
    at = λ i j k hi hj hk. holds.at i j k hi hj hk ∙ sym (fluxes_jumped g content n b a valid leaf i j k hi hj hk);
  };
  calm = λ g content n b a numbers valid leaf calm holds. record {
    at = λ i j k hi hj hk. holds.at i j k hi hj hk ∙ sym (fluxes_own g content n b a valid leaf calm i j k hi hj hk);
  };
}
