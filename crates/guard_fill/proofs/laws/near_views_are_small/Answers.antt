use Rattle.std.proofs.Common.{◌^◌, arith}
use Rattle.guard_fill.proofs.NearViews.{near_view_within}
use Rattle.guard_fill.proofs.laws.near_views_are_small.Goals as goal

pub returns : goal.returns
returns c = λ g content b i j k valid small leaf hi hj hk. let all = near_view_within g content (2 ^ 40) b i j k valid small leaf hi hj hk in omega arith
