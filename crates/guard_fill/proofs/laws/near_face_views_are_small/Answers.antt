use Rattle.std.proofs.Common.{◌^◌, arith}
use Rattle.guard_fill.proofs.NearFaces.{near_face_view_within}
use Rattle.guard_fill.proofs.laws.near_face_views_are_small.Goals as goal

pub returns : goal.returns
returns c = λ g field a b i j k valid small leaf hi hj hk. let all = near_face_view_within g field (2 ^ 40) a b i j k valid small leaf hi hj hk in omega arith
