use Rattle.std.proofs.Common.{true, lit<}
use Rattle.flux_conserve.proofs.Fields.{named}
use Rattle.flux_conserve.proofs.Worlds.{calm_of, field_after, holds_has, small_tame, tame_small}
use Rattle.flux_conserve.proofs.correcting.correct.Goals as goal

pub correct_arrays-requires : goal.correct_arrays-requires
correct_arrays-requires g c = (lit< tt, (c.requires.fit, (λ a. tt, small_tame true c.args.world.now c.requires.small)))

pub returns : goal.returns
returns g c =
    let old = c.args.world.now in
    let new = c.correct_arrays.new.world in
    let done = c.correct_arrays.ensures in
    record {
      only = done.only;
      fit = done.fit;
      field = λ field holds. field_after true old new done.valid done.only.told field (done.places (named old.told.grid.shape field) (calm_of true old (named old.told.grid.shape field) (holds_has true old field holds)));
      places = λ faces has. done.places faces (calm_of true old faces has);
      small = tame_small true new done.tame;
    }
