use Rattle.std.proofs.Common.{false, lit<}
use Rattle.flux_conserve.proofs.Fields.{named}
use Rattle.flux_conserve.proofs.Worlds.{calm_of, field_after, holds_has, leaf_calm, small_tame, tame_small}
use Rattle.flux_conserve.proofs.correcting.correct_faces.Goals as goal

pub correct_arrays-requires : goal.correct_arrays-requires
correct_arrays-requires g c = (lit< tt, (c.requires.fit, (λ a. c.requires.declared, small_tame false c.args.world.now c.requires.small)))

pub returns : goal.returns
returns g c =
    let old = c.args.world.now in
    let new = c.correct_arrays.new.world in
    let done = c.correct_arrays.ensures in
    let s = old.told.grid.shape in
    record {
      only = done.only;
      fit = done.fit;
      field = λ field holds. field_after false old new done.valid done.only.told field (done.places (named s field) (calm_of false old (named s field) (holds_has false old field holds)));
      leaf_faces = λ field holds. field_after false old new done.valid done.only.told field (done.places (named s field) (leaf_calm old field done.valid holds));
      places = λ faces has. done.places faces (calm_of false old faces has);
      small = tame_small false new done.tame;
    }
