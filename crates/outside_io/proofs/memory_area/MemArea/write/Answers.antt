use Rattle.std.proofs.Common.{◌≡◌, length, ap, sym, subst, arith}
use Rattle.outside_io.specs.Log.{Stands, IsFine}
use Rattle.outside_io.specs.Memory.{AreaState}
use Rattle.outside_io.proofs.Sound.{fine_write}
use Rattle.outside_io.proofs.memory_area.MemArea.write.Goals as goal

pub invariant_of-self : goal.invariant_of-self
invariant_of-self c =
    let is = c.self.invariant in
    let inside = c.self.inside in
    let was : Stands = record { seen = inside.seen.items; pending = record { synced = inside.synced.items; spans = inside.spans.items; least = inside.least; greatest = inside.greatest } } in
    let long : length inside.seen.items ≡ length c.args.self.now.stands.seen = ap (λ (a : AreaState). length a.stands.seen) c.self.view_is in
    let room : inside.room ≡ c.args.self.now.room = ap (λ (a : AreaState). a.room) c.self.view_is in
    let fine = fine_write was inside.seen.items c.args.place c.args.piece.now (omega (arith, c.requires.fits)) is.4 in
    let bytes = sym c.overwrite.ensures.bytes in
    let spans = sym c.add.ensures.added in
    let most = sym c.max-self-inside.ensures in (
      omega arith,
      omega (arith, c.overwrite.ensures.capacity),
      is.2,
      omega (arith, c.add.ensures.capacity),
      subst (λ (s : Stands). IsFine s s.seen) (λ i. record { seen = bytes i; pending = record { synced = inside.synced.items; spans = spans i; least = inside.least; greatest = most i } }) fine,
    )
