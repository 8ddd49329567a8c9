use Rattle.std.proofs.Common.{◌≡◌, ◌^◌, ◌<◌, ◌≤◌, length, ◌+ℤ◌, true, None, Some, arith, ap, ap₂, sym, subst, ◌∙◌}
use Rattle.std.specs.Prelude.{unsigned_abs}
use Rattle.flux_conserve.specs.Work.{HasNoJump}
use Rattle.mesh_model.specs.Fields.Advect as stepping
use Rattle.mesh_model.specs.Fields.Advect.{three}
use Rattle.mesh_model.specs.Fields.Ranks.{Told}
use Rattle.mesh_model.specs.Tree.Kinds.{Grid}
use Rattle.mesh_steps.specs.Stepping.{IsCalm, out_after}
use Rattle.mesh_steps.proofs.Advected.{out_is}
use Rattle.mesh_steps.proofs.Machine.{kept_128}
use Rattle.mesh_steps.proofs.Ranged.{leaves_in_range}
use Rattle.mesh_steps.proofs.StepMade.{are_fluxed, content_is, flown_is, flown_told, found_is, is_far, is_near, new_of, still_of}
use Rattle.mesh_steps.proofs.advection.advect.Goals as goal

pub settle-requires : goal.settle-requires
settle-requires g c =
    let blown = c.blow.new.world in
    let mesh = c.requires.mesh in
    let old = c.args.world.now in
    let shape = c.shape.ensures.value ∙ ap (λ (h : Grid). h.shape) c.tree.ensures in
    let slow : stepping.keeps_courant old.told.grid.shape (three c.args.speeds) ≡ true = ap (λ s. stepping.keeps_courant s (three c.args.speeds)) (sym shape) ∙ sym c.keeps_courant.ensures ∙ c.if-not-keeps_courant.false in (
      omega arith,
      (
        c.blow.ensures.fit,
        (
          subst (λ (t : Told). c.args.v < t.counts.cells) (sym c.blow.ensures.told) c.requires.variable,
          (
            record {
              content = mesh.mesh.cells c.args.v;
              guarded = c.blow.ensures.guarded (mesh.mesh.cells c.args.v) (mesh.world.contents c.args.v c.requires.variable);
              small = mesh.valid.range.cells c.args.v;
            },
            (
              c.requires.speeds,
              (
                λ none. subst (λ (t : Told). HasNoJump t.grid) (sym c.blow.ensures.told) (subst HasNoJump c.tree-2.ensures (c.has_jump-jumps.ensures.none none)),
                (
                  subst (λ (t : Told). stepping.keeps_courant t.grid.shape (three c.args.speeds) ≡ true) (sym c.blow.ensures.told) slow,
                  (
                    leaves_in_range blown mesh.mesh (c.blow.ensures.meshes mesh.mesh mesh.world) mesh.valid,
                    c.blow.ensures.small,
                  ),
                ),
              ),
            ),
          ),
        ),
      ),
    )

pub returns-in-Err-clause-steps : goal.returns-in-Err-clause-steps
returns-in-Err-clause-steps g c m valid of out_of =
    let old = c.args.world.now in
    let blown = c.blow.new.world in
    let v = c.args.v in
    let speeds = c.args.speeds in
    let shape = c.shape.ensures.value ∙ ap (λ (h : Grid). h.shape) (c.tree.ensures ∙ of.grid) in
    let slow : stepping.keeps_courant m.grid.shape (three speeds) ≡ true = ap (λ s. stepping.keeps_courant s (three speeds)) (sym shape) ∙ sym c.keeps_courant.ensures ∙ c.if-not-keeps_courant.false in
    let stop = c.in-Err.ensures.stop (m.cells v) (are_fluxed old blown v speeds m of c.requires.variable c.blow.ensures.told c.blow.ensures.meshes c.blow.ensures.guarded c.blow.ensures.flows) in
    (slow, found_is old blown v speeds m of c.requires.variable c.blow.ensures.told c.blow.ensures.meshes c.blow.ensures.guarded c.blow.ensures.flows (Some c.in-Err.above.cell) stop.first_is, stop.value_is ∙ content_is old blown v speeds m of c.requires.variable c.blow.ensures.told c.blow.ensures.meshes c.blow.ensures.guarded c.blow.ensures.flows c.in-Err.above.cell, still_of old blown v speeds m of c.requires.variable c.blow.ensures.told c.blow.ensures.meshes c.blow.ensures.guarded c.blow.ensures.flows c.settle.new.world c.settle.ensures.only)

pub returns-then-unsigned_abs-gt-MOST_OUT-clause-steps : goal.returns-then-unsigned_abs-gt-MOST_OUT-clause-steps
returns-then-unsigned_abs-gt-MOST_OUT-clause-steps g c m valid of out_of =
    let old = c.args.world.now in
    let blown = c.blow.new.world in
    let v = c.args.v in
    let speeds = c.args.speeds in
    let shape = c.shape.ensures.value ∙ ap (λ (h : Grid). h.shape) (c.tree.ensures ∙ of.grid) in
    let slow : stepping.keeps_courant m.grid.shape (three speeds) ≡ true = ap (λ s. stepping.keeps_courant s (three speeds)) (sym shape) ∙ sym c.keeps_courant.ensures ∙ c.if-not-keeps_courant.false in
    let fluxed = are_fluxed old blown v speeds m of c.requires.variable c.blow.ensures.told c.blow.ensures.meshes c.blow.ensures.guarded c.blow.ensures.flows in
    let there : v < length m.names.cells = subst (λ k. v < k) of.cells c.requires.variable in
    let calm : IsCalm m v speeds = record { courant = slow; none = found_is old blown v speeds m of c.requires.variable c.blow.ensures.told c.blow.ensures.meshes c.blow.ensures.guarded c.blow.ensures.flows None (c.in-Ok.ensures.none (m.cells v) fluxed) } in
    let sum = kept_128 (kept_128 c.args.out +ℤ kept_128 c.in-Ok.flown) in
    let out : sum ≡ out_after m v speeds =
    flown_told c.args.out c.in-Ok.flown c.requires.out c.in-Ok.ensures.size
    ∙ ap₂ (λ x y. x +ℤ y) out_of (c.in-Ok.ensures.flown (m.cells v) fluxed ∙ flown_is old blown v speeds m of c.requires.variable c.blow.ensures.told c.blow.ensures.meshes c.blow.ensures.guarded c.blow.ensures.flows) ∙ sym (out_is m v speeds valid there) in
    let far : 2 ^ 100 < unsigned_abs sum = subst (λ k. 2 ^ 100 < k) c.unsigned_abs.ensures.value c.if-unsigned_abs-gt-MOST_OUT.true in
    (calm, out, is_far (2 ^ 100) sum far, still_of old blown v speeds m of c.requires.variable c.blow.ensures.told c.blow.ensures.meshes c.blow.ensures.guarded c.blow.ensures.flows c.settle.new.world c.settle.ensures.only)

pub returns-clause-steps : goal.returns-clause-steps
returns-clause-steps g c m valid of out_of =
    let old = c.args.world.now in
    let blown = c.blow.new.world in
    let v = c.args.v in
    let speeds = c.args.speeds in
    let shape = c.shape.ensures.value ∙ ap (λ (h : Grid). h.shape) (c.tree.ensures ∙ of.grid) in
    let slow : stepping.keeps_courant m.grid.shape (three speeds) ≡ true = ap (λ s. stepping.keeps_courant s (three speeds)) (sym shape) ∙ sym c.keeps_courant.ensures ∙ c.if-not-keeps_courant.false in
    let fluxed = are_fluxed old blown v speeds m of c.requires.variable c.blow.ensures.told c.blow.ensures.meshes c.blow.ensures.guarded c.blow.ensures.flows in
    let there : v < length m.names.cells = subst (λ k. v < k) of.cells c.requires.variable in
    let calm : IsCalm m v speeds = record { courant = slow; none = found_is old blown v speeds m of c.requires.variable c.blow.ensures.told c.blow.ensures.meshes c.blow.ensures.guarded c.blow.ensures.flows None (c.in-Ok.ensures.none (m.cells v) fluxed) } in
    let sum = kept_128 (kept_128 c.args.out +ℤ kept_128 c.in-Ok.flown) in
    let out : sum ≡ out_after m v speeds =
    flown_told c.args.out c.in-Ok.flown c.requires.out c.in-Ok.ensures.size
    ∙ ap₂ (λ x y. x +ℤ y) out_of (c.in-Ok.ensures.flown (m.cells v) fluxed ∙ flown_is old blown v speeds m of c.requires.variable c.blow.ensures.told c.blow.ensures.meshes c.blow.ensures.guarded c.blow.ensures.flows) ∙ sym (out_is m v speeds valid there) in
    let near : unsigned_abs sum ≤ 2 ^ 100 = subst (λ k. k ≤ 2 ^ 100) c.unsigned_abs.ensures.value c.if-unsigned_abs-gt-MOST_OUT.false in
    let made = c.in-Ok.ensures.made (m.cells v) fluxed in
    (calm, out, is_near (2 ^ 100) sum near, new_of old blown v speeds m of c.requires.variable c.blow.ensures.told c.blow.ensures.meshes c.blow.ensures.guarded c.blow.ensures.flows c.settle.new.world c.settle.ensures.only c.take_over.new.world c.take_over.ensures.only made c.take_over.ensures.holds)
