use Rattle.std.proofs.Common.{◌≡◌, suc, ◌+◌, true, false, Bool, not, ◌&&◌, ◌==◌, ap, ◌∙◌, sym, refl, subst, arith, eq-eqb, ne_eqb}
use Rattle.std.specs.List.{list_all}
use Rattle.amr_num.specs.declared.BlockAt.{BlockAt}
use Rattle.block_tree.specs.GridOf.{grid_of}
use Rattle.block_tree.specs.Numbered.{block_at}
use Rattle.mesh_model.specs.Geometry.Blocks.{children}
use Rattle.mesh_model.specs.Tree.Closure.{is_ready, is_refined}
use Rattle.refine_marks.specs.Flags.{AreFlagsAt, touches_any}
use Rattle.refine_marks.specs.Planned.{marked_by}
use Rattle.refine_marks.proofs.Flagged.{at_level}
use Rattle.refine_marks.proofs.merging.may_merge.Goals as goal
use Rattle.refine_marks.proofs.merging.may_merge.Goals.{then-block-level, else-block-level, then-has_ready_children, else-has_ready_children}

-- three tests and a last one: where one fails the whole fails, and where the three hold the last decides
one_fails : (a b c d : Bool) → a ≡ false → (a && b && c && d) ≡ false
one_fails a b c d h = rw h refl

two_fails : (a b c d : Bool) → b ≡ false → (a && b && c && d) ≡ false
two_fails true b c d h = rw h refl
two_fails false b c d h = refl

three_fails : (a b c d : Bool) → c ≡ false → (a && b && c && d) ≡ false
three_fails true true c d h = rw h refl
three_fails true false c d h = refl
three_fails false b c d h = refl

last_decides : (a b c d : Bool) → a ≡ true → b ≡ true → c ≡ true → (a && b && c && d) ≡ d
last_decides a b c d p q r = rw (p, q, r) refl

clash : (b : Bool) → b ≡ true → b ≡ false → ⊥
clash true p q = cc
clash false p q = cc

pub returns-then-not-touches_flagged : goal.returns-then-not-touches_flagged
returns-then-not-touches_flagged c kept flags =
    let g = grid_of c.args.tree.now in
    let m = marked_by c.args.tree.now c.args.marks.now in
    let p = block_at g c.args.node in
    let l = c.args.level in
    let one : l + 1 ≡ suc l = omega arith in
    let two : l + 2 ≡ suc (suc l) = omega arith in
    let last = ap not (c.touches_flagged-then-not-touches_flagged.ensures kept (subst (λ k. AreFlagsAt g k kept c.args.stays.now) (sym two) flags)
    ∙ ap (λ k. touches_any g kept k c.at-block.result) two ∙ ap (touches_any g kept (suc (suc l))) c.at-block.ensures.value) in
    elim c.if-has_ready_children.branch [
      | then-has_ready_children w ↦ elim c.if-block-level.branch [
        | then-block-level v ↦
            last ∙ sym (last_decides (p.level == l) (list_all (is_ready m) (children p)) (not (touches_any g (is_refined m) (suc l) p)) (not (touches_any g kept (suc (suc l)) p))
            (ap (λ (b : BlockAt). b.level == l) (sym c.at-block.ensures.value) ∙ eq-eqb _ _ v.if-block-level.true)
            (sym v.has_ready_children.ensures ∙ sym v.value-is ∙ w.if-has_ready_children.true)
            (ap not (ap (touches_any g (is_refined m) (suc l)) (sym c.at-block.ensures.value) ∙ ap (λ k. touches_any g (is_refined m) k c.at-block.result) (sym one)
            ∙ sym (w.touches_flagged.ensures (is_refined m) (at_level g (l + 1) (is_refined m) c.args.refine.now c.requires.refine))) ∙ sym w.value-is ∙ c.if-not-touches_flagged.true))
        | else-block-level v ↦ absurd (clash _ w.if-has_ready_children.true (v.value-is ∙ ne_eqb _ _ v.if-block-level.false))
      ]
      | else-has_ready_children w ↦ absurd (clash _ c.if-not-touches_flagged.true (w.value-is ∙ w.if-has_ready_children.false))
    ]

pub returns-else-not-touches_flagged : goal.returns-else-not-touches_flagged
returns-else-not-touches_flagged c kept flags =
    let one : c.args.level + 1 ≡ suc c.args.level = omega arith in
    let g = grid_of c.args.tree.now in
    let m = marked_by c.args.tree.now c.args.marks.now in
    let p = block_at g c.args.node in
    let l = c.args.level in
    elim c.if-has_ready_children.branch [
      | then-has_ready_children w ↦
          c.if-not-touches_flagged.false ∙ sym (three_fails (p.level == l) (list_all (is_ready m) (children p)) (not (touches_any g (is_refined m) (suc l) p)) (not (touches_any g kept (suc (suc l)) p))
          (ap not (ap (touches_any g (is_refined m) (suc l)) (sym c.at-block.ensures.value) ∙ ap (λ k. touches_any g (is_refined m) k c.at-block.result) (sym one)
          ∙ sym (w.touches_flagged.ensures (is_refined m) (at_level g (l + 1) (is_refined m) c.args.refine.now c.requires.refine))) ∙ sym w.value-is ∙ c.if-not-touches_flagged.false))
      | else-has_ready_children w ↦ elim c.if-block-level.branch [
        | then-block-level v ↦
            c.if-not-touches_flagged.false ∙ sym (two_fails (p.level == l) (list_all (is_ready m) (children p)) (not (touches_any g (is_refined m) (suc l) p)) (not (touches_any g kept (suc (suc l)) p))
            (sym v.has_ready_children.ensures ∙ sym v.value-is ∙ w.if-has_ready_children.false))
        | else-block-level v ↦
            c.if-not-touches_flagged.false ∙ sym (one_fails (p.level == l) (list_all (is_ready m) (children p)) (not (touches_any g (is_refined m) (suc l) p)) (not (touches_any g kept (suc (suc l)) p))
            (ap (λ (b : BlockAt). b.level == l) (sym c.at-block.ensures.value) ∙ ne_eqb _ _ v.if-block-level.false))
      ]
    ]
