use Rattle.std.proofs.Common.{◌≡◌, ℕ, ◌+◌, ◌++◌, List, [], ◌∷◌, Vec, Global, sym, ap, ◌∙◌, subst, arith}
use Rattle.std.specs.Prelude.{flat_map}
use Rattle.std.specs.List.{range_with_len}
use Rattle.std.proofs.lemmas.List.{append-nil}
use Rattle.amr_num.specs.declared.BlockAt.{BlockAt}
use Rattle.mesh_model.specs.Tree.Start.{root_at, root_there, start_leaves}
use Rattle.mesh_model.specs.Geometry.Blocks.{InDomain}
use Rattle.block_tree.proofs.Counting.{flat_more}
use Rattle.block_tree.proofs.Rooted.{root_stands, root_lacks}
use Rattle.block_tree.proofs.places.root_blocks.Goals as goal
use Rattle.block_tree.proofs.places.root_blocks.Goals.{then-is_in_domain+in_ok-push, else-is_in_domain}

pub loop-place-preserved : goal.loop-place-preserved
loop-place-preserved c =
    let s = c.args.shape.now in
    let place = c.loop-place.place in
    let f : ℕ → List BlockAt = λ m. root_there s (root_at m) in
    let so_far = flat_map f (range_with_len 0 place) in
    let more : c.loop-place.roots.items ++ f place ≡ flat_map f (range_with_len 0 (place + 1)) = ap (λ u. u ++ f place) c.loop-place.invariant ∙ sym (flat_more f place) in
    elim c.if-is_in_domain.branch [
      | then-is_in_domain+in_ok-push w ↦
          let inside = subst (λ u. InDomain s u) c.root_at-root.ensures (c.is_in_domain.ensures.0 w.if-is_in_domain.true) in
          ap (λ (v : Vec BlockAt Global). v.items) w.roots-is
          ∙ w.in_ok-push.ensures
          ∙ ap (λ u. c.loop-place.roots.items ++ u ∷ []) c.root_at-root.ensures
          ∙ ap (λ u. c.loop-place.roots.items ++ u) (sym (root_stands s place inside))
          ∙ more
      | else-is_in_domain w ↦
          let outside : InDomain s (root_at place) → ⊥ = λ d. let inside = c.is_in_domain.ensures.1 (subst (λ u. InDomain s u) (sym c.root_at-root.ensures) d) in let other = w.if-is_in_domain.false in cc in
          ap (λ (v : Vec BlockAt Global). v.items) w.roots-is
          ∙ sym (append-nil c.loop-place.roots.items)
          ∙ ap (λ u. c.loop-place.roots.items ++ u) (sym (root_lacks s place outside))
          ∙ more
    ]

pub returns : goal.returns
unfolding start_leaves
returns c =
    let s = c.args.shape.now in
    let end = c.loop-place-test.false in
    let last = c.loop-place.auto.place-end in
    let all : c.loop-place.place ≡ 512 = omega arith in
    subst (λ n. c.loop-place.roots.items ≡ flat_map (λ m. root_there s (root_at m)) (range_with_len 0 n)) all c.loop-place.invariant
