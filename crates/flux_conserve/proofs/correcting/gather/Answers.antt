use Rattle.std.proofs.Common.{◌≡◌, ℕ, ◌+◌, ◌*◌, ◌/◌, ◌%◌, ◌^◌, ◌<◌, ◌≤◌, ap, ap₂, subst, sym, ◌∙◌, arith, inl, inr}
use Rattle.std.proofs.Math.Nat.{mul-le-mul_left}
use Rattle.std.proofs.lemmas.Bool.{cases_lt}
use Rattle.amr_num.specs.Numbers.{Within, at}
use Rattle.mesh_model.specs.Tree.Kinds.{Grid}
use Rattle.mesh_model.specs.Tree.ValidGrid.{Valid}
use Rattle.mesh_model.proofs.FieldLemmas.BlockPlaces.{quotient_below}
use Rattle.mesh_model.proofs.GeometryLemmas.Halves.{rest_below}
use Rattle.block_tree.proofs.Facts.{known}
use Rattle.block_tree.specs.Numbered.{IsNumberOf, block_at}
use Rattle.flux_conserve.specs.Jumps.{quarter_at, quarter_sum}
use Rattle.mesh_model.specs.Geometry.Blocks.{child_block}
use Rattle.flux_conserve.specs.Sums.{quarter_size}
use Rattle.flux_conserve.proofs.Taking.{four_near, quarter_less, rest_first, rest_less, rest_second, sizes}
use Rattle.flux_conserve.proofs.correcting.gather.Goals as goal

-- a place of an earlier quarter stands before
before : (h q m k : ℕ) → q < k → m < h → h * q + m < h * k
before h q m k hq hm = let next : h * (q + 1) ≤ h * k = mul-le-mul_left h (omega arith) in omega arith

pub loop-quarter-preserved : goal.loop-quarter-preserved
loop-quarter-preserved g c =
    let n = g.row.N in
    let half = n / 2 in
    let w = c.args.world.now in
    let k = c.loop-quarter.quarter in
    let row = c.sum_child.ensures.row in
    let valid : Valid w.told.grid = subst Valid c.tree-tree.ensures (known c.tree-tree.result.now).valid in
    let size = (sizes n g.row.G w.told.grid.shape c.requires.fit.sizes valid.shape).cells in
    let found : IsNumberOf w.told.grid (child_block (block_at w.told.grid c.args.beside) c.octant_in.result) c.in-Some.child =
    subst (λ (h : Grid). IsNumberOf h (child_block (block_at h c.args.beside) c.octant_in.result) c.in-Some.child) c.tree-tree.ensures c.in-Some.ensures.1 in
    let number = subst (λ o. IsNumberOf w.told.grid (child_block (block_at w.told.grid c.args.beside) o) c.in-Some.child) c.octant_in.ensures.value found in
    record {
      sums = λ faces near q m hq hm. elim (cases_lt q k) [
        | inl less ↦ row.below (quarter_size n * q + m) (before (quarter_size n) q m k less hm) ∙ c.loop-quarter.invariant.sums faces near q m less hm
        | inr more ↦ (
            let last : q ≡ k = omega arith in
            ap (λ u. at c.sum_child.new.sums (quarter_size n * u + m)) last ∙ row.here m hm
            ∙ four_near c.args.work n g.row.G w c.args.axis c.args.high c.args.beside k c.in-Some.child (m % half) (m / half) faces c.requires.fit.sizes near c.loop-quarter-test.true number size (rest_below n m size)
            (quotient_below m half half (omega arith) hm)
            ∙ ap (λ u. quarter_sum n faces c.args.axis c.args.high (block_at w.told.grid c.args.beside) u (m % half) (m / half)) (sym last))
      ];
      within = λ q m hq hm. elim (cases_lt q k) [
        | inl less ↦ subst (Within (2 ^ 58)) (sym (row.below (quarter_size n * q + m) (before (quarter_size n) q m k less hm))) (c.loop-quarter.invariant.within q m less hm)
        | inr more ↦ (
            let last : q ≡ k = omega arith in
            subst (λ u. Within (2 ^ 58) (at c.sum_child.new.sums (quarter_size n * u + m))) (sym last) (c.sum_child.ensures.within m hm))
      ];
    }

pub returns : goal.returns
returns g c =
    let n = g.row.N in
    let half = n / 2 in
    let w = c.args.world.now in
    let valid : Valid w.told.grid = subst Valid c.tree-tree.ensures (known c.tree-tree.result.now).valid in
    let size = (sizes n g.row.G w.told.grid.shape c.requires.fit.sizes valid.shape).cells in
    record {
      sums = λ faces near s t hs ht.
          let less = quarter_less n s t size hs ht in
          c.loop-quarter.invariant.sums faces near (quarter_at n s t) (s % half + half * (t % half)) (omega arith) (rest_less n s t size hs ht)
          ∙ ap₂ (λ u v. quarter_sum n faces c.args.axis c.args.high (block_at w.told.grid c.args.beside) (quarter_at n s t) u v) (rest_first n s t size hs ht) (rest_second n s t size hs ht);
      within = λ s t hs ht.
          let less = quarter_less n s t size hs ht in
          c.loop-quarter.invariant.within (quarter_at n s t) (s % half + half * (t % half)) (omega arith) (rest_less n s t size hs ht);
    }
