use Rattle.std.proofs.Common.{◌≡◌, ℕ, ◌+◌, ◌*◌, ◌/◌, ◌%◌, ◌<◌, ◌≤◌, subst, sym, arith, inl, inr}
use Rattle.std.proofs.Math.Nat.{mod-lt}
use Rattle.std.proofs.lemmas.Bool.{cases_lt}
use Rattle.mesh_model.specs.Fields.Ranks.{Told}
use Rattle.mesh_model.proofs.FieldLemmas.BlockPlaces.{above_digit, below_all, digit, quotient_below}
use Rattle.rank_world.specs.Holding.{IsLeafNode}
use Rattle.edge_average.specs.EdgeArrays.{LineHolds}
use Rattle.edge_average.proofs.Worlds.{then_halved}
use Rattle.edge_average.proofs.halving.agree_axis.Goals as goal

pub loop-m-preserved : goal.loop-m-preserved
loop-m-preserved g c =
    let n = g.row.N in
    let many = n + 1 in
    let old = c.args.world.now in
    let now = c.loop-m.world in
    let new = c.agree_line.new.world in
    let before = c.loop-m.invariant.halved in
    let step = c.agree_line.ensures.halved in
    record {
      halved = then_halved c.args.work n g.row.G old now new before step;
      lines = λ field k less holds. elim (cases_lt k c.loop-m.m) [
        | inl earlier ↦ (
            let leaf : IsLeafNode now.told.grid c.args.node = subst (λ (t : Told). IsLeafNode t.grid c.args.node) (sym before.only.told) c.requires.leaf in
            let fits : (q : ℕ) → q ≤ n → q ≤ now.told.grid.shape.n = λ q h. subst (λ (t : Told). q ≤ t.grid.shape.n) (sym before.only.told) (subst (λ m. q ≤ m) (sym c.requires.fit.sizes.cells) h) in
            let rest : k % many < many = mod-lt k (omega arith) in
            let times : k / many < many = quotient_below k many many (omega arith) (let top = c.loop-m-test.true in omega arith) in
            step.keeps field c.args.node c.args.axis (k % many) (k / many) leaf (fits (k % many) (omega arith)) (fits (k / many) (omega arith)) (before.leaf_edges field holds)
            (c.loop-m.invariant.lines field k earlier holds))
        | inr later ↦ (
            let last : k ≡ c.loop-m.m = omega arith in
            subst (λ i. LineHolds c.args.work new field c.args.node c.args.axis (i % many) (i / many)) (sym last) (c.agree_line.ensures.line field (before.leaf_edges field holds)))
      ];
    }

pub returns-clause-lines : goal.returns-clause-lines
returns-clause-lines g c field s t hs ht holds =
    let n = g.row.N in
    let many = n + 1 in
    let first : s < many = omega arith in
    let second : t < many = omega arith in
    let place : s + many * t < many * many = below_all s many t many first second in
    let done = c.loop-m.invariant.lines field (s + many * t) (omega arith) holds in
    subst (λ q. LineHolds c.args.work c.loop-m.world field c.args.node c.args.axis q t) (digit s many t first)
    (subst (λ r. LineHolds c.args.work c.loop-m.world field c.args.node c.args.axis ((s + many * t) % many) r) (above_digit s many t first) done)
