use Rattle.std.proofs.Common.{◌≤◌, sym, ap, ◌∙◌, subst, arith, length, List}
use Rattle.amr_num.specs.declared.BlockAt.{BlockAt}
use Rattle.mesh_model.specs.Tree.Order.{IsIn, Sorted}
use Rattle.block_tree.specs.GridOf.{grid_of}
use Rattle.block_tree.specs.Numbered.{block_in}
use Rattle.block_tree.proofs.Facts.{known}
use Rattle.block_tree.proofs.Leaves.{node_inside}
use Rattle.block_tree.proofs.Next.{has_key}
use Rattle.block_tree.proofs.Numbers.{kept_sorted, kept_key, kept_few, kept_number}
use Rattle.block_tree.proofs.tree.Tree.node_at.Goals as goal

pub is_in_domain-requires : goal.is_in_domain-requires
is_in_domain-requires c = (known c.args.self.now).valid.shape

pub returns-then-not-is_in_domain : goal.returns-then-not-is_in_domain
returns-then-not-is_in_domain c = λ i.
    let t = c.args.self.now in
    let inside = c.is_in_domain.ensures.1 (node_inside (grid_of t) (known t).valid c.args.b i) in
    let outside = c.if-not-is_in_domain.true in
    cc

pub place_of-requires-clause-keyed : goal.place_of-requires-clause-keyed
place_of-requires-clause-keyed c = λ b i. kept_key c.args.self.now b (subst (λ u. IsIn b u) c.deref.ensures.value i)

pub place_of-requires-clause-order : goal.place_of-requires-clause-order
place_of-requires-clause-order c = subst (λ u. Sorted u) (sym c.deref.ensures.value) (kept_sorted c.args.self.now)

pub place_of-requires-clause-few : goal.place_of-requires-clause-few
place_of-requires-clause-few c = subst (λ (u : List BlockAt). length u ≤ 8192) (sym c.deref.ensures.value) (kept_few c.args.self.now)

pub place_of-requires-clause-key : goal.place_of-requires-clause-key
place_of-requires-clause-key c =
    has_key c.args.self.now.shape c.args.b (known c.args.self.now).valid.shape (c.is_in_domain.ensures.0 c.if-not-is_in_domain.false)

pub overflow_cast-result : goal.overflow_cast-result
overflow_cast-result c =
    let few = kept_few c.args.self.now in
    let same = ap (λ (u : List BlockAt). length u) c.deref.ensures.value in
    let here = c.in-Some.ensures.0 in
    omega arith

pub returns-in-Some : goal.returns-in-Some
returns-in-Some c =
    let t = c.args.self.now in
    let same = ap (λ (u : List BlockAt). length u) c.deref.ensures.value in
    let here = c.in-Some.ensures.0 in
    kept_number t c.args.b c.in-Some.place (omega arith) (ap (λ u. block_in u c.in-Some.place) (sym c.deref.ensures.value) ∙ c.in-Some.ensures.1)

pub returns-in-None : goal.returns-in-None
returns-in-None c = λ i.
    let t = c.args.self.now in
    c.in-None.ensures (subst (λ u. IsIn c.args.b u) ((known t).whole ∙ sym c.deref.ensures.value) i)
