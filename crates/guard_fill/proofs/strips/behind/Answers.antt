use Rattle.std.proofs.Common.{◌≡◌, ◌+◌, ◌-◌, arith, subst, sym}
use Rattle.guard_fill.specs.Strips.{IsReach}
use Rattle.guard_fill.proofs.AxisStrips.{behind_other, behind_same, cells_least, reach_behind}
use Rattle.guard_fill.proofs.strips.behind.Goals as goal

pub returns-in-Some : goal.returns-in-Some
returns-in-Some c =
    let own = c.own_places-own.result in
    let far : 0 + (own - c.args.n) ≡ own - c.args.n = omega arith in
    subst (λ f. IsReach c.args.n c.args.g c.args.positions c.args.periodic c.args.blocks c.args.block 2 (record { to = c.args.g + own; many = c.args.g; block = c.in-Some.other; first = f; step = 1 })) far
    (reach_behind c.args.n c.args.g c.args.positions c.args.periodic c.args.blocks c.args.block own c.in-Some.other 0 1 c.requires.size c.requires.block c.own_places-own.ensures.value
    (behind_other c.args.n c.args.g c.args.periodic c.args.blocks c.args.block c.in-Some.other c.requires.size c.requires.block (sym c.in-Some.ensures)))

pub returns-in-None : goal.returns-in-None
returns-in-None c =
    let own = c.own_places-own.result in
    let least = cells_least c.requires.size in
    let far : c.args.n - 1 + (own - c.args.n) ≡ own - 1 = (let more = c.own_places-own.ensures.least in omega arith) in
    subst (λ f. IsReach c.args.n c.args.g c.args.positions c.args.periodic c.args.blocks c.args.block 2 (record { to = c.args.g + own; many = c.args.g; block = c.args.block; first = f; step = 0 })) far
    (reach_behind c.args.n c.args.g c.args.positions c.args.periodic c.args.blocks c.args.block own c.args.block (c.args.n - 1) 0 c.requires.size c.requires.block c.own_places-own.ensures.value
    (behind_same c.args.n c.args.g c.args.periodic c.args.blocks c.args.block c.requires.size c.requires.block (sym c.in-None.ensures)))
