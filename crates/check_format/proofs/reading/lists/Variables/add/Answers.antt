use Rattle.std.proofs.Common.{◌≡◌, ◌++◌, [], ◌∷◌, List, ℤ, Vec, Global, map, sym, ap, ap₂, ◌∙◌}
use Rattle.std.specs.List.{zip}
use Rattle.std.specs.Int.{w128}
use Rattle.std.proofs.lemmas.Int.{to_z-of_z}
use Rattle.std.proofs.lemmas.List.{length-map, map-append}
use Rattle.check_format.proofs.ReadNumbers.{zip_push}
use Rattle.check_format.proofs.reading.lists.Variables.add.Goals as goal

pub returns-clause-added : goal.returns-clause-added
returns-clause-added c =
    let v = c.args.self.now in
    let items : Vec ℤ Global → List ℤ = λ x. x.items in
    let outs_are = c.in_ok-push.ensures ∙ ap (λ z. v.outs.items ++ z ∷ []) (to_z-of_z w128 c.args.out c.ranges.out) in
    ap₂ (λ (u : List ℤ) (w : List (Vec ℤ Global)). zip u (map items w)) outs_are c.in_ok-push-2.ensures
    ∙ ap (zip (v.outs.items ++ c.args.out ∷ [])) (map-append items v.cells.items (c.args.contents ∷ []))
    ∙ zip_push v.outs.items (map items v.cells.items) c.args.out c.args.contents.items (length-map v.cells.items items ∙ c.requires)
