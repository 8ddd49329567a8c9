-- The steps of a visit, over plain lists.
use Rattle.std.proofs.Common.{◌≡◌, ℕ, suc, ◌+◌, ◌-◌, ◌*◌, ◌/◌, ◌%◌, ◌^◌, ◌<◌, ◌≤◌, inl, inr, Bool, true, false, cond, if◌then◌else◌, nat_lt, List, [], ◌∷◌, ◌++◌, length, get_or, drop, map, reverse, Option, Some, None, refl, sym, ap, ap₂, subst, ◌∙◌, arith, append_assoc, lt-ltb}
use Rattle.std.specs.Option.{option_map}
use Rattle.std.specs.List.{range_with_len}
use Rattle.std.proofs.lemmas.List.{reverse-append, drop_more}
use Rattle.amr_num.specs.declared.BlockAt.{BlockAt}
use Rattle.mesh_model.specs.Geometry.Blocks.{children, child_block}
use Rattle.mesh_model.specs.Tree.Order.{IsIn}
use Rattle.mesh_model.proofs.TreeLemmas.Closure.{from_children}
use Rattle.mesh_model.proofs.TreeLemmas.Tests.{in_either}
use Rattle.morton_key.specs.Keyed.{HasKey}
use Rattle.mesh_model.specs.Tree.Forest.{visited}

pub range_down : (o : ℕ) → o < 8 → (7 - o) ∷ range_with_len (8 - o) o ≡ range_with_len (8 - (o + 1)) (o + 1)
range_down o lt =
    let place : 7 - o ≡ 8 - (o + 1) = omega arith in
    let next : 8 - o ≡ 7 - o + 1 = omega arith in
    let one : suc o ≡ o + 1 = omega arith in
    ap (λ u. (7 - o) ∷ range_with_len u o) next ∙ ap₂ range_with_len place one

module _ (max : ℕ) (front : List BlockAt) (flags : List Bool) (i : ℕ) (lt : i < length flags) (total : Option (List BlockAt)) where
  split : drop i flags ≡ get_or flags i false ∷ drop (i + 1) flags
  split = drop_more flags i false lt

  pub none_left : (pending : List BlockAt) → pending ≡ [] → option_map (λ u. front ++ u) (visited max (drop i flags) (reverse pending)) ≡ total → None ≡ total
  none_left pending e told = sym (ap₂ (λ fs bs. option_map (λ u. front ++ u) (visited max fs (reverse bs))) split e) ∙ told

  shift : (b : BlockAt) (o : Option (List BlockAt)) → option_map (λ u. (front ++ b ∷ []) ++ u) o ≡ option_map (λ u. front ++ u) (option_map (λ u. b ∷ u) o)
  shift b None = refl
  shift b (Some bs) = ap (λ u. Some u) (append_assoc front (b ∷ []) bs)

  module _ (b : BlockAt) (pending rest : List BlockAt) (top : pending ≡ rest ++ b ∷ []) (told : option_map (λ u. front ++ u) (visited max (drop i flags) (reverse pending)) ≡ total) where
    turned : reverse pending ≡ b ∷ reverse rest
    turned = ap reverse top ∙ reverse-append rest (b ∷ [])

    at : (flag : Bool) → get_or flags i false ≡ flag → option_map (λ u. front ++ u) (visited max (flag ∷ drop (i + 1) flags) (b ∷ reverse rest)) ≡ total
    at flag e = sym (ap₂ (λ fs bs. option_map (λ u. front ++ u) (visited max fs bs)) (split ∙ ap (λ u. u ∷ drop (i + 1) flags) e) turned) ∙ told

    pub go_down : get_or flags i false ≡ false → option_map (λ u. (front ++ b ∷ []) ++ u) (visited max (drop (i + 1) flags) (reverse rest)) ≡ total
    go_down e = shift b (visited max (drop (i + 1) flags) (reverse rest)) ∙ at false e

    pub go_up : (more : List BlockAt) → get_or flags i false ≡ true → b.level < max → reverse more ≡ children b ++ reverse rest → option_map (λ u. (front ++ b ∷ []) ++ u) (visited max (drop (i + 1) flags) (reverse more)) ≡ total
    go_up more e deep m =
        let run = visited max (drop (i + 1) flags) (children b ++ reverse rest) in
        ap (λ bs. option_map (λ u. (front ++ b ∷ []) ++ u) (visited max (drop (i + 1) flags) bs)) m
        ∙ shift b run
        ∙ ap (λ t. option_map (λ u. front ++ u) (if t then option_map (λ u. b ∷ u) run else None)) (sym (lt-ltb b.level max deep))
        ∙ at true e

    pub keyed_top : ((c : BlockAt) → IsIn c (reverse pending) → HasKey c) → HasKey b
    keyed_top h = h b (subst (λ u. IsIn b u) (sym turned) (inl refl))

    pub keyed_rest : ((c : BlockAt) → IsIn c (reverse pending) → HasKey c) → (c : BlockAt) → IsIn c (reverse rest) → HasKey c
    keyed_rest h c j = h c (subst (λ u. IsIn c u) (sym turned) (inr j))

half : (x l : ℕ) (d : ℕ) → x < 8 * 2 ^ l → d ≤ 1 → 2 * x + d < 8 * 2 ^ suc l
half x l d h le = let two : 2 ^ suc l ≡ 2 * 2 ^ l = grind arith in omega arith

pub keyed_children : (b : BlockAt) (bs : List BlockAt) → b.level < 10 → HasKey b → ((c : BlockAt) → IsIn c bs → HasKey c) → (c : BlockAt) → IsIn c (children b ++ bs) → HasKey c
keyed_children b bs deep key h c i = elim (in_either c (children b) bs i) [
  | inl j ↦
      let q = from_children b c j in
      subst (λ u. HasKey u) q.2 (record { level = omega arith; x = half b.x b.level (q.0 % 2) key.x (omega arith); y = half b.y b.level (q.0 / 2 % 2) key.y (omega arith); z = half b.z b.level (q.0 / 4 % 2) key.z (omega arith) })
  | inr j ↦ h c j
]

pub started : (front : List BlockAt) (o : Option (List BlockAt)) → front ≡ [] → option_map (λ u. front ++ u) o ≡ o
started front None e = refl
started front (Some bs) e = ap (λ u. Some (u ++ bs)) e
