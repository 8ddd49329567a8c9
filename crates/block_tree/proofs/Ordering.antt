-- Lists of blocks of which each ends where or before the next begins, and what splitting one block makes of them.
use Rattle.std.proofs.Common.{◌≡◌, ℕ, zero, suc, ◌+◌, ◌-◌, ◌*◌, ◌/◌, ◌%◌, ◌^◌, ◌<◌, ◌≤◌, ◌==◌, Bool, true, false, ◌&&◌, ◌⊎◌, nat_lt, refl, sym, ap, ap₂, subst, ◌∙◌, arith, inl, inr, List, [], ◌∷◌, ◌++◌, map}
use Rattle.std.specs.Prelude.{flat_map}
use Rattle.std.proofs.Math.Nat.{mul-le-mul_right}
use Rattle.std.proofs.lemmas.Bool.{cases_Bool, cases_lt}
use Rattle.std.proofs.lemmas.List.Concat.{flat_map-append}
use Rattle.amr_num.specs.declared.BlockAt.{BlockAt}
use Rattle.mesh_model.specs.declared.geometry.Shape.{Shape}
use Rattle.mesh_model.specs.Geometry.Blocks.{child_block, parent_block, children}
use Rattle.mesh_model.specs.Tree.Order.{IsIn, Sorted, key, morton}
use Rattle.mesh_model.specs.Tree.Kinds.{Grid}
use Rattle.mesh_model.specs.Tree.Regrown.{leaves_for, regrown}
use Rattle.mesh_model.specs.Geometry.Blocks.{is_same_block}
use Rattle.mesh_model.specs.Geometry.Blocks.{LiesIn, InDomain}
use Rattle.mesh_model.specs.Tree.ValidGrid.{Tiles}
use Rattle.mesh_model.proofs.TreeLemmas.Closure.{from_children}
use Rattle.mesh_model.proofs.TreeLemmas.Regrown.{Fit, place_refined, place_kept, alone_test, regrown_tiles}
use Rattle.mesh_model.proofs.TreeLemmas.Sorting.{Rising, from_octants, morton_child, next_stretch, octants_rise, one_more, span, span_pos, spans}
use Rattle.mesh_model.proofs.TreeLemmas.Tests.{in_left, in_right, in_either, refuted}
use Rattle.block_tree.proofs.Flags.{same_says, same_shows}

-- b ends where or before c begins
abbrev pub Ends : BlockAt → BlockAt → Type 0
Ends b c = morton b + span b.level ≤ morton c

abbrev pub Ordered : List BlockAt → Type 0
Ordered [] = Unit
Ordered (b ∷ bs) = ((c : BlockAt) → IsIn c bs → Ends b c) × Ordered bs

pub ordered_append : (xs ys : List BlockAt) → Ordered xs → Ordered ys → ((n o : BlockAt) → IsIn n xs → IsIn o ys → Ends n o) → Ordered (xs ++ ys)
ordered_append [] ys sx sy h = sy
ordered_append (x ∷ xs) ys sx sy h = (
  λ c i. elim (in_either c xs ys i) [ inl j ↦ sx.0 c j | inr j ↦ h x c (inl refl) j ],
  ordered_append xs ys sx.1 sy (λ n o i j. h n o (inr i) j),
)

pub ordered_left : (xs ys : List BlockAt) → Ordered (xs ++ ys) → Ordered xs
ordered_left [] ys h = tt
ordered_left (x ∷ xs) ys h = (λ c i. h.0 c (in_left c xs ys i), ordered_left xs ys h.1)

pub ordered_right : (xs ys : List BlockAt) → Ordered (xs ++ ys) → Ordered ys
ordered_right [] ys h = h
ordered_right (x ∷ xs) ys h = ordered_right xs ys h.1

pub ordered_across : (xs ys : List BlockAt) → Ordered (xs ++ ys) → (n o : BlockAt) → IsIn n xs → IsIn o ys → Ends n o
ordered_across [] ys h n o i j = absurd i
ordered_across (x ∷ xs) ys h n o (inl e) j = subst (λ u. Ends u o) e (h.0 o (in_right o xs ys j))
ordered_across (x ∷ xs) ys h n o (inr i) j = ordered_across xs ys h.1 n o i j

-- blocks in order go by rising key
pub ordered_sorted : (bs : List BlockAt) → ((b : BlockAt) → IsIn b bs → b.level ≤ 10) → Ordered bs → Sorted bs
unfolding key
ordered_sorted [] deep h = tt
ordered_sorted (b ∷ bs) deep h = (
  λ c i. let past = h.0 c i in let wide = span_pos b.level in let l = deep b (inl refl) in omega arith,
  ordered_sorted bs (λ c i. deep c (inr i)) h.1,
)

-- ---- the children of a block

ordered_octants : (b : BlockAt) (ns : List ℕ) (low : ℕ) → b.level < 10 → Rising low ns → Ordered (map (child_block b) ns)
ordered_octants b [] low h r = tt
ordered_octants b (n ∷ ns) low h r = (
  λ c i. let q = from_octants b c ns (suc n) r.1.1 i in subst (λ u. Ends (child_block b n) u) q.3 (next_stretch b n q.0 h q.1 q.2),
  ordered_octants b ns (suc n) h r.1.1,
)

begins_in : (p c : BlockAt) → p.level < 10 → IsIn c (children p) → (morton p ≤ morton c) × (morton c + span c.level ≤ morton p + span p.level)
begins_in p c h i =
    let q = from_children p c i in
    let number = morton_child p q.0 h q.1 in
    let whole = spans p.level h in
    let row = one_more q.0 (span (suc p.level)) in
    let top = mul-le-mul_right {m = suc q.0} {n = 8} (span (suc p.level)) q.1 in
    subst (λ u. (morton p ≤ morton u) × (morton u + span u.level ≤ morton p + span p.level)) q.2 (omega arith, omega arith)

-- ---- a block is split

-- blocks that tile the domain and stand in order
pub record Good (s : Shape) (bs : List BlockAt) : Type 0 where
  pub tiles : Tiles (record { shape = s; leaves = bs })
  pub order : Ordered bs

kept_all : (f : BlockAt → List BlockAt) (bs : List BlockAt) → ((b : BlockAt) → IsIn b bs → f b ≡ b ∷ []) → flat_map f bs ≡ bs
kept_all f [] h = refl
kept_all f (b ∷ bs) h = ap₂ (λ u w. u ++ w) (h b (inl refl)) (kept_all f bs (λ c i. h c (inr i)))

apart_from : (p b : BlockAt) → Ends p b ⊎ Ends b p → is_same_block p b ≡ false
apart_from p b h = refuted _ (λ t.
    let same = ap morton (same_says p b t) in
    let wide = span_pos p.level in
    let wider = span_pos b.level in
    elim h [ inl e ↦ absurd (omega arith) | inr e ↦ absurd (omega arith) ])

module _ (s : Shape) (small : s.max ≤ 10) (xs : List BlockAt) (p : BlockAt) (ys : List BlockAt) (deep : p.level < s.max) (good : Good s (xs ++ p ∷ ys)) where
  abbrev none : BlockAt → Bool
  none b = false

  place_of : BlockAt → List BlockAt
  place_of = leaves_for (is_same_block p) none

  stays : (b : BlockAt) → Ends p b ⊎ Ends b p → place_of b ≡ b ∷ []
  unfolding place_of
  stays b h = place_kept (is_same_block p) none b (apart_from p b h) (alone_test (is_same_block p) none b (λ l. refl))

  new_list : flat_map place_of (xs ++ p ∷ ys) ≡ xs ++ (children p ++ ys)
  unfolding place_of
  new_list =
      flat_map-append place_of xs (p ∷ ys)
      ∙ ap₂ (λ u w. u ++ w) (kept_all place_of xs (λ b i. stays b (inr (ordered_across xs (p ∷ ys) good.order b p i (inl refl)))))
      (ap₂ (λ u w. u ++ w) here (kept_all place_of ys (λ b i. stays b (inl ((ordered_right xs (p ∷ ys) good.order).0 b i)))))
    where
      here : place_of p ≡ children p
      here = place_refined (is_same_block p) none p (same_shows p p refl)

  fit : Fit (is_same_block p) none (record { shape = s; leaves = xs ++ p ∷ ys })
  fit = record {
    deep = λ b i h. subst (λ u. u.level < s.max) (same_says p b h) deep;
    leaf = λ b h q l. absurd cc;
    stays = λ b h q l. absurd cc;
  }

  split_ordered : Ordered (xs ++ (children p ++ ys))
  split_ordered =
      let right = ordered_right xs (p ∷ ys) good.order in
      let few : p.level < 10 = omega arith in
      ordered_append xs (children p ++ ys) (ordered_left xs (p ∷ ys) good.order)
      (ordered_append (children p) ys (ordered_octants p (0 ∷ 1 ∷ 2 ∷ 3 ∷ 4 ∷ 5 ∷ 6 ∷ 7 ∷ []) 0 few octants_rise) right.1 (λ n o i j. let past = right.0 o j in let within = begins_in p n few i in let low = within.1 in omega arith))
      (λ n o i j. elim (in_either o (children p) ys j) [
        | inl c ↦ let past = ordered_across xs (p ∷ ys) good.order n p i (inl refl) in let within = begins_in p o few c in let low = within.0 in omega arith
        | inr c ↦ ordered_across xs (p ∷ ys) good.order n o i (inr c)
      ])

  pub split_good : Good s (xs ++ (children p ++ ys))
  unfolding place_of
  split_good = record {
    tiles = subst (λ (u : List BlockAt). Tiles (record { shape = s; leaves = u })) new_list (regrown_tiles (is_same_block p) none (record { shape = s; leaves = xs ++ p ∷ ys }) fit good.tiles);
    order = split_ordered;
  }
