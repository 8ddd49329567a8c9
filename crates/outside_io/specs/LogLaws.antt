-- This moment is one since an earlier one, and the only one since itself.
use Rattle.std.proofs.Common.{inl, inr, ℕ, ◌≤◌, List, length, sym, subst, arith, take_all}
use Rattle.outside_io.specs.Areas.{Areas}
use Rattle.outside_io.specs.Log.{Entry, Leaves, LeftSince, IsLeft, after_all, begun}

pub now_counts : (first : Areas) (log : List Entry) (areas : Areas) (t : ℕ) (c : Areas) → t ≤ length log → Leaves first log areas c → LeftSince first log areas t c
now_counts first log areas t c le (inl same) = inl same
now_counts first log areas t c le (inr left) =
    inr (record { calls = length log; from = le; to = omega arith; left = subst (λ (l : List Entry). IsLeft (after_all (begun first) l) c) (sym (take_all (length log) log (omega arith))) left })

pub now_only : (first : Areas) (log : List Entry) (areas c : Areas) → LeftSince first log areas (length log) c → Leaves first log areas c
now_only first log areas c (inl same) = inl same
now_only first log areas c (inr at) =
    let le = at.from in
    inr (subst (λ (l : List Entry). IsLeft (after_all (begun first) l) c) (take_all at.calls log le) at.left)
