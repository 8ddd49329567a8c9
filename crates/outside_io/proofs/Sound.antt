-- What stays true of a disk in memory over its calls.
use Rattle.std.proofs.Common.{◌≡◌, ◌⊎◌, inl, inr, ⊎_elim, ℕ, ◌≤◌, ◌<◌, List, [], ◌∷◌, ◌++◌, length, take, Result, Ok, Err, OnOk, OnErr, refl, sym, ap, ◌∙◌, subst, arith, take_all, length-append}
use Rattle.std.proofs.lemmas.Result.{on_ok_weaker}
use Rattle.std.proofs.lemmas.Bool.{cases_lt}
use Rattle.std.proofs.lemmas.List.{take-append-le}
use Rattle.std.proofs.lemmas.Grind.{same_number_lists}
use Rattle.outside_io.specs.declared.disk.Area.{Area}
use Rattle.outside_io.specs.declared.disk.Area.TheVariants.{A, B}
use Rattle.outside_io.specs.Areas.{Areas, bytes_of, with_bytes, overwritten}
use Rattle.outside_io.specs.Crash.{Torn, Shortened, InArea, Elapses, Follows, OnlyIn}
use Rattle.outside_io.specs.Pending.{nothing_pending, IsOutcome}
use Rattle.outside_io.specs.Log.{Change, Wrote, CutTo, Synced, Entry, Stands, at_rest, after_change, Both, begun, changed, after_all, IsLeft, Leaves, LeftAt, LeftSince, IsFine, IsSound, HistoryState, with_entry}
use Rattle.outside_io.specs.Memory.{AreasState, DiskState, after_disk_change, after_failed_disk_call}
use Rattle.outside_io.proofs.NoChange.{torn_same, shortened_same, stays}
use Rattle.outside_io.proofs.Following.{write_follows, write_allows, cut_follows, cut_allows, torn_whole, shortened_whole}
use Rattle.outside_io.proofs.Logged.{after_all-more, spans_few}

-- where nothing is pending a crash leaves the bytes
pub rests_alone : (bytes c : List ℕ) → IsOutcome (nothing_pending bytes) c → c ≡ bytes
rests_alone bytes c is =
    let short = is.no_shorter in
    let long = is.no_longer in
    same_number_lists c bytes (omega arith) (λ k lt. is.outside k lt (omega arith) refl)

rest_outcome : (bytes : List ℕ) → IsOutcome (nothing_pending bytes) bytes
rest_outcome bytes = record { no_shorter = omega arith; no_longer = omega arith; outside = λ k lt in_synced out. refl }

pub fine_rest : (bytes : List ℕ) → IsFine (at_rest bytes) bytes
fine_rest bytes = record { seen = refl; order = omega arith; outcome = rest_outcome bytes }

pub fine_write : (s : Stands) (bytes : List ℕ) (place : ℕ) (piece : List ℕ) → place ≤ length bytes → IsFine s bytes → IsFine (after_change (Wrote place piece) s) (overwritten place piece bytes)
fine_write s bytes place piece fits fine = record {
  seen = ap (overwritten place piece) fine.seen;
  order = (let o = fine.order in omega arith);
  outcome = write_allows place (length piece) s.pending bytes (overwritten place piece bytes) fine.outcome (torn_whole place piece bytes fits);
}

fine_cut : (s : Stands) (bytes : List ℕ) (most : ℕ) → IsFine s bytes → IsFine (after_change (CutTo most) s) (take most bytes)
fine_cut s bytes most fine = record {
  seen = ap (take most) fine.seen;
  order = (let o = fine.order in omega arith);
  outcome = cut_allows most s.pending bytes (take most bytes) fine.outcome (shortened_whole most bytes);
}

fine_sync : (s : Stands) (bytes : List ℕ) → IsFine s bytes → IsFine (after_change Synced s) bytes
fine_sync s bytes fine = subst (λ (l : List ℕ). IsFine (at_rest l) bytes) (sym fine.seen) (fine_rest bytes)

pub sound_begun : (areas : Areas) → IsSound (begun areas) areas
sound_begun areas = record { a = fine_rest areas.a; b = fine_rest areas.b }

pub sound_write : (area : Area) (both : Both) (areas : Areas) (place : ℕ) (piece : List ℕ) → place ≤ length (bytes_of areas area) → IsSound both areas
    → IsSound (changed area (Wrote place piece) both) (with_bytes areas area (overwritten place piece (bytes_of areas area)))
sound_write A both areas place piece fits sound = record { a = fine_write both.a areas.a place piece fits sound.a; b = sound.b }
sound_write B both areas place piece fits sound = record { a = sound.a; b = fine_write both.b areas.b place piece fits sound.b }

pub sound_cut : (area : Area) (both : Both) (areas : Areas) (most : ℕ) → IsSound both areas → IsSound (changed area (CutTo most) both) (with_bytes areas area (take most (bytes_of areas area)))
sound_cut A both areas most sound = record { a = fine_cut both.a areas.a most sound.a; b = sound.b }
sound_cut B both areas most sound = record { a = sound.a; b = fine_cut both.b areas.b most sound.b }

pub sound_sync : (area : Area) (both : Both) (areas : Areas) → IsSound both areas → IsSound (changed area Synced both) areas
sound_sync A both areas sound = record { a = fine_sync both.a areas.a sound.a; b = sound.b }
sound_sync B both areas sound = record { a = sound.a; b = fine_sync both.b areas.b sound.b }

-- one call more in the log
pub sound_more : (area : Area) (change : Change) (first : Areas) (log : List Entry) (areas : Areas) → IsSound (changed area change (after_all (begun first) log)) areas
    → IsSound (after_all (begun first) (log ++ (record { area = area; change = change }) ∷ [])) areas
sound_more area change first log areas sound = subst (λ (b : Both). IsSound b areas) (sym (after_all-more (begun first) log (record { area = area; change = change }))) sound

pub sound_left : (both : Both) (areas : Areas) → IsSound both areas → IsLeft both areas
sound_left both areas sound = record { a = sound.a.outcome; b = sound.b.outcome }

-- what a crash may leave after a change was possible before, after a step of it
left_write : (area : Area) (place : ℕ) (piece : List ℕ) (both : Both) (areas c : Areas) → place ≤ length (bytes_of areas area) → IsSound both areas → IsLeft (changed area (Wrote place piece) both) c
    → (d : Areas) × IsLeft both d × InArea area (Torn place (length piece)) d c
left_write A place piece both areas c fits sound left =
    let long = sound.a.outcome.no_longer in
    let from = write_follows place (length piece) both.a.pending c.a sound.a.order (omega arith) left.a in
    (record { a = from.0; b = c.b }, record { a = from.1; b = left.b }, record { here = from.2; there = refl })
left_write B place piece both areas c fits sound left =
    let long = sound.b.outcome.no_longer in
    let from = write_follows place (length piece) both.b.pending c.b sound.b.order (omega arith) left.b in
    (record { a = c.a; b = from.0 }, record { a = left.a; b = from.1 }, record { here = from.2; there = refl })

left_cut : (area : Area) (most : ℕ) (both : Both) (areas c : Areas) → IsSound both areas → IsLeft (changed area (CutTo most) both) c
    → (d : Areas) × IsLeft both d × InArea area (Shortened most) d c
left_cut A most both areas c sound left =
    let from = cut_follows most both.a.pending c.a sound.a.order left.a in
    (record { a = from.0; b = c.b }, record { a = from.1; b = left.b }, record { here = from.2; there = refl })
left_cut B most both areas c sound left =
    let from = cut_follows most both.b.pending c.b sound.b.order left.b in
    (record { a = c.a; b = from.0 }, record { a = left.a; b = from.1 }, record { here = from.2; there = refl })

left_sync : (area : Area) (both : Both) (areas c : Areas) → IsSound both areas → IsLeft (changed area Synced both) c → IsLeft both c × (bytes_of c area ≡ bytes_of areas area)
left_sync A both areas c sound left =
    let same : c.a ≡ areas.a = rests_alone both.a.seen c.a left.a ∙ sound.a.seen in
    (record { a = subst (IsOutcome both.a.pending) (sym same) sound.a.outcome; b = left.b }, same)
left_sync B both areas c sound left =
    let same : c.b ≡ areas.b = rests_alone both.b.seen c.b left.b ∙ sound.b.seen in
    (record { a = left.a; b = subst (IsOutcome both.b.pending) (sym same) sound.b.outcome }, same)

whole_write : (area : Area) (place : ℕ) (piece : List ℕ) (areas : Areas) → place ≤ length (bytes_of areas area) → InArea area (Torn place (length piece)) areas (with_bytes areas area (overwritten place piece (bytes_of areas area)))
whole_write A place piece areas fits = record { here = torn_whole place piece areas.a fits; there = refl }
whole_write B place piece areas fits = record { here = torn_whole place piece areas.b fits; there = refl }

whole_cut : (area : Area) (most : ℕ) (areas : Areas) → InArea area (Shortened most) areas (with_bytes areas area (take most (bytes_of areas area)))
whole_cut A most areas = record { here = shortened_whole most areas.a; there = refl }
whole_cut B most areas = record { here = shortened_whole most areas.b; there = refl }

module _ (first : Areas) (log : List Entry) (areas : Areas) (sound : IsSound (after_all (begun first) log) areas) where
  pub follows_write : (area : Area) (place : ℕ) (piece : List ℕ) → place ≤ length (bytes_of areas area)
      → Follows (InArea area (Torn place (length piece))) (Leaves first log areas) (Leaves first (log ++ (record { area = area; change = Wrote place piece }) ∷ []) (with_bytes areas area (overwritten place piece (bytes_of areas area))))
  follows_write area place piece fits c (inl same) = (areas, inl refl, subst (InArea area (Torn place (length piece)) areas) (sym same) (whole_write area place piece areas fits))
  follows_write area place piece fits c (inr left) =
      let from = left_write area place piece (after_all (begun first) log) areas c fits sound (subst (λ (b : Both). IsLeft b c) (after_all-more (begun first) log (record { area = area; change = Wrote place piece })) left) in
      (from.0, inr from.1, from.2)

  pub follows_cut : (area : Area) (most : ℕ)
      → Follows (InArea area (Shortened most)) (Leaves first log areas) (Leaves first (log ++ (record { area = area; change = CutTo most }) ∷ []) (with_bytes areas area (take most (bytes_of areas area))))
  follows_cut area most c (inl same) = (areas, inl refl, subst (InArea area (Shortened most) areas) (sym same) (whole_cut area most areas))
  follows_cut area most c (inr left) =
      let from = left_cut area most (after_all (begun first) log) areas c sound (subst (λ (b : Both). IsLeft b c) (after_all-more (begun first) log (record { area = area; change = CutTo most })) left) in
      (from.0, inr from.1, from.2)

  pub follows_sync : (area : Area) (c : Areas) → Leaves first (log ++ (record { area = area; change = Synced }) ∷ []) areas c → Leaves first log areas c × (bytes_of c area ≡ bytes_of areas area)
  follows_sync area c (inl same) = (inl same, ap (λ (x : Areas). bytes_of x area) same)
  follows_sync area c (inr left) =
      let from = left_sync area (after_all (begun first) log) areas c sound (subst (λ (b : Both). IsLeft b c) (after_all-more (begun first) log (record { area = area; change = Synced })) left) in
      (inr from.0, from.1)

  -- time goes on by one call
  pub elapses_more : (e : Entry) (next : Areas) → Elapses (length log) (length (log ++ e ∷ [])) (LeftSince first log areas) (LeftSince first (log ++ e ∷ []) next) (Leaves first (log ++ e ∷ []) next)
  elapses_more e next = record {
    later = omega (arith, length-append log (e ∷ []));
    nothing_else = λ t c le left. ⊎_elim (λ same. inr (inl same)) (λ at. earlier t c at) left;
    keeps = λ t c le left. inr (⊎_elim (λ same. here t c le same) (λ at. still t c at) left);
  }
    where
      earlier : (t : ℕ) (c : Areas) → LeftAt first (log ++ e ∷ []) t c → LeftSince first log areas t c ⊎ Leaves first (log ++ e ∷ []) next c
      earlier t c at =
          let to = at.to in
          let long = length-append log (e ∷ []) in
          elim (cases_lt (length log) at.calls) [
            | inl past ↦ inr (inr (subst (λ (l : List Entry). IsLeft (after_all (begun first) l) c) (take_all at.calls (log ++ e ∷ []) (omega arith)) at.left))
            | inr within ↦ inl (inr (record { calls = at.calls; from = at.from; to = within; left = subst (λ (l : List Entry). IsLeft (after_all (begun first) l) c) (take-append-le at.calls log (e ∷ []) within) at.left }))
          ]

      still : (t : ℕ) (c : Areas) → LeftAt first log t c → LeftAt first (log ++ e ∷ []) t c
      still t c at =
          let to = at.to in
          let long = length-append log (e ∷ []) in
          record { calls = at.calls; from = at.from; to = omega arith; left = subst (λ (l : List Entry). IsLeft (after_all (begun first) l) c) (sym (take-append-le at.calls log (e ∷ []) to)) at.left }

      here : (t : ℕ) (c : Areas) → t ≤ length log → c ≡ areas → LeftAt first (log ++ e ∷ []) t c
      here t c le same =
          let long = length-append log (e ∷ []) in
          record {
            calls = length log;
            from = le;
            to = omega arith;
            left = subst (λ (l : List Entry). IsLeft (after_all (begun first) l) c) (sym (take-append-le (length log) log (e ∷ []) (omega arith) ∙ take_all (length log) log (omega arith))) (subst (IsLeft (after_all (begun first) log)) (sym same) (sound_left (after_all (begun first) log) areas sound));
          }

pub elapses_none : (first : Areas) (log : List Entry) (areas : Areas) → Elapses (length log) (length log) (LeftSince first log areas) (LeftSince first log areas) (Leaves first log areas)
elapses_none first log areas = record { later = omega arith; nothing_else = λ t c le left. inl left; keeps = λ t c le left. left }

-- a disk in memory after its history and its areas took one change
pub held_more : (area : Area) (change : Change) (more : ℕ) (was new : HistoryState) (both : Both) (held : AreasState) (room : ℕ) → new ≡ with_entry area change more was → held ≡ record { both = changed area change both; room = room }
    → both ≡ after_all (begun was.first) was.log → held.both ≡ after_all (begun new.first) new.log
held_more area change more was new both held room is holds so_far =
    ap (λ (h : AreasState). h.both) holds
    ∙ ap (changed area change) so_far
    ∙ sym (after_all-more (begun was.first) was.log (record { area = area; change = change }))
    ∙ sym (ap (λ (h : HistoryState). after_all (begun h.first) h.log) is)

-- what is pending has room in the record
pub spans_fit : (first : Areas) (log : List Entry) (both : Both) (room : ℕ) → both ≡ after_all (begun first) log → length log < room
    → (length both.a.pending.spans < room) × (length both.b.pending.spans < room)
spans_fit first log both room is few =
    let most = spans_few log (begun first) in
    let a : length both.a.pending.spans ≡ length (after_all (begun first) log).a.pending.spans = ap (λ (x : Both). length x.a.pending.spans) is in
    let b : length both.b.pending.spans ≡ length (after_all (begun first) log).b.pending.spans = ap (λ (x : Both). length x.b.pending.spans) is in
    let few_a = most.0 in
    let few_b = most.1 in
    (omega arith, omega arith)

pub more_entries : (area : Area) (change : Change) (more : ℕ) (was new : HistoryState) (made : ℕ) → new ≡ with_entry area change more was → length was.log < made → length new.log ≤ made
more_entries area change more was new made is few =
    let l = length-append was.log ((record { area = area; change = change }) ∷ []) in
    let m : length new.log ≡ length (was.log ++ (record { area = area; change = change }) ∷ []) = ap (λ (h : HistoryState). length h.log) is in
    omega arith

-- whatever the answer
either : {T E A B P : Type 0} (r : Result T E) → OnOk r A → OnErr r B → (A → P) → (B → P) → P
either (Ok x) ok err f h = f ok
either (Err e) ok err f h = h err

same_bytes : (areas : Areas) (area : Area) → with_bytes areas area (bytes_of areas area) ≡ areas
same_bytes areas A = refl
same_bytes areas B = refl

module _ {T E : Type 0} (result : Result T E) (area : Area) (old new : DiskState) (sound : IsSound (after_all (begun old.first) old.log) old.areas) where
  pub write_crash : (place : ℕ) (piece : List ℕ) → place ≤ length (bytes_of old.areas area)
      → OnOk result (new ≡ after_disk_change area (Wrote place piece) (overwritten place piece (bytes_of old.areas area)) (length piece) old) → OnErr result (new ≡ after_failed_disk_call old)
      → Follows (InArea area (Torn place (length piece))) (Leaves old.first old.log old.areas) (Leaves new.first new.log new.areas)
  write_crash place piece fits ok err = either result ok err
      (λ is. subst (λ (d : DiskState). Follows (InArea area (Torn place (length piece))) (Leaves old.first old.log old.areas) (Leaves d.first d.log d.areas)) (sym is) (follows_write old.first old.log old.areas sound area place piece fits))
      (λ is. subst (λ (d : DiskState). Follows (InArea area (Torn place (length piece))) (Leaves old.first old.log old.areas) (Leaves d.first d.log d.areas)) (sym is) (λ c left. (c, left, stays area (Torn place (length piece)) c (torn_same place (length piece) (bytes_of c area)))))

  pub cut_crash : (most : ℕ) → OnOk result (new ≡ after_disk_change area (CutTo most) (take most (bytes_of old.areas area)) 0 old) → OnErr result (new ≡ after_failed_disk_call old)
      → Follows (InArea area (Shortened most)) (Leaves old.first old.log old.areas) (Leaves new.first new.log new.areas)
  cut_crash most ok err = either result ok err
      (λ is. subst (λ (d : DiskState). Follows (InArea area (Shortened most)) (Leaves old.first old.log old.areas) (Leaves d.first d.log d.areas)) (sym is) (follows_cut old.first old.log old.areas sound area most))
      (λ is. subst (λ (d : DiskState). Follows (InArea area (Shortened most)) (Leaves old.first old.log old.areas) (Leaves d.first d.log d.areas)) (sym is) (λ c left. (c, left, stays area (Shortened most) c (shortened_same most (bytes_of c area)))))

  synced_disk : new ≡ after_disk_change area Synced (bytes_of old.areas area) 0 old → (c : Areas) → Leaves new.first new.log new.areas c → Leaves old.first old.log old.areas c × (bytes_of c area ≡ bytes_of old.areas area)
  synced_disk is = subst (λ (d : DiskState). (c : Areas) → Leaves d.first d.log d.areas c → Leaves old.first old.log old.areas c × (bytes_of c area ≡ bytes_of old.areas area)) (sym is)
      (subst (λ (x : Areas). (c : Areas) → Leaves old.first (old.log ++ (record { area = area; change = Synced }) ∷ []) x c → Leaves old.first old.log old.areas c × (bytes_of c area ≡ bytes_of old.areas area)) (sym (same_bytes old.areas area))
      (follows_sync old.first old.log old.areas sound area))

  pub sync_crash : OnOk result (new ≡ after_disk_change area Synced (bytes_of old.areas area) 0 old) → OnErr result (new ≡ after_failed_disk_call old)
      → (c : Areas) → Leaves new.first new.log new.areas c → Leaves old.first old.log old.areas c
  sync_crash ok err = either result ok err
      (λ is c left. (synced_disk is c left).0)
      (λ is. subst (λ (d : DiskState). (c : Areas) → Leaves d.first d.log d.areas c → Leaves old.first old.log old.areas c) (sym is) (λ c left. left))

  pub sync_durable : OnOk result (new ≡ after_disk_change area Synced (bytes_of old.areas area) 0 old) → OnOk result (OnlyIn area (bytes_of old.areas area) (Leaves new.first new.log new.areas))
  sync_durable ok = on_ok_weaker result (λ is c left. (synced_disk is c left).1) ok

  pub change_time : (change : Change) (bytes : List ℕ) (more : ℕ) → OnOk result (new ≡ after_disk_change area change bytes more old) → OnErr result (new ≡ after_failed_disk_call old)
      → Elapses (length old.log) (length new.log) (LeftSince old.first old.log old.areas) (LeftSince new.first new.log new.areas) (Leaves new.first new.log new.areas)
  change_time change bytes more ok err = either result ok err
      (λ is. subst (λ (d : DiskState). Elapses (length old.log) (length d.log) (LeftSince old.first old.log old.areas) (LeftSince d.first d.log d.areas) (Leaves d.first d.log d.areas)) (sym is)
      (elapses_more old.first old.log old.areas sound (record { area = area; change = change }) (with_bytes old.areas area bytes)))
      (λ is. subst (λ (d : DiskState). Elapses (length old.log) (length d.log) (LeftSince old.first old.log old.areas) (LeftSince d.first d.log d.areas) (Leaves d.first d.log d.areas)) (sym is) (elapses_none old.first old.log old.areas))
