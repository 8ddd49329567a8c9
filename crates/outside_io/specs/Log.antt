-- What was done to a disk's areas, and what a crash may leave after it.
use Rattle.std.specs.Prelude.{◌≡◌, ◌⊎◌, ℕ, ◌≤◌, ◌+◌, List, [], ◌∷◌, ◌++◌, length, take, drop}
use Rattle.outside_io.specs.declared.disk.Area.{Area}
use Rattle.outside_io.specs.declared.disk.Area.TheVariants.{A, B}
use Rattle.outside_io.specs.declared.history.Kind.{Kind}
use Rattle.outside_io.specs.declared.history.Kind.TheVariants.{Writes, Cuts, Syncs}
use Rattle.outside_io.specs.declared.history.Event.{Event}
use Rattle.outside_io.specs.Areas.{Areas, overwritten}
use Rattle.outside_io.specs.Pending.{Pending, nothing_pending, with_write, with_cut, IsOutcome}

pub data Change : Type 0 where
  Wrote : ℕ → List ℕ → Change
  CutTo : ℕ → Change
  Synced : Change

pub record Entry : Type 0 where
  pub area : Area
  pub change : Change

-- what a read gives of an area, and what is pending
pub record Stands : Type 0 where
  pub seen : List ℕ
  pub pending : Pending

abbrev pub at_rest : List ℕ → Stands
at_rest bytes = record { seen = bytes; pending = nothing_pending bytes }

abbrev pub after_change : Change → Stands → Stands
after_change (Wrote place piece) s = record { seen = overwritten place piece s.seen; pending = with_write place (length piece) s.pending }
after_change (CutTo most) s = record { seen = take most s.seen; pending = with_cut most s.pending }
after_change Synced s = at_rest s.seen

-- of both areas
pub record Both : Type 0 where
  pub a : Stands
  pub b : Stands

-- what a read gives of them
abbrev pub seen_of : Both → Areas
seen_of both = record { a = both.a.seen; b = both.b.seen }

abbrev pub begun : Areas → Both
begun areas = record { a = at_rest areas.a; b = at_rest areas.b }

abbrev pub changed : Area → Change → Both → Both
changed A change both = record { a = after_change change both.a; b = both.b }
changed B change both = record { a = both.a; b = after_change change both.b }

abbrev pub after_all : Both → List Entry → Both
after_all both [] = both
after_all both (e ∷ es) = after_all (changed e.area e.change both) es

-- a crash may leave these areas
pub record IsLeft (both : Both) (c : Areas) : Type 0 where
  pub a : IsOutcome both.a.pending c.a
  pub b : IsOutcome both.b.pending c.b

-- the calls that are kept in memory stand for changes: the bytes of all writes lie one after another
abbrev pub change_of : Kind → List ℕ → Change
change_of (Writes place count) bytes = Wrote place (take count bytes)
change_of (Cuts most) bytes = CutTo most
change_of Syncs bytes = Synced

abbrev pub count_of : Kind → ℕ
count_of (Writes place count) = count
count_of (Cuts most) = 0
count_of Syncs = 0

abbrev pub total_count : List Event → ℕ
total_count [] = 0
total_count (e ∷ es) = count_of e.kind + total_count es

abbrev pub logged : List Event → List ℕ → List Entry
logged [] bytes = []
logged (e ∷ es) bytes = record { area = e.area; change = change_of e.kind bytes } ∷ logged es (drop (count_of e.kind) bytes)

-- a history: the first bytes, what was done since, how many bytes that wrote, and the room for both
pub record HistoryState : Type 0 where
  pub first : Areas
  pub log : List Entry
  pub written : ℕ
  pub room : ℕ

abbrev pub with_entry : Area → Change → ℕ → HistoryState → HistoryState
with_entry area change more h = record { first = h.first; log = h.log ++ (record { area = area; change = change }) ∷ []; written = h.written + more; room = h.room }

-- what a crash now may leave
abbrev pub Leaves : Areas → List Entry → Areas → Areas → Type 0
Leaves first log areas c = (c ≡ areas) ⊎ IsLeft (after_all (begun first) log) c

-- what a crash after some number of the calls, at least t, may have left
pub record LeftAt (first : Areas) (log : List Entry) (t : ℕ) (c : Areas) : Type 0 where
  pub calls : ℕ
  pub from : t ≤ calls
  pub to : calls ≤ length log
  pub left : IsLeft (after_all (begun first) (take calls log)) c

abbrev pub LeftSince : Areas → List Entry → Areas → ℕ → Areas → Type 0
LeftSince first log areas t c = (c ≡ areas) ⊎ LeftAt first log t c

-- the bytes are what is seen, and one of the outcomes
pub record IsFine (s : Stands) (bytes : List ℕ) : Type 0 where
  pub seen : s.seen ≡ bytes
  pub order : s.pending.least ≤ s.pending.greatest
  pub outcome : IsOutcome s.pending bytes

pub record IsSound (both : Both) (areas : Areas) : Type 0 where
  pub a : IsFine both.a areas.a
  pub b : IsFine both.b areas.b
