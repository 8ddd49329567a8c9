-- What the objects in memory hold, when their calls fail, and what the others leave.
use Rattle.std.specs.Prelude.{ℕ, ◌+◌, ◌-◌, min, Bool, false, ◌||◌, ◌&&◌, nat_lt, nat_le, List, [], ◌∷◌, ◌++◌, length, drop, Option, Some, None}
use Rattle.outside_io.specs.declared.disk.Area.{Area}
use Rattle.outside_io.specs.Areas.{Areas, with_bytes}
use Rattle.outside_io.specs.Log.{Change, Entry, Stands, Both}
use Rattle.outside_io.specs.Calls.{Calls, named, passed, failed}

-- the bytes that are left, and the most that a read gives
pub record SourceState : Type 0 where
  pub left : List ℕ
  pub step : ℕ
  pub calls : Calls

-- how many bytes a read moves into a buffer of that length
abbrev pub read_count : SourceState → ℕ → ℕ
read_count source room = min (min room source.step) (length source.left)

-- after a read that gave n bytes
abbrev pub after_read : ℕ → SourceState → SourceState
after_read n source = record { left = drop n source.left; step = source.step; calls = passed source.calls }

-- after a read that failed
abbrev pub after_failed_read : SourceState → SourceState
after_failed_read source = record { left = source.left; step = source.step; calls = failed source.calls }

-- the bytes that were taken, how many have room, and the most that a write takes
pub record SinkState : Type 0 where
  pub taken : List ℕ
  pub room : ℕ
  pub step : ℕ
  pub calls : Calls

-- the call is named, or no room is left for a piece that is not empty
abbrev pub write_fails : SinkState → List ℕ → Bool
write_fails sink piece = named sink.calls || (nat_lt 0 (length piece) && nat_le sink.room (length sink.taken))

-- how many bytes of the piece a write takes
abbrev pub write_count : SinkState → List ℕ → ℕ
write_count sink piece = min (min (length piece) sink.step) (sink.room - length sink.taken)

-- after a write that took the bytes
abbrev pub after_write : List ℕ → SinkState → SinkState
after_write piece sink = record { taken = sink.taken ++ piece; room = sink.room; step = sink.step; calls = passed sink.calls }

-- after a write that failed
abbrev pub after_failed_write : SinkState → SinkState
after_failed_write sink = record { taken = sink.taken; room = sink.room; step = sink.step; calls = failed sink.calls }

-- an area's bytes with what is pending, and the room for them
pub record AreaState : Type 0 where
  pub stands : Stands
  pub room : ℕ

-- both areas' bytes with what is pending, and the room of each
pub record AreasState : Type 0 where
  pub both : Both
  pub room : ℕ

-- the bytes of the areas, the room of each, how many bytes were written in all, the calls, the number of calls after which
-- each fails, the bytes at first, and what was done since
pub record DiskState : Type 0 where
  pub areas : Areas
  pub room : ℕ
  pub written : ℕ
  pub calls : Calls
  pub fuse : Option ℕ
  pub first : Areas
  pub log : List Entry

-- so many calls were made that the fuse is burnt
abbrev pub past_fuse : Option ℕ → ℕ → Bool
past_fuse None made = false
past_fuse (Some k) made = nat_le k made

-- the call is named, or its number is above the room or the fuse
abbrev pub disk_fails : DiskState → Bool
disk_fails disk = named disk.calls || nat_le disk.room disk.calls.made || past_fuse disk.fuse disk.calls.made

-- or the area, or all that was written, would be longer than the room
abbrev pub disk_write_fails : DiskState → ℕ → List ℕ → Bool
disk_write_fails disk place piece =
    disk_fails disk || nat_lt disk.room (place + length piece) || nat_lt disk.room (disk.written + length piece)

-- after a call that changed nothing
abbrev pub after_disk_call : DiskState → DiskState
after_disk_call disk = record { areas = disk.areas; room = disk.room; written = disk.written; calls = passed disk.calls; fuse = disk.fuse; first = disk.first; log = disk.log }

-- after a call that failed
abbrev pub after_failed_disk_call : DiskState → DiskState
after_failed_disk_call disk = record { areas = disk.areas; room = disk.room; written = disk.written; calls = failed disk.calls; fuse = disk.fuse; first = disk.first; log = disk.log }

-- after a call that changed an area's bytes to these, or synced it
abbrev pub after_disk_change : Area → Change → List ℕ → ℕ → DiskState → DiskState
after_disk_change area change bytes more disk =
    record {
      areas = with_bytes disk.areas area bytes;
      room = disk.room;
      written = disk.written + more;
      calls = passed disk.calls;
      fuse = disk.fuse;
      first = disk.first;
      log = disk.log ++ (record { area = area; change = change }) ∷ [];
    }
