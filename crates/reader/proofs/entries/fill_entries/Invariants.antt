use Rattle.std.proofs.Common.{◌≡◌, ◌-◌, ◌≤◌, [], length, take}
use Rattle.reader.specs.Readers.{entries_at}
use Rattle.reader.proofs.entries.fill_entries.Given as goal

-- what is left, behind the entries that were read, gives the whole
abbrev pub invariant-loop-cursor : goal.invariant-loop-cursor
invariant-loop-cursor g l =
    (l.count ≤ length l.space)
    × (length l.space ≡ length l.initial.space)
    × (entries_at (g.R.EntryReader.reads l.reader) l.list (length l.space - l.count) (take l.count l.space) l.cursor.file.now l.cursor.at l.cursor.end
    ≡ entries_at (g.R.EntryReader.reads l.reader) l.list (length l.initial.space) [] l.initial.cursor.file.now l.initial.cursor.at l.initial.cursor.end)

abbrev pub decreases-loop-cursor : goal.decreases-loop-cursor
decreases-loop-cursor g l = l.cursor.end - l.cursor.at
