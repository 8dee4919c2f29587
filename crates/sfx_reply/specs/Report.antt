-- The text that tells what a session did, batch by batch and entry by entry.
use Rattle.std.specs.Prelude.{ℕ, List, [], ◌∷◌, ◌++◌, Option, Some, None, codes, decimal, length, map, sum}
use Rattle.std.specs.List.{flat_map}
use Rattle.sfx_ids.specs.declared.cut.Cut.{Cut}
use Rattle.sfx_ids.specs.declared.item_id.ItemId.{ItemId}
use Rattle.sfx_ids.specs.Text.{cut_text, item_text}
use Rattle.sfx_model.specs.declared.entry_kind.EntryKind.{EntryKind}
use Rattle.sfx_model.specs.declared.entry_kind.EntryKind.TheVariants.{Known, Took, Settled, Skipped, Dropped, Renamed, Deleted}
use Rattle.sfx_model.specs.declared.mark.Mark.{Mark}
use Rattle.sfx_model.specs.declared.mark.Mark.TheVariants.{Stays, Taken, Stamped, Left, Gone}
use Rattle.sfx_model.specs.declared.mode.Mode.{Mode}
use Rattle.sfx_model.specs.declared.mode.Mode.TheVariants.{Normal, Recover}
use Rattle.sfx_model.specs.declared.session_end.SessionEnd.{SessionEnd}
use Rattle.sfx_model.specs.declared.session_end.SessionEnd.TheVariants as session_ends
use Rattle.sfx_model.specs.declared.session_end.SessionEnd.TheVariants.{Done, Full}
use Rattle.sfx_model.specs.sessions.Batch.{BatchData}
use Rattle.sfx_model.specs.sessions.Entry.{EntryData, OtherData}
use Rattle.sfx_model.specs.sessions.Session.{StepData}
use Rattle.sfx_script.specs.Printed.{value_text}

-- The word of a mode.
abbrev pub mode_text : Mode → List ℕ
mode_text Normal = codes "normal"
mode_text Recover = codes "recover"

-- The cuts between which a batch ranges.
abbrev pub range_text : Cut → Cut → List ℕ
range_text from to = codes " " ++ cut_text from ++ codes " " ++ cut_text to

-- How many changes a batch has.
abbrev pub changes_text : ℕ → List ℕ
changes_text changes = codes " changes=" ++ decimal changes

-- How many items a batch lists beside its changes: in recovery alone it lists some.
abbrev pub here_text : Mode → List ItemId → List ℕ
here_text Normal here = []
here_text Recover here = codes " here=" ++ decimal (length here)

-- The line of a batch: its mode, its range, how many changes it has, and how many items it lists.
abbrev pub batch_text : BatchData → List ℕ
batch_text b =
    codes "batch " ++ mode_text b.mode ++ range_text b.from b.to ++ changes_text (length b.changes)
    ++ here_text b.mode b.here ++ codes "\n"

-- The word of a kind.
abbrev pub kind_text : EntryKind → List ℕ
kind_text Known = codes "known"
kind_text Took = codes "took"
kind_text Settled = codes "settled"
kind_text Skipped = codes "skipped"
kind_text Dropped = codes "dropped"
kind_text Renamed = codes "renamed"
kind_text Deleted = codes "deleted"

-- The letter of a unit's mark.
abbrev pub mark_text : Mark → List ℕ
mark_text Stays = codes "k"
mark_text Taken = codes "t"
mark_text Stamped = codes "s"
mark_text Left = codes "x"
mark_text Gone = codes "d"

-- The fresh tick, where there is one.
abbrev pub tick_text : Option ℕ → List ℕ
tick_text None = []
tick_text (Some tick) = codes " tick=" ++ decimal tick

-- The new name, where there is one.
abbrev pub name_text : Option (List ℕ) → List ℕ
name_text None = []
name_text (Some name) = codes " name=" ++ value_text name

-- An item, and a letter for each of its units.
abbrev pub marked_text : ItemId → List Mark → List ℕ
marked_text item marks = codes " " ++ item_text item ++ codes " " ++ flat_map mark_text marks

-- The line of an entry: its kind, its item, a letter for each unit, and the tick and the name that it got.
abbrev pub entry_text : EntryData → List ℕ
entry_text e = kind_text e.kind ++ marked_text e.item e.marks ++ tick_text e.tick ++ name_text e.name ++ codes "\n"

-- Another item was deleted, or got this name.
abbrev pub change_text : Option (List ℕ) → List ℕ
change_text None = codes "deleted"
change_text (Some name) = codes "renamed"

-- What became of another item, which has this new name or none.
abbrev pub changed_text : ItemId → Option (List ℕ) → List ℕ
changed_text item name = codes "other " ++ change_text name ++ codes " " ++ item_text item

-- The line of another item that an entry changed.
abbrev pub other_text : OtherData → List ℕ
other_text o = changed_text o.item o.name ++ tick_text (Some o.tick) ++ name_text o.name ++ codes "\n"

-- The lines of an entry: its own, and those of the other items that it changed.
abbrev pub entry_lines : EntryData → List ℕ
entry_lines e = entry_text e ++ flat_map other_text e.others

-- The lines of a batch and its entries.
abbrev pub step_lines : StepData → List ℕ
step_lines s = batch_text s.batch ++ flat_map entry_lines s.applied.entries

-- A session ended for want of ticks, the clock standing so.
abbrev pub full_text : ℕ → List ℕ
full_text clock = codes "full clock=" ++ decimal clock

-- How a session ended.
abbrev pub end_text : SessionEnd → List ℕ
end_text Done = codes "done"
end_text session_ends.Cut = codes "cut"
end_text (Full clock) = full_text clock

-- How many entries the batches had together.
abbrev pub entry_count : List StepData → ℕ
entry_count steps = sum (map (λ s. length s.applied.entries) steps)

-- The last line: how the session ended, and how many batches and entries it had.
abbrev pub last_text : SessionEnd → ℕ → ℕ → List ℕ
last_text end batches entries =
    end_text end ++ codes " batches=" ++ decimal batches ++ codes " entries=" ++ decimal entries ++ codes "\n"

-- All of a session: its batches with their entries, and how it ended.
abbrev pub report_text : List StepData → SessionEnd → List ℕ
report_text steps end = flat_map step_lines steps ++ last_text end (length steps) (entry_count steps)
