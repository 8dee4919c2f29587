-- The replies to the lines of a script.
use Rattle.std.specs.Prelude.{Bool, true, false, ℕ, List, ◌++◌, codes, decimal, if◌then◌else◌}
use Rattle.sfx_ids.specs.Text.{item_text, version_text}
use Rattle.sfx_replica.specs.declared.edit_fault.EditFault.{EditFault}
use Rattle.sfx_replica.specs.declared.edit_fault.EditFault.TheVariants as edit_faults
use Rattle.sfx_model.specs.declared.session_end.SessionEnd.{SessionEnd}
use Rattle.sfx_model.specs.declared.session_end.SessionEnd.TheVariants as session_ends
use Rattle.sfx_session.specs.declared.session_fault.SessionFault.{SessionFault}
use Rattle.sfx_session.specs.declared.session_fault.SessionFault.TheVariants as session_faults
use Rattle.sfx_reply.specs.declared.reason.Reason.{Reason}
use Rattle.sfx_reply.specs.declared.reason.Reason.TheVariants.{Syntax, NotBuilt, BadUnits, UnitsSet, NoUnits, NameTaken, IdTaken, NoReplica, BadCount, Edit, Session}
use Rattle.sfx_reply.specs.declared.reply.Reply.{Reply}
use Rattle.sfx_reply.specs.declared.reply.Reply.TheVariants.{Done, Created, Changed, Known, Compared, Shown, Synced, Refused}

-- A word that opens a parenthesis, with a number behind it, or two.
abbrev pub with_number : List ℕ → ℕ → List ℕ
with_number word number = word ++ decimal number ++ codes ")"

abbrev pub with_numbers : List ℕ → ℕ → ℕ → List ℕ
with_numbers word first second = word ++ decimal first ++ codes "," ++ decimal second ++ codes ")"

-- The text of the refusal of an edit. No line is refused where memory ran out: that ends the run.
abbrev pub fault_text : EditFault → List ℕ
fault_text edit_faults.NoItem = codes "NoItem"
fault_text edit_faults.Deleted = codes "Deleted"
fault_text (edit_faults.BadUnit k u) = with_numbers (codes "BadUnit(") k u
fault_text (edit_faults.BadName at) = with_number (codes "BadName(") at
fault_text (edit_faults.Clash item) = codes "Clash(" ++ item_text item ++ codes ")"
fault_text (edit_faults.ClockFull clock) = with_number (codes "ClockFull(") clock
fault_text edit_faults.NotDeleted = codes "NotDeleted"
fault_text edit_faults.Memory = codes "Memory"

-- The text of the refusal of a session. No line is refused for a provider that failed, which those in memory
-- never do, or where memory ran out.
abbrev pub session_text : SessionFault → List ℕ
session_text session_faults.SameReplica = codes "SameReplica"
session_text (session_faults.Ahead tick clock) = with_numbers (codes "Ahead(") tick clock
session_text session_faults.NotBuilt = codes "NotBuilt"
session_text session_faults.Source = codes "Source"
session_text session_faults.Destination = codes "Destination"
session_text session_faults.Memory = codes "Memory"

-- The text of a reason.
abbrev pub reason_text : Reason → List ℕ
reason_text (Syntax at) = with_number (codes "Syntax(") at
reason_text NotBuilt = codes "NotBuilt"
reason_text (BadUnits n) = with_number (codes "BadUnits(") n
reason_text UnitsSet = codes "UnitsSet"
reason_text NoUnits = codes "NoUnits"
reason_text NameTaken = codes "NameTaken"
reason_text IdTaken = codes "IdTaken"
reason_text (NoReplica name) = codes "NoReplica(" ++ name ++ codes ")"
reason_text (BadCount given units) = with_numbers (codes "BadCount(") given units
reason_text (Edit fault) = fault_text fault
reason_text (Session fault) = session_text fault

-- The refusal is running out of memory.
abbrev pub is_memory : EditFault → Bool
is_memory edit_faults.NoItem = false
is_memory edit_faults.Deleted = false
is_memory (edit_faults.BadUnit k u) = false
is_memory (edit_faults.BadName at) = false
is_memory (edit_faults.Clash item) = false
is_memory (edit_faults.ClockFull clock) = false
is_memory edit_faults.NotDeleted = false
is_memory edit_faults.Memory = true

-- Yes or no.
abbrev pub yes_or_no : Bool → List ℕ
yes_or_no b = if b then codes "yes" else codes "no"

-- The text of a reply, with the line ends in it.
abbrev pub reply_text : Reply → List ℕ
reply_text Done = codes "ok\n"
reply_text (Created item) = codes "ok " ++ item_text item ++ codes "\n"
reply_text (Changed version) = codes "ok " ++ version_text version ++ codes "\n"
reply_text (Known known) = codes "known=" ++ yes_or_no known ++ codes "\n"
reply_text (Compared knowledge items) = codes "knowledge=" ++ yes_or_no knowledge ++ codes " items=" ++ yes_or_no items ++ codes "\n"
reply_text (Shown text) = text
reply_text (Synced text end) = text
reply_text (Refused reason) = codes "no " ++ reason_text reason ++ codes "\n"

-- The session ended for want of ticks.
abbrev pub is_full : SessionEnd → Bool
is_full session_ends.Done = false
is_full session_ends.Cut = false
is_full (session_ends.Full clock) = true

-- The reply refuses its line, or the rest of it: so it does where a session ended for want of ticks.
abbrev pub is_refusal : Reply → Bool
is_refusal Done = false
is_refusal (Created item) = false
is_refusal (Changed version) = false
is_refusal (Known known) = false
is_refusal (Compared knowledge items) = false
is_refusal (Shown text) = false
is_refusal (Synced text end) = is_full end
is_refusal (Refused reason) = true
