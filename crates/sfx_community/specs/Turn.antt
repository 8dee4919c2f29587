-- What the lines of a script do: a reply, what happens in the world, the states that are committed, and the
-- state afterwards.
use Rattle.std.specs.Prelude.{ℕ, Bool, true, false, not, ◌==◌, ◌||◌, ◌&&◌, if◌then◌else◌, Option, Some, None, Ok, Err, List, [], ◌∷◌, ◌++◌, length, map, nat_eq, nat_lt}
use Rattle.sfx_ids.specs.declared.item_id.ItemId.{ItemId}
use Rattle.sfx_ids.specs.declared.version.Version.{Version}
use Rattle.sfx_model.specs.declared.clash_rule.ClashRule.{ClashRule}
use Rattle.sfx_model.specs.declared.clash_rule.ClashRule.TheVariants as clash_rules
use Rattle.sfx_model.specs.declared.keep.Keep.{Keep}
use Rattle.sfx_model.specs.declared.keep.Keep.TheVariants as keeps
use Rattle.sfx_model.specs.sessions.Deeds.{session_deeds}
use Rattle.sfx_model.specs.world.Events.{Deed, Event, Own, Units, Join, Make}
use Rattle.sfx_model.specs.members.Members.{Member, contains}
use Rattle.sfx_model.specs.sessions.Moments.{committed}
use Rattle.sfx_model.specs.sessions.Rules.{RulesData}
use Rattle.sfx_model.specs.sessions.Session.{SessionResult, session_of}
use Rattle.sfx_model.specs.members.States.{created_contents, deleted_contents, edited_contents, next_item, next_version}
use Rattle.sfx_replica.specs.declared.edit_fault.EditFault.{EditFault}
use Rattle.sfx_replica.specs.declared.edit_fault.EditFault.TheVariants.{BadUnit}
use Rattle.sfx_replica.specs.Edits.{created, deleted, edited, new_member}
use Rattle.sfx_replica.specs.Refusals.{create_refusal, delete_refusal, set_refusal}
use Rattle.sfx_session.specs.declared.session_fault.SessionFault.{SessionFault}
use Rattle.sfx_session.specs.Refusals.{session_refusal}
use Rattle.sfx_model.specs.sessions.Longer.{longer}
use Rattle.sfx_script.specs.declared.options.Options.{Options}
use Rattle.sfx_script.specs.declared.line.Line.{Line}
use Rattle.sfx_script.specs.declared.line.Line.TheVariants as lines
use Rattle.sfx_script.specs.Reading.{Read, reading_of}
use Rattle.sfx_script.specs.Script.{is_passed}
use Rattle.sfx_script.specs.Wrong.{cause_place}
use Rattle.sfx_community.specs.Sameness.{hold_same, know_same}
use Rattle.sfx_reply.specs.Listing.{listing}
use Rattle.sfx_community.specs.State.{KeptMember, State, is_id_taken, has_name, member_of, named_member, state_added, state_with}
use Rattle.sfx_reply.specs.Report.{report_text}
use Rattle.sfx_reply.specs.declared.reason.Reason.{Reason}
use Rattle.sfx_reply.specs.declared.reason.Reason.TheVariants.{Syntax, NotBuilt, BadUnits, UnitsSet, NoUnits, NameTaken, IdTaken, NoReplica, BadCount, Edit, Session}
use Rattle.sfx_reply.specs.declared.reply.Reply.{Reply}
use Rattle.sfx_reply.specs.declared.reply.Reply.TheVariants.{Done, Created, Changed, Known, Compared, Shown, Synced, Refused}

-- What comes of one line: its reply, what happens in the world, the states that are committed, in order, and
-- the state afterwards.
pub record Turn : Type 0 where
  pub reply : Reply
  pub deeds : List Deed
  pub commits : List State
  pub state : State

-- The state before the first line: no unit count, and no replicas.
abbrev pub empty_state : State
empty_state = record { units = 0; members = [] }

-- A line that is answered: nothing happens, nothing changes, and nothing is committed.
abbrev pub answered : State → Reply → Turn
answered s reply = record { reply = reply; deeds = []; commits = []; state = s }

-- A line that is refused.
abbrev pub refused : State → Reason → Turn
refused s reason = answered s (Refused reason)

-- A line with one event, which commits the state afterwards.
abbrev pub acted : Reply → Event → State → Turn
acted reply event s = record { reply = reply; deeds = Own event ∷ []; commits = s ∷ []; state = s }

-- Items can have this many units.
abbrev pub is_unit_count : ℕ → Bool
is_unit_count n = nat_eq n 1 || (nat_eq n 2 || (nat_eq n 4 || nat_eq n 8))

-- `units` says the unit count, once. Two units are built.
abbrev pub units_turn : State → ℕ → Turn
units_turn s n =
    if is_unit_count n then
    (if nat_eq n 2 then
    (if nat_eq s.units 0 then acted Done (Units n) (record { units = n; members = s.members })
    else refused s UnitsSet)
    else refused s NotBuilt)
    else refused s (BadUnits n)

-- `replica` adds a replica that has made nothing, under a new name and id.
abbrev pub replica_turn : State → List ℕ → ℕ → Turn
replica_turn s name id =
    if nat_eq s.units 0 then refused s NoUnits
    else if has_name name s.members then refused s NameTaken
    else if is_id_taken id s.members then refused s IdTaken
    else acted Done (Join id) (state_added name (new_member id) s)

-- `create` makes an item of these values, where nothing refuses it.
abbrev pub create_by : State → KeptMember → List (List ℕ) → Option EditFault → Turn
create_by s m values (Some fault) = refused s (Edit fault)
create_by s m values None =
    acted (Created (next_item m.member))
    (Make m.member.id (next_item m.member) (next_version m.member) (created_contents values))
    (state_with m.name (created m.member values) s)

-- The same where the replica's name was looked up.
abbrev pub create_at : State → List ℕ → Option KeptMember → List (List ℕ) → Turn
create_at s name None values = refused s (NoReplica name)
create_at s name (Some m) values =
    if length values == s.units then create_by s m values (create_refusal m.member values)
    else refused s (BadCount (length values) s.units)

-- The line `create`.
abbrev pub create_turn : State → List ℕ → List (List ℕ) → Turn
create_turn s name values = create_at s name (member_of s.members name) values

-- `set` writes the value to the unit of an item, where nothing refuses it.
abbrev pub set_by : State → KeptMember → ItemId → ℕ → List ℕ → Option EditFault → Turn
set_by s m item unit value (Some fault) = refused s (Edit fault)
set_by s m item unit value None =
    acted (Changed (next_version m.member))
    (Make m.member.id item (next_version m.member) (edited_contents unit value))
    (state_with m.name (edited m.member item unit value) s)

-- The same where the replica's name was looked up.
abbrev pub set_at : State → List ℕ → Option KeptMember → ItemId → ℕ → List ℕ → Turn
set_at s name None item unit value = refused s (NoReplica name)
set_at s name (Some m) item unit value =
    set_by s m item unit value (set_refusal s.units m.member item unit value)

-- The line `set`.
abbrev pub set_turn : State → List ℕ → ItemId → ℕ → List ℕ → Turn
set_turn s name item unit value = set_at s name (member_of s.members name) item unit value

-- `delete` deletes an item, where nothing refuses it.
abbrev pub delete_by : State → KeptMember → ItemId → Option EditFault → Turn
delete_by s m item (Some fault) = refused s (Edit fault)
delete_by s m item None =
    acted (Changed (next_version m.member))
    (Make m.member.id item (next_version m.member) (deleted_contents s.units))
    (state_with m.name (deleted m.member item) s)

-- The same where the replica's name was looked up.
abbrev pub delete_at : State → List ℕ → Option KeptMember → ItemId → Turn
delete_at s name None item = refused s (NoReplica name)
delete_at s name (Some m) item = delete_by s m item (delete_refusal m.member item)

-- The line `delete`.
abbrev pub delete_turn : State → List ℕ → ItemId → Turn
delete_turn s name item = delete_at s name (member_of s.members name) item

-- `show` shows the replica that was looked up.
abbrev pub show_at : State → List ℕ → Option KeptMember → Turn
show_at s name None = refused s (NoReplica name)
show_at s name (Some m) = answered s (Shown (listing s.units (named_member m)))

-- The line `show`.
abbrev pub show_turn : State → List ℕ → Turn
show_turn s name = show_at s name (member_of s.members name)

-- `knows` tells whether the knowledge of the replica that was looked up contains the version at a unit of an
-- item.
abbrev pub knows_at : State → List ℕ → Option KeptMember → ItemId → ℕ → Version → Turn
knows_at s name None item unit version = refused s (NoReplica name)
knows_at s name (Some m) item unit version =
    if nat_lt unit s.units then answered s (Known (contains m.member item unit version))
    else refused s (Edit (BadUnit unit s.units))

-- The line `knows`.
abbrev pub knows_turn : State → List ℕ → ItemId → ℕ → Version → Turn
knows_turn s name item unit version = knows_at s name (member_of s.members name) item unit version

-- `equal` compares the two replicas that were looked up.
abbrev pub equal_at : State → List ℕ → List ℕ → Option KeptMember → Option KeptMember → Turn
equal_at s first second None other = refused s (NoReplica first)
equal_at s first second (Some m) None = refused s (NoReplica second)
equal_at s first second (Some m) (Some n) =
    answered s (Compared (know_same s.units m.member n.member) (hold_same m.member n.member))

-- The line `equal`.
abbrev pub equal_turn : State → List ℕ → List ℕ → Turn
equal_turn s first second = equal_at s first second (member_of s.members first) (member_of s.members second)

-- The session leaves alone what both sides changed.
abbrev pub leaves_changes : Keep → Bool
leaves_changes keeps.Source = false
leaves_changes keeps.Destination = false
leaves_changes keeps.Merge = false
leaves_changes keeps.Skip = true

-- The session leaves alone items whose names clash.
abbrev pub leaves_names : ClashRule → Bool
leaves_names clash_rules.Source = false
leaves_names clash_rules.Destination = false
leaves_names clash_rules.RenameSource = false
leaves_names clash_rules.RenameDestination = false
leaves_names clash_rules.Skip = true

-- The session is one of those that are built: it leaves each conflict alone, and shows no bytes.
abbrev pub is_built : Keep → ClashRule → Options → Bool
is_built keep clash options = leaves_changes keep && (leaves_names clash && not options.trace)

-- The rules of the sessions that are built: each conflict is left alone, so nothing is merged.
abbrev pub built_rules : RulesData
built_rules = record { keep = keeps.Skip; clash = clash_rules.Skip; merge = longer }

-- A session under these options from one member to another.
abbrev pub session_under : ℕ → Member → Member → Options → SessionResult
session_under units source destination options =
    session_of units source destination built_rules options.batch options.cut

-- What happens in the world by that session.
abbrev pub deeds_under : ℕ → Member → Member → Options → List Deed
deeds_under units source destination options =
    session_deeds units source destination built_rules options.batch options.cut

-- The line of a session of which this came. The destination is then what the session made of it, and all
-- others stay; so it is in each state that the session commits.
abbrev pub synced : State → List ℕ → List Deed → ℕ → SessionResult → Turn
synced s destination deeds group result = record {
  reply = Synced (report_text result.course.steps result.end) result.end;
  deeds = deeds;
  commits = map (λ m. state_with destination m s) (committed group result.course.moments);
  state = state_with destination result.course.member s;
}

-- `sync` runs a session, where nothing refuses it, and tells what it did.
abbrev pub sync_by : State → KeptMember → KeptMember → Options → Option SessionFault → Turn
sync_by s source destination options (Some fault) = refused s (Session fault)
sync_by s source destination options None =
    synced s destination.name (deeds_under s.units source.member destination.member options) options.group
    (session_under s.units source.member destination.member options)

-- The same where the names of both replicas were looked up.
abbrev pub session_at : State → List ℕ → List ℕ → Option KeptMember → Option KeptMember → Options → Turn
session_at s source destination None other options = refused s (NoReplica source)
session_at s source destination (Some m) None options = refused s (NoReplica destination)
session_at s source destination (Some m) (Some n) options =
    sync_by s m n options (session_refusal s.units m.member n.member)

-- The line `sync` of a session that is built.
abbrev pub session_turn : State → List ℕ → List ℕ → Options → Turn
session_turn s source destination options =
    session_at s source destination (member_of s.members source) (member_of s.members destination) options

-- The line `sync`.
abbrev pub sync_turn : State → List ℕ → List ℕ → Keep → ClashRule → Options → Turn
sync_turn s source destination keep clash options =
    if is_built keep clash options then session_turn s source destination options else refused s NotBuilt

-- The line says the unit count.
abbrev pub is_units : Line → Bool
is_units (lines.Units n) = true
is_units line = false

-- What comes of a line.
abbrev pub turn_of : State → Line → Turn
turn_of s (lines.Units n) = units_turn s n
turn_of s (lines.Replica name id) = replica_turn s name id
turn_of s (lines.Files name id) = refused s NotBuilt
turn_of s (lines.Create replica values) = create_turn s replica values
turn_of s (lines.Set replica item unit value) = set_turn s replica item unit value
turn_of s (lines.Delete replica item) = delete_turn s replica item
turn_of s (lines.Clean replica item) = refused s NotBuilt
turn_of s (lines.Scan replica) = refused s NotBuilt
turn_of s (lines.Sync source destination keep clash options) = sync_turn s source destination keep clash options
turn_of s (lines.Show replica) = show_turn s replica
turn_of s (lines.Knows replica item unit version) = knows_turn s replica item unit version
turn_of s (lines.Equal first second) = equal_turn s first second

-- What comes of a line as it was read: bytes that are none are refused for where they go wrong first.
abbrev pub turn_by : State → Read Line → Turn
turn_by s (Ok line) = turn_of s line
turn_by s (Err cause) = refused s (Syntax (cause_place cause))

-- What comes of a line of a script.
abbrev pub turn : State → List ℕ → Turn
turn s bytes = turn_by s (reading_of bytes)

-- What comes of a whole script.
pub record Turns : Type 0 where
  pub replies : List Reply
  pub deeds : List Deed
  pub commits : List State
  pub state : State

-- One line, and then those that follow it.
abbrev pub first_then : Turn → Turns → Turns
first_then t ts = record {
  replies = t.reply ∷ ts.replies;
  deeds = t.deeds ++ ts.deeds;
  commits = t.commits ++ ts.commits;
  state = ts.state;
}

-- The lines one by one, each from the state that the one before it left.
abbrev pub turns : State → List (List ℕ) → Turns
turns s [] = record { replies = []; deeds = []; commits = []; state = s }
turns s (line ∷ lines) =
    if is_passed line then turns s lines else first_then (turn s line) (turns (turn s line).state lines)

-- The last of the list, and the first one given where it is empty.
abbrev pub last_or : {A : Type 0} → A → List A → A
last_or first [] = first
last_or first (x ∷ xs) = last_or x xs
