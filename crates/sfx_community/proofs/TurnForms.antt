-- The forms that the turn of a line can have. What is said of every line is said of these, and `line_form` is the one
-- walk over the kinds of lines.
use Rattle.std.proofs.Common.{◌≡◌, ◌≢◌, ℕ, ◌<◌, ◌≤◌, ◌^◌, Bool, true, false, if◌then◌else◌, Option, Some, None, Ok, Err, List, length, inl, inr, ◌==◌, refl, ap, arith, nat_eq, nat_lt, slice_get}
use Rattle.std.specs.Result.{result_ok}
use Rattle.std.proofs.lemmas.Bool.{eqb-true}
use Rattle.std.proofs.lemmas.Bool.Decides.{nat_tests}
use Rattle.sfx_ids.specs.declared.item_id.ItemId.{ItemId}
use Rattle.sfx_ids.specs.declared.version.Version.{Version}
use Rattle.sfx_item.specs.Item.{ItemState, Live, Dead}
use Rattle.sfx_model.specs.world.Events.{Event, Units, Join, Make}
use Rattle.sfx_model.specs.world.Units.{IsUnitCount}
use Rattle.sfx_model.specs.world.World.{World, WellFormed}
use Rattle.sfx_model.specs.members.Members.{Member, contains, state_of}
use Rattle.sfx_model.specs.members.StandsIn.{StateStandsIn}
use Rattle.sfx_model.specs.members.States.{Continues, IsOf, Rises, next_item, next_version, created_contents, deleted_contents, edited_contents}
use Rattle.sfx_model.specs.sessions.Acts.{IsOrderly}
use Rattle.sfx_model.proofs.members.StateContinues.{creation_continues, deletion_continues, edit_continues}
use Rattle.sfx_replica.specs.declared.edit_fault.EditFault.{EditFault}
use Rattle.sfx_replica.specs.declared.edit_fault.EditFault.TheVariants.{BadUnit}
use Rattle.sfx_replica.specs.Edits.{created, deleted_from, edited_from, new_member, risen}
use Rattle.sfx_replica.specs.Refusals.{create_refusal, delete_refusal, deletion_refusal, first_name_refusal, full_clock, set_refusal, state_refusal}
use Rattle.sfx_replica.proofs.EditsKeepConsistency.{both_none, can_rise, may_write}
use Rattle.sfx_script.specs.Limits.{IsLimited}
use Rattle.sfx_script.specs.Reading.{Read, reading_of}
use Rattle.sfx_script.specs.Wrong.{cause_place}
use Rattle.sfx_script.specs.declared.line.Line.{Line}
use Rattle.sfx_script.specs.declared.line.Line.TheVariants as lines
use Rattle.sfx_script.specs.declared.options.Options.{Options}
use Rattle.sfx_script.proofs.LimitsLemmas.{line_limited}
use Rattle.sfx_session.specs.declared.session_fault.SessionFault.{SessionFault}
use Rattle.sfx_session.specs.Refusals.{session_refusal}
use Rattle.sfx_reply.specs.declared.reason.Reason.{Reason}
use Rattle.sfx_reply.specs.declared.reason.Reason.TheVariants.{Syntax, NotBuilt, BadUnits, UnitsSet, NoUnits, NameTaken, IdTaken, NoReplica, BadCount, Edit, Session}
use Rattle.sfx_reply.specs.declared.reply.Reply.{Reply}
use Rattle.sfx_reply.specs.declared.reply.Reply.TheVariants.{Done, Created, Changed, Known, Compared, Refused}
use Rattle.sfx_community.specs.Sameness.{hold_same, know_same}
use Rattle.sfx_community.specs.History.{IsNotAhead, is_of_session}
use Rattle.sfx_community.specs.State.{KeptMember, State, community_of, has_name, is_id_taken, member_of, state_added, state_among, state_with}
use Rattle.sfx_community.specs.Turn.{Turn, acted, answered, create_at, create_by, delete_at, delete_by, equal_at, is_built, is_unit_count, knows_at, refused, replica_turn, session_at, set_at, set_by, show_at, sync_by, turn_by, units_turn}
use Rattle.sfx_community.proofs.StateLemmas.{changes}
use Rattle.sfx_community.proofs.OrderlyMembers.{created_orderly, deleted_orderly, edited_orderly}

-- the world before the line is well-formed, and the state stands in it
pub record Stands (w : World) (s : State) : Type 0 where
  pub ok : WellFormed w
  pub stands : StateStandsIn w (community_of s)

-- a member of the state, which a name finds
pub record IsFound (s : State) (m : KeptMember) : Type 0 where
  pub name : List ℕ
  pub found : member_of s.members name ≡ Some m

-- The reply tells of no session, refuses none because its source is ahead, and does not find the same knowledge
-- and different items.
pub record IsPlain (reply : Reply) : Type 0 where
  pub alone : is_of_session reply ≡ false
  pub not_ahead : IsNotAhead reply
  pub fair : reply ≢ Compared true false

-- The member becomes n by an event of its own, which may happen wherever the state stands. Lists that are in
-- order stay so.
pub record IsEdit (s : State) (m : KeptMember) (n : Member) (event : Event) (reply : Reply) : Type 0 where
  pub found : IsFound s m
  pub plain : IsPlain reply
  pub own : IsOf event m.member.id
  pub id : n.id ≡ m.member.id
  pub continues : (w : World) → Stands w s → Continues w event (community_of (state_with m.name n s))
  pub orderly : (w : World) → Stands w s → IsOrderly s.units m.member → IsOrderly s.units n

pub data IsTurn : State → Turn → Type 0 where
  -- the reply alone
  tells : (s : State) (reply : Reply) → IsPlain reply → IsTurn s (answered s reply)
  -- two members are compared
  compares : (s : State) (m n : KeptMember) → IsFound s m → IsFound s n
      → IsTurn s (answered s (Compared (know_same s.units m.member n.member) (hold_same m.member n.member)))
  -- the unit count is said
  counts : (s : State) (n : ℕ) → IsUnitCount n → s.units ≡ 0 → IsTurn s (acted Done (Units n) (state_among n s.members))
  -- a replica joins
  joins : (s : State) (name : List ℕ) (id : ℕ) → id < 2 ^ 128 → 1 ≤ s.units → is_id_taken id s.members ≡ false
      → IsTurn s (acted Done (Join id) (state_added name (new_member id) s))
  -- a replica makes a version
  edits : (s : State) (m : KeptMember) (n : Member) (event : Event) (reply : Reply) → IsEdit s m n event reply
      → IsTurn s (acted reply event (state_with m.name n s))
  -- a session is refused
  refuses : (s : State) (m n : KeptMember) (fault : SessionFault) → IsFound s m → IsFound s n
      → session_refusal s.units m.member n.member ≡ Some fault → IsTurn s (refused s (Session fault))
  -- a session runs
  meets : (s : State) (m n : KeptMember) (options : Options) → IsFound s m → IsFound s n → 1 ≤ options.batch
      → session_refusal s.units m.member n.member ≡ None → IsTurn s (sync_by s m n options None)

-- whichever of two turns a test chooses
either : {s : State} (b : Bool) (t u : Turn) → IsTurn s t → IsTurn s u → IsTurn s (if b then t else u)
either true t u one other = one
either false t u one other = other

refusing : (s : State) (reason : Reason) → IsNotAhead (Refused reason) → IsTurn s (refused s reason)
refusing s reason other = tells s (Refused reason) (record { alone = refl; not_ahead = other; fair = λ is. cc })

-- `units`
units_form : (s : State) (n : ℕ) → IsTurn s (units_turn s n)
units_form s n = either (is_unit_count n) _ _ (by_two (nat_eq n 2) refl) (refusing s (BadUnits n) (λ tick clock is. cc)) where
  by_units : (b : Bool) → nat_eq s.units 0 ≡ b → nat_eq n 2 ≡ true
      → IsTurn s (if b then acted Done (Units n) (state_among n s.members) else refused s UnitsSet)
  by_units true unsaid two = counts s n (inr (inl (eqb-true n 2 two))) (eqb-true s.units 0 unsaid)
  by_units false unsaid two = refusing s UnitsSet (λ tick clock is. cc)

  by_two : (b : Bool) → nat_eq n 2 ≡ b
      → IsTurn s (if b then (if nat_eq s.units 0 then acted Done (Units n) (state_among n s.members) else refused s UnitsSet) else refused s NotBuilt)
  by_two true two = by_units (nat_eq s.units 0) refl two
  by_two false two = refusing s NotBuilt (λ tick clock is. cc)

some_units : (n : ℕ) → nat_eq n 0 ≡ false → 1 ≤ n
some_units n test = grind (arith, nat_tests)

-- `replica`
replica_form : (s : State) (name : List ℕ) (id : ℕ) → id < 2 ^ 128 → IsTurn s (replica_turn s name id)
replica_form s name id fits = by_units (nat_eq s.units 0) refl where
  by_id : (b : Bool) → is_id_taken id s.members ≡ b → nat_eq s.units 0 ≡ false
      → IsTurn s (if b then refused s IdTaken else acted Done (Join id) (state_added name (new_member id) s))
  by_id true taken units = refusing s IdTaken (λ tick clock is. cc)
  by_id false taken units = joins s name id fits (some_units s.units units) taken

  by_units : (b : Bool) → nat_eq s.units 0 ≡ b
      → IsTurn s (if b then refused s NoUnits else if has_name name s.members then refused s NameTaken else if is_id_taken id s.members then refused s IdTaken else acted Done (Join id) (state_added name (new_member id) s))
  by_units true units = refusing s NoUnits (λ tick clock is. cc)
  by_units false units = either (has_name name s.members) _ _ (refusing s NameTaken (λ tick clock is. cc)) (by_id (is_id_taken id s.members) refl units)

-- a member whose clock rises
rises : (units : ℕ) (m : Member) (items : _) → Rises units m (risen m items) items
rises units m items = record { id = refl; clock = refl; knowledge = λ place u r there small other. refl; forgotten = refl; holds = refl }

-- `create`
create_edits : (s : State) (m : KeptMember) (values : List (List ℕ)) → IsFound s m → length values ≡ s.units → create_refusal m.member values ≡ None
    → IsEdit s m (created m.member values) (Make m.member.id (next_item m.member) (next_version m.member) (created_contents values)) (Created (next_item m.member))
create_edits s m values here whole free =
    let n = created m.member values in
    let d = community_of (state_with m.name n s) in
    let changed = changes s here.name m n here.found in
    record {
      found = here;
      plain = record { alone = refl; not_ahead = λ tick clock is. cc; fair = λ is. cc };
      own = refl;
      id = refl;
      continues = λ w at.
          let (named, room) = both_none (first_name_refusal m.member (slice_get values 0)) (full_clock m.member) free in
          creation_continues w (community_of s) d m.member n values at.ok at.stands changed (can_rise m.member room) whole (rises s.units m.member n.items);
      orderly = λ w at orderly. created_orderly w (community_of s) d m.member n values at.ok at.stands changed orderly whole free;
    }

create_form : (s : State) (name : List ℕ) (values : List (List ℕ)) (o : Option KeptMember) → member_of s.members name ≡ o → IsTurn s (create_at s name o values)
create_form s name values None found = refusing s (NoReplica name) (λ tick clock is. cc)
create_form s name values (Some m) found = by_count (length values == s.units) refl where
  by_fault : length values ≡ s.units → (f : Option EditFault) → create_refusal m.member values ≡ f → IsTurn s (create_by s m values f)
  by_fault whole (Some fault) e = refusing s (Edit fault) (λ tick clock is. cc)
  by_fault whole None e = edits s m _ _ _ (create_edits s m values (record { name = name; found = found }) whole e)

  by_count : (b : Bool) → (length values == s.units) ≡ b
      → IsTurn s (if b then create_by s m values (create_refusal m.member values) else refused s (BadCount (length values) s.units))
  by_count true e = by_fault (eqb-true (length values) s.units e) (create_refusal m.member values) refl
  by_count false e = refusing s (BadCount (length values) s.units) (λ tick clock is. cc)

-- `set`
set_edits : (s : State) (m : KeptMember) (i : ItemId) (unit : ℕ) (value : List ℕ) (state : Option ItemState)
    → IsFound s m → state_of m.member.items i ≡ state → state_refusal s.units m.member i unit value state ≡ None
    → IsEdit s m (edited_from m.member i unit value state) (Make m.member.id i (next_version m.member) (edited_contents unit value)) (Changed (next_version m.member))
set_edits s m i unit value None here held free = absurd (cc)
set_edits s m i unit value (Some (Dead v)) here held free = absurd (cc)
set_edits s m i unit value (Some (Live cells)) here held free =
    let may = may_write s.units m.member i unit value free in
    let n = edited_from m.member i unit value (Some (Live cells)) in
    let d = community_of (state_with m.name n s) in
    record {
      found = here;
      plain = record { alone = refl; not_ahead = λ tick clock is. cc; fair = λ is. cc };
      own = refl;
      id = refl;
      continues = λ w at.
          edit_continues w (community_of s) d m.member n i unit value cells at.ok at.stands (changes s here.name m n here.found) may.room may.inside held
          (rises s.units m.member n.items);
      orderly = λ w at orderly. edited_orderly s.units m.member i cells unit value orderly held may;
    }

set_form : (s : State) (name : List ℕ) (i : ItemId) (unit : ℕ) (value : List ℕ) (o : Option KeptMember) → member_of s.members name ≡ o
    → IsTurn s (set_at s name o i unit value)
set_form s name i unit value None found = refusing s (NoReplica name) (λ tick clock is. cc)
set_form s name i unit value (Some m) found = by_fault (set_refusal s.units m.member i unit value) refl where
  by_fault : (f : Option EditFault) → set_refusal s.units m.member i unit value ≡ f → IsTurn s (set_by s m i unit value f)
  by_fault (Some fault) e = refusing s (Edit fault) (λ tick clock is. cc)
  by_fault None e = edits s m _ _ _ (set_edits s m i unit value (state_of m.member.items i) (record { name = name; found = found }) refl e)

-- `delete`
delete_edits : (s : State) (m : KeptMember) (i : ItemId) (state : Option ItemState)
    → IsFound s m → state_of m.member.items i ≡ state → deletion_refusal m.member state ≡ None
    → IsEdit s m (deleted_from m.member i state) (Make m.member.id i (next_version m.member) (deleted_contents s.units)) (Changed (next_version m.member))
delete_edits s m i None here held free = absurd (cc)
delete_edits s m i (Some (Dead v)) here held free = absurd (cc)
delete_edits s m i (Some (Live cells)) here held free =
    let n = deleted_from m.member i (Some (Live cells)) in
    let room = can_rise m.member free in
    record {
      found = here;
      plain = record { alone = refl; not_ahead = λ tick clock is. cc; fair = λ is. cc };
      own = refl;
      id = refl;
      continues = λ w at.
          deletion_continues w (community_of s) (community_of (state_with m.name n s)) m.member n i cells at.ok at.stands
          (changes s here.name m n here.found) room held (rises s.units m.member n.items);
      orderly = λ w at orderly. deleted_orderly s.units m.member i cells orderly held room;
    }

delete_form : (s : State) (name : List ℕ) (i : ItemId) (o : Option KeptMember) → member_of s.members name ≡ o → IsTurn s (delete_at s name o i)
delete_form s name i None found = refusing s (NoReplica name) (λ tick clock is. cc)
delete_form s name i (Some m) found = by_fault (delete_refusal m.member i) refl where
  by_fault : (f : Option EditFault) → delete_refusal m.member i ≡ f → IsTurn s (delete_by s m i f)
  by_fault (Some fault) e = refusing s (Edit fault) (λ tick clock is. cc)
  by_fault None e = edits s m _ _ _ (delete_edits s m i (state_of m.member.items i) (record { name = name; found = found }) refl e)

-- `show`, `knows` and `equal`
show_form : (s : State) (name : List ℕ) (o : Option KeptMember) → IsTurn s (show_at s name o)
show_form s name None = refusing s (NoReplica name) (λ tick clock is. cc)
show_form s name (Some m) = tells s _ (record { alone = refl; not_ahead = λ tick clock is. cc; fair = λ is. cc })

knows_form : (s : State) (name : List ℕ) (i : ItemId) (unit : ℕ) (v : Version) (o : Option KeptMember) → IsTurn s (knows_at s name o i unit v)
knows_form s name i unit v None = refusing s (NoReplica name) (λ tick clock is. cc)
knows_form s name i unit v (Some m) =
    either (nat_lt unit s.units) _ _
    (tells s (Known (contains m.member i unit v)) (record { alone = refl; not_ahead = λ tick clock is. cc; fair = λ is. cc }))
    (refusing s (Edit (BadUnit unit s.units)) (λ tick clock is. cc))

equal_form : (s : State) (first second : List ℕ) (o p : Option KeptMember) → member_of s.members first ≡ o → member_of s.members second ≡ p
    → IsTurn s (equal_at s first second o p)
equal_form s first second None p found_o found_p = refusing s (NoReplica first) (λ tick clock is. cc)
equal_form s first second (Some m) None found_o found_p = refusing s (NoReplica second) (λ tick clock is. cc)
equal_form s first second (Some m) (Some n) found_m found_n =
    compares s m n (record { name = first; found = found_m }) (record { name = second; found = found_n })

-- `sync`
session_form : (s : State) (source destination : List ℕ) (options : Options) (o p : Option KeptMember) → 1 ≤ options.batch
    → member_of s.members source ≡ o → member_of s.members destination ≡ p → IsTurn s (session_at s source destination o p options)
session_form s source destination options None p some found_o found_p = refusing s (NoReplica source) (λ tick clock is. cc)
session_form s source destination options (Some m) None some found_o found_p = refusing s (NoReplica destination) (λ tick clock is. cc)
session_form s source destination options (Some m) (Some n) some found_m found_n = by_fault (session_refusal s.units m.member n.member) refl where
  here : IsFound s m
  here = record { name = source; found = found_m }

  there : IsFound s n
  there = record { name = destination; found = found_n }

  by_fault : (f : Option SessionFault) → session_refusal s.units m.member n.member ≡ f → IsTurn s (sync_by s m n options f)
  by_fault (Some fault) e = refuses s m n fault here there e
  by_fault None e = meets s m n options here there some e

-- what was read is within its limits
abbrev pub KeepsLimits : Read Line → Type 0
KeepsLimits (Ok line) = IsLimited line
KeepsLimits (Err cause) = Unit {0}

pub limits_kept : (line : List ℕ) → KeepsLimits (reading_of line)
limits_kept line = by (reading_of line) refl where
  by : (r : Read Line) → reading_of line ≡ r → KeepsLimits r
  by (Ok read) is = line_limited line read (ap result_ok is)
  by (Err cause) is = tt

-- Any line. This is the one place that goes through the kinds of lines.
pub line_form : (s : State) (r : Read Line) → KeepsLimits r → IsTurn s (turn_by s r)
line_form s (Err cause) limits = refusing s (Syntax (cause_place cause)) (λ tick clock is. cc)
line_form s (Ok (lines.Units n)) limits = units_form s n
line_form s (Ok (lines.Replica name id)) limits = replica_form s name id limits
line_form s (Ok (lines.Files name id)) limits = refusing s NotBuilt (λ tick clock is. cc)
line_form s (Ok (lines.Create name values)) limits = create_form s name values (member_of s.members name) refl
line_form s (Ok (lines.Set name i unit value)) limits = set_form s name i unit value (member_of s.members name) refl
line_form s (Ok (lines.Delete name i)) limits = delete_form s name i (member_of s.members name) refl
line_form s (Ok (lines.Clean name i)) limits = refusing s NotBuilt (λ tick clock is. cc)
line_form s (Ok (lines.Scan name)) limits = refusing s NotBuilt (λ tick clock is. cc)
line_form s (Ok (lines.Sync source destination keep clash options)) limits =
    either (is_built keep clash options) _ _
    (session_form s source destination options (member_of s.members source) (member_of s.members destination) limits.batch.0 refl refl)
    (refusing s NotBuilt (λ tick clock is. cc))
line_form s (Ok (lines.Show name)) limits = show_form s name (member_of s.members name)
line_form s (Ok (lines.Knows name i unit v)) limits = knows_form s name i unit v (member_of s.members name)
line_form s (Ok (lines.Equal first second)) limits = equal_form s first second (member_of s.members first) (member_of s.members second) refl refl
