-- Small sessions between the replicas 10 and 11, whose items have two units, a name and a value.
use Rattle.std.specs.Prelude.{ℕ, if◌then◌else◌, nat_lt, List, [], ◌∷◌, ◌++◌, map, length, Option, Some, None, codes}
use Rattle.std.specs.List.{flat_map}
use Rattle.sfx_ids.specs.declared.cut.Cut.{Cut}
use Rattle.sfx_ids.specs.declared.cut.Cut.TheVariants.{Start, At, After}
use Rattle.sfx_ids.specs.declared.item_id.ItemId.{ItemId}
use Rattle.sfx_ids.specs.declared.version.Version.{Version}
use Rattle.sfx_item.specs.declared.cell.Cell.{Cell}
use Rattle.sfx_vector.specs.Clocks.{Clocks}
use Rattle.sfx_knowledge.specs.Knowledge.{Known}
use Rattle.sfx_knowledge.specs.Forgotten.{nothing_forgotten}
use Rattle.sfx_model.specs.declared.keep.Keep.{Keep}
use Rattle.sfx_model.specs.declared.keep.Keep.TheVariants.{Skip}
use Rattle.sfx_model.specs.declared.clash_rule.ClashRule.{ClashRule}
use Rattle.sfx_model.specs.declared.clash_rule.ClashRule.TheVariants as clash_rules
use Rattle.sfx_model.specs.declared.clash_rule.ClashRule.TheVariants.{RenameSource}
use Rattle.sfx_model.specs.declared.entry_kind.EntryKind.{EntryKind}
use Rattle.sfx_model.specs.declared.mark.Mark.{Mark}
use Rattle.sfx_item.specs.Item.{Live, Dead, ItemData}
use Rattle.sfx_model.specs.members.Members.{Member}
use Rattle.sfx_model.specs.sessions.Entry.{EntryData, OtherData}
use Rattle.sfx_model.specs.sessions.MemberKnowledge.{laid_known}
use Rattle.sfx_model.specs.sessions.Rules.{RulesData}
use Rattle.sfx_model.specs.sessions.Longer.{longer}
use Rattle.sfx_model.specs.sessions.Session.{SessionResult, session_of}

-- The item that the replica created at this tick.
abbrev pub nth_item : ℕ → ℕ → ItemId
nth_item tick replica = record { tick = tick; replica = replica }

-- The version that the replica made at this tick.
abbrev pub nth_version : ℕ → ℕ → Version
nth_version tick replica = record { replica = replica; tick = tick }

-- A cell of this version.
abbrev pub cell_of : Version → List ℕ → Cell
cell_of v value = record { version = v; value = value }

-- A live item of this name and value, each at its version.
abbrev pub live_of : ItemId → Version → List ℕ → Version → List ℕ → ItemData
live_of i v name w value = record { id = i; state = Live (cell_of v name ∷ cell_of w value ∷ []) }

-- An item with this name and the value `x`, as it was created.
abbrev pub created_of : ℕ → ℕ → List ℕ → ItemData
created_of tick replica name =
    live_of (nth_item tick replica) (nth_version tick replica) name (nth_version tick replica) (codes "x")

-- A dead item.
abbrev pub dead_of : ItemId → Version → ItemData
dead_of i v = record { id = i; state = Dead v }

-- A segment with one vector for both units.
abbrev pub segment_of : Cut → Clocks → Known
segment_of place clocks = (place, record { base = clocks; others = [] }) ∷ []

-- A member that has forgotten nothing.
abbrev pub example_member : ℕ → ℕ → Known → List ItemData → Member
example_member id clock knowledge items =
    record { id = id; clock = clock; knowledge = knowledge; forgotten = nothing_forgotten; items = items }

-- A member that knows nothing of others.
abbrev pub alone : ℕ → ℕ → List ItemData → Member
alone id clock items = example_member id clock (segment_of Start []) items

-- The rules that merge to the longer value.
abbrev pub rules_of : Keep → ClashRule → RulesData
rules_of keep clash = record { keep = keep; clash = clash; merge = longer }

-- The session under these rules, in batches of 100 changes.
abbrev pub session_between : Member → Member → Keep → ClashRule → SessionResult
session_between source destination keep clash = session_of 2 source destination (rules_of keep clash) 100 None

-- The session that skips conflicts, in batches of so many changes, up to a cut.
abbrev pub skipping : Member → Member → ℕ → Option ℕ → SessionResult
skipping source destination size cut = session_of 2 source destination (rules_of Skip clash_rules.Skip) size cut

-- The entries of the session.
abbrev pub entries_of : SessionResult → List EntryData
entries_of r = flat_map (λ s. s.applied.entries) r.course.steps

-- The ranges of the session's batches, each with how many changes it has.
abbrev pub ranges_of : SessionResult → List (Cut × Cut × ℕ)
ranges_of r = map (λ s. (s.batch.from, s.batch.to, length s.batch.changes)) r.course.steps

-- The destination afterwards.
abbrev pub destination_of : SessionResult → Member
destination_of r = r.course.member

-- An entry with these marks, the tick of its stamps, the new name of its item, and the other items that
-- it changed.
abbrev pub entry : ItemId → EntryKind → Mark → Mark → Option ℕ → Option (List ℕ) → List OtherData → EntryData
entry i kind name value tick new others =
    record { item = i; kind = kind; marks = name ∷ value ∷ []; tick = tick; name = new; others = others }

-- An entry that draws no tick.
abbrev pub quiet : ItemId → EntryKind → Mark → Mark → EntryData
quiet i kind name value = entry i kind name value None None []

-- Another item that an entry changed.
abbrev pub other : ItemId → ℕ → Option (List ℕ) → OtherData
other i tick name = record { item = i; tick = tick; name = name }

-- The item of the examples.
abbrev pub first : ItemId
first = nth_item 1 10

-- The source that created it, under the name `n1`.
abbrev pub creator : Member
creator = alone 10 1 (created_of 1 10 (codes "n1") ∷ [])

-- A new destination.
abbrev pub new : Member
new = alone 11 0 []

-- The destination that has it from the source.
abbrev pub receiver : Member
receiver = example_member 11 0 (segment_of Start ((10, 1) ∷ [])) (created_of 1 10 (codes "n1") ∷ [])

-- The item with another value, at this version.
abbrev pub revalued : Version → List ℕ → ItemData
revalued v value = live_of first (nth_version 1 10) (codes "n1") v value

-- The destination destination_of it set the value.
abbrev pub editor : List ℕ → Member
editor value = example_member 11 1 (segment_of Start ((10, 1) ∷ [])) (revalued (nth_version 1 11) value ∷ [])

-- The source destination_of it set the value.
abbrev pub rival : Member
rival = alone 10 2 (revalued (nth_version 2 10) (codes "aa") ∷ [])

-- The source destination_of it deleted the item.
abbrev pub deleter : Member
deleter = alone 10 2 (dead_of first (nth_version 2 10) ∷ [])

-- A source with five items.
abbrev pub five : Member
five =
    alone 10 5
    (created_of 1 10 (codes "n1") ∷ created_of 2 10 (codes "n2") ∷ created_of 3 10 (codes "n3")
    ∷ created_of 4 10 (codes "n4") ∷ created_of 5 10 (codes "n5") ∷ [])

-- A source with two items.
abbrev pub two : Member
two = alone 10 2 (created_of 1 10 (codes "n1") ∷ created_of 2 10 (codes "n2") ∷ [])

-- A source with an item named `dir`.
abbrev pub folder : Member
folder = alone 10 1 (created_of 1 10 (codes "dir") ∷ [])

-- A destination with an item below it.
abbrev pub file : Member
file = alone 11 1 (created_of 1 11 (codes "dir/f") ∷ [])

-- The destination with one more item, in the way of the first new name.
abbrev pub files : Member
files = alone 11 2 (created_of 1 11 (codes "dir/f") ∷ created_of 2 11 (codes "dir~1/g") ∷ [])

-- The items of the destination afterwards.
abbrev pub items_after : SessionResult → List ItemData
items_after r = (destination_of r).items

-- What the destination knows afterwards, its own versions included.
abbrev pub known_after : SessionResult → Known
known_after r = laid_known 2 (destination_of r)

-- The session that goes on destination_of one that was cut behind two of five items.
abbrev pub rest_of : SessionResult
rest_of = skipping five (destination_of (skipping five new 100 (Some 2))) 100 None

-- What is known destination_of the cut: the two items alone.
abbrev pub first_two : Known
first_two =
    segment_of Start [] ++ segment_of (At (nth_item 1 10)) ((10, 5) ∷ []) ++ segment_of (After (nth_item 1 10)) []
    ++ segment_of (At (nth_item 2 10)) ((10, 5) ∷ []) ++ segment_of (After (nth_item 2 10)) []

-- The session in which both sides set the value.
abbrev pub conflict : Keep → SessionResult
conflict keep = session_between rival (editor (codes "b")) keep clash_rules.Skip

-- What is known destination_of it where the value was left alone.
abbrev pub unknown_value : Known
unknown_value =
    segment_of Start ((10, 2) ∷ (11, 1) ∷ [])
    ++ (At first, record { base = (10, 2) ∷ (11, 1) ∷ []; others = (1, (10, 1) ∷ (11, 1) ∷ []) ∷ [] })
    ∷ segment_of (After first) ((10, 2) ∷ (11, 1) ∷ [])

-- The session in which the source deleted the item, and the destination set its value.
abbrev pub deletion : Keep → SessionResult
deletion keep = session_between deleter (editor (codes "b")) keep clash_rules.Skip

-- The session in which the names clash.
abbrev pub collision : ClashRule → SessionResult
collision rule = session_between folder file Skip rule

-- The session in which the first new name clashes too.
abbrev pub second_collision : SessionResult
second_collision = session_between folder files Skip RenameSource
