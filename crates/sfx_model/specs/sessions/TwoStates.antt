-- Two states in one world, as on two machines. On the first one the replica 10 created five items, and the
-- replica 11 got two of them in a session that was cut; on the second one the replica 12 creates an item and
-- sets its value, and the replica 13 gets it in a session.
use Rattle.std.specs.Prelude.{List, [], ◌∷◌, None, codes}
use Rattle.sfx_model.specs.declared.clash_rule.ClashRule.TheVariants as clash_rules
use Rattle.sfx_model.specs.declared.keep.Keep.TheVariants.{Skip}
use Rattle.sfx_model.specs.sessions.CutRun.{cut_community, cut_world}
use Rattle.sfx_model.specs.sessions.Deeds.{session_deeds}
use Rattle.sfx_model.specs.world.Events.{Units, Join, Make, Deed, Own, after_deeds}
use Rattle.sfx_model.specs.members.Members.{Community, Member}
use Rattle.sfx_model.specs.sessions.SessionExamples.{destination_of, alone, nth_item, live_of, rules_of, skipping, nth_version}
use Rattle.sfx_model.specs.members.States.{created_contents, edited_contents}
use Rattle.sfx_model.specs.world.World.{World}

-- The state of the first machine.
abbrev pub first_state : Community
first_state = cut_community

-- The replica 12 with its item, the value of which is set to `y`.
abbrev pub author : Member
author = alone 12 2 (live_of (nth_item 1 12) (nth_version 1 12) (codes "n1") (nth_version 2 12) (codes "y") ∷ [])

-- The replica 13, which is new.
abbrev pub reader : Member
reader = alone 13 0 []

-- What happens on the second machine: the unit count is said again, 12 and 13 join, 12 creates its item with
-- the value `x` and sets that to `y`, and a session brings it to 13.
abbrev pub second_deeds : List Deed
second_deeds =
    Own (Units 2) ∷ Own (Join 12) ∷ Own (Join 13)
    ∷ Own (Make 12 (nth_item 1 12) (nth_version 1 12) (created_contents (codes "n1" ∷ codes "x" ∷ [])))
    ∷ Own (Make 12 (nth_item 1 12) (nth_version 2 12) (edited_contents 1 (codes "y")))
    ∷ session_deeds 2 author reader (rules_of Skip clash_rules.Skip) 100 None

-- The state of the second machine then. Names are a state's own: those of the first one come again.
abbrev pub second_state : Community
second_state = record {
  units = 2;
  members =
      record { name = codes "A"; member = author }
      ∷ record { name = codes "B"; member = destination_of (skipping author reader 100 None) } ∷ [];
}

-- The world afterwards.
abbrev pub two_world : World
two_world = after_deeds cut_world second_deeds
