use Rattle.std.specs.Prelude.{ℕ, Bool, false, ◌&&◌, if◌then◌else◌, nat_eq, List, [], ◌∷◌}
use Rattle.sfx_ids.specs.declared.cut.Cut.TheVariants.{Start}
use Rattle.sfx_ids.specs.declared.item_id.ItemId.{ItemId}
use Rattle.sfx_ids.specs.declared.version.Version.{Version}
use Rattle.sfx_model.specs.world.World.{Content, Written, Deleted, Record, World, empty_world}
use Rattle.sfx_model.specs.world.Events.{Event, Units, Join, Make, same_item, after_all}
use Rattle.sfx_item.specs.Item.{Live}
use Rattle.sfx_model.specs.members.Members.{Member, Community}
use Rattle.sfx_model.specs.members.States.{created_contents, edited_contents}

-- The item of the examples: the first that the replica 1 created. It has one unit.
abbrev pub example_item : ItemId
example_item = record { tick = 1; replica = 1 }

-- The version that the replica made at this tick.
abbrev pub example_version : ℕ → Version
example_version tick = record { replica = 1; tick = tick }

-- The record of that version, with this content, by a maker that knew these.
abbrev pub example_record : ℕ → Content → List Version → Record
example_record tick content knew = record {
  item = example_item;
  unit = 0;
  version = example_version tick;
  content = content;
  made_knowing = knew;
}

-- The records of the versions 1 and 2, the second made knowing the first.
abbrev pub edited_records : List Record
edited_records =
    example_record 2 (Written (98 ∷ [])) (example_version 1 ∷ []) ∷ example_record 1 (Written (97 ∷ [])) [] ∷ []

-- The same and a version 3, whose maker knew these.
abbrev pub edited_again : List Version → List Record
edited_again knew = example_record 3 (Written (99 ∷ [])) knew ∷ edited_records

-- The records of a creation and of a deletion of the item.
abbrev pub deleted : List Record
deleted = example_record 2 Deleted (example_version 1 ∷ []) ∷ example_record 1 (Written (97 ∷ [])) [] ∷ []

-- A world of one replica and one item. The replica has this clock, knows these versions of the item's one
-- unit, has the item or not, and at every place has forgotten its own deletions up to this tick.
abbrev pub example_world : List Record → ℕ → List Version → Bool → ℕ → World
example_world rs clock known present forgotten = record {
  units = 1;
  records = rs;
  sites =
      record {
        id = 1;
        clock = clock;
        known = λ i u. if same_item i example_item && nat_eq u 0 then known else [];
        present = λ i. if same_item i example_item then present else false;
        forgotten = λ place r. if nat_eq r 1 then forgotten else 0;
      }
      ∷ [];
}

-- The item of a short run: the first that the replica 10 created. It has two units, a name and a value.
abbrev pub run_item : ItemId
run_item = record { tick = 1; replica = 10 }

-- The version that the replica of the run made at this tick.
abbrev pub run_version : ℕ → Version
run_version tick = record { replica = 10; tick = tick }

-- A short run: items get two units, the replica 10 joins, it creates an item of the name `n1` and the value
-- `x`, and then sets the value to `y`.
abbrev pub run_events : List Event
run_events =
    Units 2 ∷ Join 10
    ∷ Make 10 run_item (run_version 1) (created_contents ((110 ∷ 49 ∷ []) ∷ (120 ∷ []) ∷ []))
    ∷ Make 10 run_item (run_version 2) (edited_contents 1 (121 ∷ []))
    ∷ []

-- The world after the run.
abbrev pub run_world : World
run_world = after_all empty_world run_events

-- A record of the run.
abbrev pub run_record : ℕ → ℕ → List ℕ → List Version → Record
run_record unit tick bytes knew = record {
  item = run_item;
  unit = unit;
  version = run_version tick;
  content = Written bytes;
  made_knowing = knew;
}

-- The records that the run makes, the latest first.
abbrev pub run_records : List Record
run_records =
    run_record 1 2 (121 ∷ []) (run_version 1 ∷ []) ∷ run_record 1 1 (120 ∷ []) [] ∷ run_record 0 1 (110 ∷ 49 ∷ []) [] ∷ []

-- What the replica holds after the run: its clock is 2, it knows its own versions up to the tick 2
-- everywhere, it has forgotten nothing, and its item has the name of the first version and the value of
-- the second.
abbrev pub run_community : Community
run_community = record {
  units = 2;
  members =
      record {
        name = 65 ∷ [];
        member = record {
          id = 10;
          clock = 2;
          knowledge = (Start, record { base = (10, 2) ∷ []; others = [] }) ∷ [];
          forgotten = (Start, []) ∷ [];
          items =
              record {
                id = run_item;
                state = Live
                    (record { version = run_version 1; value = 110 ∷ 49 ∷ [] } ∷ record { version = run_version 2; value = 121 ∷ [] } ∷ []);
              }
              ∷ [];
        };
      }
      ∷ [];
}

-- A replica that has made nothing and knows nothing.
abbrev pub fresh_member : ℕ → Member
fresh_member id = record {
  id = id;
  clock = 0;
  knowledge = (Start, record { base = []; others = [] }) ∷ [];
  forgotten = (Start, []) ∷ [];
  items = [];
}

-- A state with one id in both of its members.
abbrev pub twins : Community
twins = record {
  units = 2;
  members =
      record { name = 65 ∷ []; member = fresh_member 10 } ∷ record { name = 66 ∷ []; member = fresh_member 10 } ∷ [];
}
