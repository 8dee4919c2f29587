-- A run with a session that is cut: the replica 10 creates five items, and the replica 11, which is new, gets
-- the first two of them.
use Rattle.std.specs.Prelude.{ℕ, Bool, if◌then◌else◌, nat_eq, ◌&&◌, List, [], ◌∷◌, map, Option, Some, None, codes}
use Rattle.std.specs.Option.{option_map}
use Rattle.sfx_ids.specs.declared.item_id.ItemId.{ItemId}
use Rattle.sfx_ids.specs.declared.version.Version.{Version}
use Rattle.sfx_model.specs.declared.clash_rule.ClashRule.TheVariants as clash_rules
use Rattle.sfx_model.specs.declared.keep.Keep.TheVariants.{Skip}
use Rattle.sfx_model.specs.sessions.Deeds.{session_deeds}
use Rattle.sfx_model.specs.world.Events.{Event, Units, Join, Make, Deed, Own, ForgetFrom, ApplyFrom, LearnFrom, after_all, after_deeds, site_of}
use Rattle.sfx_model.specs.members.Members.{Community, Member, contains}
use Rattle.sfx_model.specs.sessions.SessionExamples.{destination_of, five, nth_item, new, rules_of, skipping, nth_version}
use Rattle.sfx_model.specs.members.States.{created_contents}
use Rattle.sfx_model.specs.world.World.{Record, Site, World, Written, empty_world}

-- The names of the five items.
abbrev pub five_names : List (List ℕ)
five_names = codes "n1" ∷ codes "n2" ∷ codes "n3" ∷ codes "n4" ∷ codes "n5" ∷ []

-- The creation of an item with this name and the value `x`, at this tick.
abbrev pub creation : ℕ → List ℕ → Event
creation tick name = Make 10 (nth_item tick 10) (nth_version tick 10) (created_contents (name ∷ codes "x" ∷ []))

-- Items get two units, the replica A joins and creates five items, and the replica B joins.
abbrev pub before_cut : List Event
before_cut =
    Units 2 ∷ Join 10
    ∷ creation 1 (codes "n1") ∷ creation 2 (codes "n2") ∷ creation 3 (codes "n3") ∷ creation 4 (codes "n4") ∷ creation 5 (codes "n5")
    ∷ Join 11 ∷ []

-- The world then.
abbrev pub world_before : World
world_before = after_all empty_world before_cut

-- The deeds of the session from A to B that is cut destination_of two entries.
abbrev pub cut_deeds : List Deed
cut_deeds = session_deeds 2 five new (rules_of Skip clash_rules.Skip) 100 (Some 2)

-- The world destination_of it.
abbrev pub cut_world : World
cut_world = after_deeds world_before cut_deeds

-- B destination_of it.
abbrev pub cut_member : Member
cut_member = destination_of (skipping five new 100 (Some 2))

-- Both replicas destination_of it.
abbrev pub cut_community : Community
cut_community = record {
  units = 2;
  members = record { name = codes "A"; member = five } ∷ record { name = codes "B"; member = cut_member } ∷ [];
}

-- The item of an entry that B gets from A, where the deed is one.
abbrev pub got : Deed → Option ItemId
got (Own event) = None
got (ForgetFrom r source lo hi) = None
got (ApplyFrom r source i v marks) = if nat_eq r 11 && nat_eq source 10 then Some i else None
got (LearnFrom r source lo hi left) = None

-- The records of the item that was created at this tick, with this name: its value and its name.
abbrev pub created_records : ℕ → List ℕ → List Record
created_records tick name =
    record { item = nth_item tick 10; unit = 1; version = nth_version tick 10; content = Written (codes "x"); made_knowing = [] }
    ∷ record { item = nth_item tick 10; unit = 0; version = nth_version tick 10; content = Written name; made_knowing = [] } ∷ []

-- The ticks at which the five items were created.
abbrev pub five_ticks : List ℕ
five_ticks = 1 ∷ 2 ∷ 3 ∷ 4 ∷ 5 ∷ []

-- What the site of the replica knows of the name of each of the five items.
abbrev pub known_names : World → ℕ → Option (List (List Version))
known_names w r = option_map (λ (s : Site). map (λ tick. s.known (nth_item tick 10) 0) five_ticks) (site_of w.sites r)

-- Which of the five items the site of the replica has.
abbrev pub present_items : World → ℕ → Option (List Bool)
present_items w r = option_map (λ (s : Site). map (λ tick. s.present (nth_item tick 10)) five_ticks) (site_of w.sites r)

-- Whether the member's knowledge of the name of each of the five items contains the version of its creation.
abbrev pub contained : Member → List Bool
contained m = map (λ tick. contains m (nth_item tick 10) 0 (nth_version tick 10)) five_ticks
