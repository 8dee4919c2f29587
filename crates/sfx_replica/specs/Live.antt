-- The live items at the front of a list.
use Rattle.std.specs.Prelude.{List, [], ◌∷◌}
use Rattle.sfx_item.specs.Item.{ItemState, Live, Dead, ItemData}

-- The state is live.
abbrev pub IsLiveState : ItemState → Type 0
IsLiveState (Live cells) = Unit {0}
IsLiveState (Dead version) = ⊥

-- The list is empty, or begins with a live item.
abbrev pub BeginsLive : List ItemData → Type 0
BeginsLive [] = Unit {0}
BeginsLive (x ∷ xs) = IsLiveState x.state
