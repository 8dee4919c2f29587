-- The live items of two lists, compared from the front.
use Rattle.std.proofs.Common.{◌≡◌, ◌↔◌, List}
use Rattle.sfx_item.specs.Item.{ItemData}
use Rattle.sfx_model.specs.members.Headline.{live_items}
use Rattle.sfx_replica.specs.Live.{BeginsLive}

-- The live items of both lists are the same.
abbrev pub SameLive : List ItemData → List ItemData → Type 0
SameLive xs ys = live_items xs ≡ live_items ys

-- What is left of both lists has the same live items exactly where the whole lists have; and it begins with a
-- live item, or is empty.
pub record Compares (ours theirs left right : List ItemData) : Type 0 where
  pub same : SameLive ours theirs ↔ SameLive left right
  pub left_live : BeginsLive left
  pub right_live : BeginsLive right
