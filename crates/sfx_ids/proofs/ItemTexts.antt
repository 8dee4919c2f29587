-- An item's text is that of its tick and its replica.
use Rattle.std.proofs.Common.{◌≡◌, ℕ, ◌<◌, ◌^◌, List, take, Some, Option, Result, Ok, unwrap_or, ap}
use Rattle.sfx_ids.specs.declared.item_id.ItemId.{ItemId}
use Rattle.sfx_ids.specs.Prefix.{BeginsPair, BeginsItem, IsLongestPrefix}
use Rattle.sfx_ids.specs.ItemId.{IsItemId}
use Rattle.sfx_ids.specs.Text.{item_text, pair_text, colon}
use Rattle.sfx_ids.specs.Tick.{IsTick}

-- the item of a tick and a replica
abbrev pub item_of : ℕ × ℕ → ItemId
item_of (tick, replica) = record { tick = tick; replica = replica }

pub read_item : (tick replica : ℕ) (text : List ℕ) → IsTick tick × (replica < 2 ^ 128) × (text ≡ pair_text colon tick replica)
    → IsItemId (item_of (tick, replica)) × (text ≡ item_text (item_of (tick, replica)))
unfolding item_text
read_item tick replica text read = (record { tick = read.0; replica = read.1 }, read.2)

-- what was read of an item's text is the item
pub same_item : {E : Type 0} (tick replica : ℕ) (id : ItemId)
    → (let p : ℕ × ℕ = (tick, replica) in let q : ℕ × ℕ = (id.tick, id.replica) in Some p ≡ Some q)
    → ◌≡◌ {A = Result ItemId E} (Ok (item_of (tick, replica))) (Ok id)
same_item tick replica id same =
    let start : ℕ × ℕ = (0, 0) in
    ap Ok (ap item_of (ap (λ (o : Option (ℕ × ℕ)). unwrap_or o start) same))

pub pair_of_item : (id : ItemId) (text : List ℕ) → text ≡ item_text id → text ≡ pair_text colon id.tick id.replica
unfolding item_text
pair_of_item id text is_text = is_text

item_begins : (text : List ℕ) → BeginsPair colon text → BeginsItem text
unfolding item_text
item_begins text prefix = record {
  item = item_of (prefix.tick, prefix.replica);
  rest = prefix.rest;
  valid = record { tick = prefix.is_tick; replica = prefix.is_replica };
  spelled = prefix.spelled;
}

begins_item : (text : List ℕ) → BeginsItem text → BeginsPair colon text
unfolding item_text
begins_item text prefix = record {
  tick = prefix.item.tick;
  replica = prefix.item.replica;
  rest = prefix.rest;
  is_tick = prefix.valid.tick;
  is_replica = prefix.valid.replica;
  spelled = prefix.spelled;
}

-- the longest prefix that begins an item is the longest that begins its pair
pub longest_item : (text : List ℕ) (at : ℕ) → IsLongestPrefix (BeginsPair colon) text at → IsLongestPrefix BeginsItem text at
longest_item text at longest = record {
  within = longest.within;
  begins = item_begins (take at text) longest.begins;
  longest = λ n within prefix. longest.longest n within (begins_item (take n text) prefix);
}
