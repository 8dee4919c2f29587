-- An item at the destination, by what is read of it.
use Rattle.std.proofs.Common.{◌≡◌, List, [], Option, Some, None, sym, ◌∙◌, ap}
use Rattle.std.specs.Option.{option_or}
use Rattle.sfx_ids.specs.declared.item_id.ItemId.{ItemId}
use Rattle.sfx_item.specs.Item.{ItemState, ItemData}
use Rattle.sfx_model.specs.members.Members.{AreAscending, state_of}
use Rattle.sfx_model.specs.members.ItemLists.{drop_all, put_all}
use Rattle.sfx_items.proofs.ItemListLemmas.{look_up}

-- It is one that waits, or else the provider's.
pub there_waits :
    (drops : List ItemId) (puts items xs : List ItemData) (i : ItemId) (state : ItemState)
    → drops ≡ [] → AreAscending puts → xs ≡ puts → Some state ≡ state_of xs i
    → Some state ≡ state_of (drop_all drops (put_all puts items)) i
there_waits drops puts items xs i state none ascending same found =
    sym (ap (λ (ds : List ItemId). state_of (drop_all ds (put_all puts items)) i) none
    ∙ look_up puts items i ascending
    ∙ ap (λ (o : Option ItemState). option_or o (state_of items i)) (ap (λ (ys : List ItemData). state_of ys i) (sym same) ∙ sym found))

pub none_waits_there :
    (drops : List ItemId) (puts items xs : List ItemData) (i : ItemId)
    → drops ≡ [] → AreAscending puts → xs ≡ puts → None ≡ state_of xs i
    → state_of items i ≡ state_of (drop_all drops (put_all puts items)) i
none_waits_there drops puts items xs i none ascending same found =
    sym (ap (λ (ds : List ItemId). state_of (drop_all ds (put_all puts items)) i) none
    ∙ look_up puts items i ascending
    ∙ ap (λ (o : Option ItemState). option_or o (state_of items i)) (ap (λ (ys : List ItemData). state_of ys i) (sym same) ∙ sym found))
