use Rattle.std.proofs.Common.{◌<◌, arith, inl, inr, subst, sym}
use Rattle.sfx_ids.specs.declared.item_id.ItemId.{ItemId}
use Rattle.sfx_model.specs.members.Members.{IsIdBelow}
use Rattle.sfx_replica_tests.proofs.items.takes_many_items_away.Goals as goal

pub drop_all-requires : goal.drop_all-requires
drop_all-requires w c =
    let first = c.item_id.ensures in
    let second = c.item_id-2.ensures in
    let less : c.item_id.result.tick < c.item_id-2.result.tick = omega (arith, first, second) in (
      omega arith,
      (
        c.list-items.ensures,
        (
          λ j has. elim has [
            | inl is ↦ subst (λ (i : ItemId). IsIdBelow c.item_id.result i) (sym is) (inl less)
            | inr none ↦ absurd none
          ],
          (λ j none. absurd none, tt),
        ),
      ),
    )
