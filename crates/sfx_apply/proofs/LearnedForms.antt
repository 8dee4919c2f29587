-- What is learned_ticks, as the list in its one form.
use Rattle.std.proofs.Common.{◌≡◌, ℕ, ◌≤◌, max, not, ◌&&◌, Bool, if◌then◌else◌, List, Result, Ok, Err, refl, sym, ◌∙◌, ap}
use Rattle.std.specs.Result.{IfOk}
use Rattle.sfx_ids.specs.declared.cut.Cut.{Cut}
use Rattle.sfx_ids.specs.declared.cut.Cut.TheVariants.{Start, At, After, End}
use Rattle.sfx_ids.specs.declared.item_id.ItemId.{ItemId}
use Rattle.sfx_ids.specs.Cut.{is_between}
use Rattle.sfx_knowledge.specs.Knowledge.{Known, HasTicks, IsKnowledge, learned_ticks, tick_at}
use Rattle.sfx_knowledge.specs.Skips.{is_skipped_at}
use Rattle.sfx_knowledge.proofs.KnowledgeLemmas.{one_knowledge}
use Rattle.sfx_model.specs.sessions.MemberKnowledge.{learned_known}
use Rattle.sfx_model.proofs.sessions.StoredKnowledge.{learned_form, learned_has}
use Rattle.sfx_apply.specs.Work.{SameSkips}

same_at : (a b : List (ItemId × ℕ)) (place : Cut) (u : ℕ) → SameSkips a b → is_skipped_at a place u ≡ is_skipped_at b place u
same_at a b Start u same = refl
same_at a b (At i) u same = same i u
same_at a b (After i) u same = refl
same_at a b End u same = refl

-- Knowledge that was learned_ticks but for some units, as that list.
learned_is :
    (units : ℕ) (lo hi : Cut) (skipped left : List (ItemId × ℕ)) (here there k : Known)
    → 1 ≤ units → IsKnowledge units here → IsKnowledge units there → SameSkips skipped left
    → HasTicks units k (learned_ticks lo hi skipped (tick_at here) (tick_at there)) → IsKnowledge units k
    → k ≡ learned_known units lo hi left here there
learned_is units lo hi skipped left here there k some form_here form_there same has form =
    one_knowledge units k (learned_known units lo hi left here there) some form (learned_form units lo hi left here there some form_here form_there)
    (λ place u r is inside.
    has place u r is inside
    ∙ ap (λ (b : Bool). if is_between lo hi place && not b then max (tick_at here place u r) (tick_at there place u r) else tick_at here place u r)
    (same_at skipped left place u same)
    ∙ sym (learned_has units lo hi left here there form_here form_there place u r is inside))

pub learned_ok :
    {E : Type 0} (r : Result Known E) (units : ℕ) (lo hi : Cut) (skipped left : List (ItemId × ℕ)) (here there : Known)
    → 1 ≤ units → IsKnowledge units here → IsKnowledge units there → SameSkips skipped left
    → IfOk r (λ k. HasTicks units k (learned_ticks lo hi skipped (tick_at here) (tick_at there))) → IfOk r (IsKnowledge units)
    → IfOk r (λ k. k ≡ learned_known units lo hi left here there)
learned_ok (Ok k) units lo hi skipped left here there some form_here form_there same has form =
    learned_is units lo hi skipped left here there k some form_here form_there same has form
learned_ok (Err e) units lo hi skipped left here there some form_here form_there same has form = has
