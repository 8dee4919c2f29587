-- The lists that a member keeps after it learned_ticks: they are in their one form, and have the ticks of
-- learning.
use Rattle.std.proofs.Common.{◌≡◌, ℕ, ◌<◌, ◌≤◌, ◌^◌, ◌&&◌, false, List, [], ◌∷◌, ◌++◌, arith, refl, sym, ◌∙◌}
use Rattle.sfx_ids.specs.declared.cut.Cut.{Cut}
use Rattle.sfx_ids.specs.declared.item_id.ItemId.{ItemId}
use Rattle.sfx_ids.specs.Cut.{cut_lt, cut_le}
use Rattle.sfx_knowledge.specs.Knowledge.{Known, HasTicks, IsKnowledge, tick_at, learned_ticks, laid_over}
use Rattle.sfx_knowledge.specs.Forms.{is_parted}
use Rattle.sfx_knowledge.proofs.StandardFacts.{or-left, or-right}
use Rattle.sfx_knowledge.proofs.KnowledgeLemmas.{one_knowledge}
use Rattle.sfx_knowledge.proofs.FormsLemmas.{IsKnowledge-with_own, ticks-with_own}
use Rattle.sfx_model.specs.sessions.MemberKnowledge.{learned_known, stored_known}
use Rattle.sfx_model.proofs.sessions.MemberKnowledgeLemmas.{learned_known_is}
use Rattle.sfx_model.proofs.sessions.LearnedKnowledge.{ticks_laid}

-- ---- what no cut of a list parts

pub unparted_append :
    (xs ys : List Cut) (p q : Cut)
    → is_parted (xs ++ ys) p q ≡ false → (is_parted xs p q ≡ false) × (is_parted ys p q ≡ false)
unparted_append [] ys p q none = (refl, none)
unparted_append (x ∷ xs) ys p q none =
    let rest = unparted_append xs ys p q (or-right (cut_lt p x && cut_le x q) (is_parted (xs ++ ys) p q) none) in
    let first : (cut_lt p x && cut_le x q) ≡ false = or-left (cut_lt p x && cut_le x q) (is_parted (xs ++ ys) p q) none in
    (rw (first, rest.0) refl, rest.1)

-- What was learned_ticks is knowledge with these ticks.
pub learned_form :
    (units : ℕ) (lo hi : Cut) (skipped : List (ItemId × ℕ)) (here there : Known)
    → 1 ≤ units → IsKnowledge units here → IsKnowledge units there → IsKnowledge units (learned_known units lo hi skipped here there)
learned_form units lo hi skipped here there some form_here form_there =
    (learned_known_is units lo hi skipped here there some form_here form_there).0

pub learned_has :
    (units : ℕ) (lo hi : Cut) (skipped : List (ItemId × ℕ)) (here there : Known)
    → IsKnowledge units here → IsKnowledge units there
    → HasTicks units (learned_known units lo hi skipped here there) (learned_ticks lo hi skipped (tick_at here) (tick_at there))
learned_has units lo hi skipped here there form_here form_there place u r at small =
    (learned_known_is units lo hi skipped here there (omega (arith, small)) form_here form_there).1 place u r at small

-- What is stored of it is knowledge, with these ticks but for the own one.
pub stored_form :
    (units own : ℕ) (lo hi : Cut) (skipped : List (ItemId × ℕ)) (here there : Known)
    → 1 ≤ units → own < 2 ^ 128 → IsKnowledge units here → IsKnowledge units there
    → IsKnowledge units (stored_known units own lo hi skipped here there)
stored_form units own lo hi skipped here there some fits form_here form_there =
    IsKnowledge-with_own units own 0 (learned_known units lo hi skipped here there)
    (learned_known_is units lo hi skipped here there some form_here form_there).0 (omega arith) fits

pub stored_has :
    (units own : ℕ) (lo hi : Cut) (skipped : List (ItemId × ℕ)) (here there : Known)
    → 1 ≤ units → own < 2 ^ 128 → IsKnowledge units here → IsKnowledge units there
    → HasTicks units (stored_known units own lo hi skipped here there)
    (laid_over own 0 (learned_ticks lo hi skipped (tick_at here) (tick_at there)))
stored_has units own lo hi skipped here there some fits form_here form_there =
    ticks_laid units own 0 (learned_ticks lo hi skipped (tick_at here) (tick_at there))
    (learned_known units lo hi skipped here there) (stored_known units own lo hi skipped here there)
    (learned_known_is units lo hi skipped here there some form_here form_there).1
    (ticks-with_own units own 0 (learned_known units lo hi skipped here there)
    (learned_known_is units lo hi skipped here there some form_here form_there).0 (omega arith) fits)

-- A list in its one form that has these ticks is the one that is stored.
pub stored_is :
    (units own : ℕ) (lo hi : Cut) (skipped : List (ItemId × ℕ)) (here there known : Known)
    → 1 ≤ units → own < 2 ^ 128 → IsKnowledge units here → IsKnowledge units there → IsKnowledge units known
    → HasTicks units known (laid_over own 0 (learned_ticks lo hi skipped (tick_at here) (tick_at there)))
    → known ≡ stored_known units own lo hi skipped here there
stored_is units own lo hi skipped here there known some fits form_here form_there form has =
    one_knowledge units known (stored_known units own lo hi skipped here there) some form
    (stored_form units own lo hi skipped here there some fits form_here form_there)
    (λ place u r at small. has place u r at small
    ∙ sym (stored_has units own lo hi skipped here there some fits form_here form_there place u r at small))
