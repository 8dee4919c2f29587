-- The cells of an item of which units are taken.
use Rattle.std.proofs.Common.{◌≡◌, ℕ, ◌+◌, ◌<◌, if◌then◌else◌, List, ◌++◌, ◌∷◌, [], length, get_or, Option, refl, ◌∙◌, ap}
use Rattle.std.specs.Option.{unwrap_or}
use Rattle.std.proofs.lemmas.Option.{slice_get_read, unwrap_or-slice_get}
use Rattle.sfx_item.specs.declared.cell.Cell.{Cell}
use Rattle.sfx_model.specs.declared.mark.Mark.{Mark}
use Rattle.sfx_model.specs.declared.mark.Mark.TheVariants.{Stays}
use Rattle.sfx_model.specs.sessions.Entry.{is_taken, no_cell}
use Rattle.sfx_model.specs.world.Units.{at_unit, each_unit}
use Rattle.sfx_settle.proofs.UnitTests.{each_more}
use Rattle.sfx_apply.specs.Work.{taken_cells}

cell_read : (cells : List Cell) (u : ℕ) (c : Cell) → c ≡ get_or cells u c → u < length cells → at_unit cells u no_cell ≡ c
cell_read cells u c is inside = ap (λ (o : Option Cell). unwrap_or o no_cell) (slice_get_read cells (length cells) u c refl inside is)

-- One more cell.
pub one_more_cell :
    (marks : List Mark) (seen here old new : List Cell) (u : ℕ) (s h x : Cell)
    → old ≡ each_unit u (λ v. if is_taken (at_unit marks v Stays) then at_unit seen v no_cell else at_unit here v no_cell)
    → new ≡ old ++ x ∷ [] → x ≡ (if is_taken (get_or marks u Stays) then s else h)
    → s ≡ get_or seen u s → h ≡ get_or here u h → u < length seen → u < length here
    → new ≡ each_unit (u + 1) (λ v. if is_taken (at_unit marks v Stays) then at_unit seen v no_cell else at_unit here v no_cell)
one_more_cell marks seen here old new u s h x before now is seen_is here_is in_seen in_here =
    each_more (λ (v : ℕ). if is_taken (at_unit marks v Stays) then at_unit seen v no_cell else at_unit here v no_cell) old new u u x before now
    (is ∙ rw (unwrap_or-slice_get marks u Stays, cell_read seen u s seen_is in_seen, cell_read here u h here_is in_here) refl) refl

pub same_cells :
    (units : ℕ) (marks marks' : List Mark) (seen seen' here here' : List Cell)
    → marks ≡ marks' → seen ≡ seen' → here ≡ here' → taken_cells units marks seen here ≡ taken_cells units marks' seen' here'
same_cells units marks marks' seen seen' here here' m s h = rw (m, s, h) refl
