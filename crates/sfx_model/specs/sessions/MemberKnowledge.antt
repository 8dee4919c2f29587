-- What a member knows and has forgotten after it learned_ticks from another, as lists in their one form.
use Rattle.std.specs.Prelude.{ℕ, max, Bool, ◌||◌, if◌then◌else◌, nat_eq, nat_lt, List, [], ◌∷◌, ◌++◌, map, Option, Some, None}
use Rattle.std.specs.List.{flat_map}
use Rattle.sfx_ids.specs.declared.cut.Cut.{Cut}
use Rattle.sfx_ids.specs.declared.cut.Cut.TheVariants.{Start, At, After, End}
use Rattle.sfx_ids.specs.declared.item_id.ItemId.{ItemId}
use Rattle.sfx_vector.specs.Clocks.{Clocks, tick_of}
use Rattle.sfx_knowledge.specs.Row.{UnitRowData}
use Rattle.sfx_knowledge.specs.Knowledge.{Known, tick_at, learned_ticks}
use Rattle.sfx_knowledge.specs.Forgotten.{Forgets, fvec}
use Rattle.sfx_knowledge.specs.Forms.{knowledge_of, starts_of, replicas_of, listed_in, with_own}
use Rattle.sfx_model.specs.members.Members.{Member}

-- What the member knows, its own versions included.
abbrev pub laid_known : ℕ → Member → Known
laid_known units m = with_own units m.id m.clock m.knowledge

-- The cut, where it is a place.
abbrev pub as_place : Cut → List Cut
as_place Start = Start ∷ []
as_place (At i) = At i ∷ []
as_place (After i) = After i ∷ []
as_place End = []

-- The cuts where a skipped unit's item begins and ends.
abbrev pub skip_cuts : List (ItemId × ℕ) → List Cut
skip_cuts skipped = flat_map (λ s. At s.0 ∷ After s.0 ∷ []) skipped

-- The knowledge joined with the other in the range, but for the units that are skipped there.
abbrev pub learned_known : ℕ → Cut → Cut → List (ItemId × ℕ) → Known → Known → Known
learned_known units lo hi skipped here there =
    knowledge_of units
    (as_place lo ++ (as_place hi ++ (skip_cuts skipped ++ (starts_of here ++ starts_of there))))
    (replicas_of here ++ replicas_of there)
    (learned_ticks lo hi skipped (tick_at here) (tick_at there))

-- What the replica with this id stores after it learned_ticks so: its own entry is not stored.
abbrev pub stored_known : ℕ → ℕ → Cut → Cut → List (ItemId × ℕ) → Known → Known → Known
stored_known units own lo hi skipped here there = with_own units own 0 (learned_known units lo hi skipped here there)

-- The places where the forgotten deletions change.
abbrev pub forgets_starts : Forgets → List Cut
forgets_starts forgotten = map (λ p. p.0) forgotten

-- The replicas that have forgotten deletions.
abbrev pub forgets_replicas : Forgets → List ℕ
forgets_replicas forgotten = flat_map (λ p. listed_in p.1) forgotten

-- The forgotten deletions of both, at each place.
abbrev pub joined_forgets : Forgets → Forgets → Forgets
joined_forgets a b =
    map (λ p. (p.0, p.1.base))
    (knowledge_of 1 (forgets_starts a ++ forgets_starts b) (forgets_replicas a ++ forgets_replicas b)
    (λ place u r. max (tick_of (fvec a place) r) (tick_of (fvec b place) r)))

-- The greatest tick of the replica in the vectors.
abbrev pub most_in : ℕ → List Clocks → ℕ
most_in r [] = 0
most_in r (c ∷ cs) = max (tick_of c r) (most_in r cs)

-- The vectors of the row.
abbrev pub row_clocks : UnitRowData → List Clocks
row_clocks row = row.base ∷ map (λ o. o.1) row.others

-- The greatest tick of the replica in the knowledge and in the forgotten deletions.
abbrev pub most_known : ℕ → Known → Forgets → ℕ
most_known r known forgotten =
    max (most_in r (flat_map (λ p. row_clocks p.1) known)) (most_in r (map (λ p. p.1) forgotten))

-- The member has this id, or it knows or has forgotten something that a replica with this id made.
abbrev pub names_id : ℕ → Member → Bool
names_id id m = nat_eq m.id id || nat_lt 0 (most_known id m.knowledge m.forgotten)

-- That tick, where it is greater than the replica's clock: more is known of the replica than it made.
abbrev pub ahead_of : Member → Known → Forgets → Option ℕ
ahead_of m known forgotten =
    if nat_lt m.clock (most_known m.id known forgotten) then Some (most_known m.id known forgotten) else None
