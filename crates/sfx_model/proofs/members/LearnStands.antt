-- A member that learned a range goes on representing its site.
use Rattle.std.proofs.Common.{◌≡◌, ℕ, ◌<◌, ◌≤◌, max, ◌↔◌, not, ◌&&◌, Bool, true, false, if◌then◌else◌, ◌++◌, Option, Some, None, inl, inr, refl, sym, ◌∙◌, subst, arith}
use Rattle.std.proofs.lemmas.Bool.{and_parts}
use Rattle.sfx_ids.specs.declared.cut.Cut.{Cut}
use Rattle.sfx_ids.specs.declared.cut.Cut.TheVariants.{At}
use Rattle.sfx_ids.specs.declared.item_id.ItemId.{ItemId}
use Rattle.sfx_ids.specs.declared.version.Version.{Version}
use Rattle.sfx_segments.specs.Segments.{IsPlace}
use Rattle.sfx_ids.specs.Cut.{is_between}
use Rattle.sfx_model.specs.world.Sets.{Has, IsPart}
use Rattle.sfx_model.specs.world.World.{World, Site, Snapshot, WellFormed, holding, Made}
use Rattle.sfx_model.specs.world.Events.{is_in, is_learned, site_learned, learned, LearnLegal}
use Rattle.sfx_item.specs.Item.{ItemState}
use Rattle.sfx_model.specs.members.Members.{Shown, Represents, ItemRepresents, state_of, clock_among}
use Rattle.sfx_model.specs.members.Results.{LearnResult, BacksRange, joined_in, is_left_at}
use Rattle.sfx_model.proofs.world.WorldLemmas.{grows_self}
use Rattle.sfx_model.proofs.world.SiteLemmas.{site_there}
use Rattle.sfx_model.proofs.world.LearnKeepsWorld.{learn_step, learned_same}
use Rattle.sfx_model.proofs.members.OthersStand.{moved_stands}
use Rattle.sfx_model.proofs.members.FactsHold.{made_below}
use Rattle.sfx_model.proofs.members.MembersLemmas.{own_entry, other_entry, item_same, exact_joined}

-- A learned cell of exact knowledge.
learned_exact :
    (w : World) (s : Site) (snapshot : Snapshot) (lo hi : Cut) (left : ItemId → ℕ → Bool)
    (made_with : Cut → ℕ → ℕ → ℕ) (m : Shown) (i : ItemId) (u : ℕ) (v : Version)
    → Represents w s m → BacksRange w snapshot lo hi made_with → Made w.records i u v
    → (v.tick ≤ joined_in lo hi left m.vector_at made_with (At i) u v.replica) ↔ Has v
    ((site_learned s snapshot lo hi left).known i u)
learned_exact w s snapshot lo hi left made_with m i u v rep backs made = by_test (is_learned lo hi left i u) refl
  where
    by_test :
        (b : Bool)
        → is_learned lo hi left i u ≡ b
        → (v.tick ≤ (if b then max (m.vector_at (At i) u v.replica) (made_with (At i) u v.replica) else m.vector_at
        (At i) u v.replica)) ↔ Has v (if b then s.known i u ++ snapshot.known i u else s.known i u)
    by_test true e =
        let in_range : is_in lo hi i ≡ true = (and_parts (is_in lo hi i) (not (left i u)) e).0 in
        exact_joined v (m.vector_at (At i) u v.replica) (made_with (At i) u v.replica) (s.known i u)
        (snapshot.known i u) (rep.exact i u v made) ((backs.items i in_range).exact u v made)
    by_test false e = rep.exact i u v made

-- Knowledge joined in a range stays within the clocks.
learned_bounded :
    (w : World) (snapshot : Snapshot) (lo hi : Cut) (left : ItemId → ℕ → Bool) (here made_with : Cut → ℕ → ℕ → ℕ)
    (place : Cut) (u r : ℕ)
    → BacksRange w snapshot lo hi made_with → IsPlace place → u < w.units → here place u r ≤ clock_among w.sites r
    → joined_in lo hi left here made_with place u r ≤ clock_among w.sites r
learned_bounded w snapshot lo hi left here made_with place u r backs there small low =
    by_test (is_between lo hi place && not (is_left_at left place u)) refl
  where
    by_test :
        (b : Bool)
        → (is_between lo hi place && not (is_left_at left place u)) ≡ b
        → (if b then max (here place u r) (made_with place u r) else here place u r) ≤ clock_among w.sites r
    by_test true e = let other =
        backs.bounded place u r there small (and_parts (is_between lo hi place) (not (is_left_at left place u)) e).0 in
        omega arith
    by_test false e = low

-- Each item is at the member as the site has it after the range was learned.
learned_item :
    (w : World) (s : Site) (snapshot : Snapshot) (lo hi : Cut) (left : ItemId → ℕ → Bool) (i : ItemId)
    (o : Option ItemState)
    → LearnLegal w s snapshot lo hi left → ItemRepresents w.units w.records i (holding s i) o
    → ItemRepresents w.units w.records i (holding (site_learned s snapshot lo hi left) i) o
learned_item w s snapshot lo hi left i o legal held = by_test (is_in lo hi i) refl
  where
    as_known :
        ((u : ℕ) → is_in lo hi i ≡ true → left i u ≡ false → IsPart (snapshot.known i u) (s.known i u))
        → ItemRepresents w.units w.records i (holding (site_learned s snapshot lo hi left) i) o
    as_known part =
        item_same w.units w.records w.records i (holding s i) (holding (site_learned s snapshot lo hi left) i) o
        (grows_self w.records)
        (λ u small. learned_same (s.known i u) (snapshot.known i u) (is_in lo hi i) (left i u) (part u)) refl held

    absent :
        (p : Option ItemState)
        → s.present i ≡ false → ItemRepresents w.units w.records i (holding s i) p
        → ItemRepresents w.units w.records i (holding (site_learned s snapshot lo hi left) i) p
    absent None here is = is
    absent (Some state) here is = let bad : true ≡ false = sym is.is_present ∙ here in absurd (cc)

    by_test :
        (b : Bool)
        → is_in lo hi i ≡ b → ItemRepresents w.units w.records i (holding (site_learned s snapshot lo hi left) i) o
    by_test true e = elim (legal.items i e) [
      | inl known ↦ as_known (λ u c l. known u l)
      | inr gone ↦ absent o gone.here held
    ]
    by_test false e = as_known (λ u c l. let bad : true ≡ false = sym c ∙ e in absurd (cc))

-- A member that learned a range represents its site.
pub learn_stands :
    (w : World) (s : Site) (snapshot : Snapshot) (lo hi : Cut) (left : ItemId → ℕ → Bool)
    (made_with : Cut → ℕ → ℕ → ℕ) (m n : Shown)
    → WellFormed w → Has s w.sites → LearnLegal w s snapshot lo hi left → Represents w s m
    → BacksRange w snapshot lo hi made_with → LearnResult w.units lo hi left made_with m n
    → Represents (learned w s snapshot lo hi left) (site_learned s snapshot lo hi left) n
learn_stands w s snapshot lo hi left made_with m n ok has legal rep backs result =
    moved_stands w s (site_learned s snapshot lo hi left) w.records n (site_there w.sites s ok.distinct has) ok
    (learn_step w s snapshot lo hi left ok has legal) (record {
      id = own;
      clock = result.clock ∙ rep.header.clock;
      own = λ place u there small. own_entry w.units n (joined_in lo hi left m.vector_at made_with) s.id place u
          result.vectors (sym own) there small ∙ result.clock ∙ rep.header.clock;
      others = λ i u v made other.
          let entry : n.vector_at (At i) u v.replica ≡ joined_in lo hi left m.vector_at made_with (At i) u v.replica =
          other_entry w.units n (joined_in lo hi left m.vector_at made_with) (At i) u v.replica result.vectors
          (λ same. other (same ∙ own)) tt (made_below w i u v ok made) in
          let exact = learned_exact w s snapshot lo hi left made_with m i u v rep backs made in (
            (λ contains. exact.0 (subst (λ (t : ℕ). v.tick ≤ t) entry contains)),
            (λ there. subst (λ (t : ℕ). v.tick ≤ t) (sym entry) (exact.1 there)),
          );
      items = λ i. subst (λ (o : Option ItemState). ItemRepresents w.units w.records i
          (holding (site_learned s snapshot lo hi left) i) o) (sym (result.items i))
          (learned_item w s snapshot lo hi left i (state_of m.items i) legal (rep.items i));
      forgotten = λ place r there. result.forgotten place r there ∙ rep.header.forgotten place r there;
      bounded = λ place u r there small other. subst (λ (t : ℕ). t ≤ clock_among w.sites r)
          (sym (other_entry w.units n (joined_in lo hi left m.vector_at made_with) place u r result.vectors
          (λ same. other (same ∙ own)) there small))
          (learned_bounded w snapshot lo hi left m.vector_at made_with place u r backs there small
          (rep.bounded.vectors place u r there small));
      forgotten_bounded = λ place r there. subst (λ (t : ℕ). t ≤ clock_among w.sites r)
          (sym (result.forgotten place r there)) (rep.bounded.forgotten place r there);
    })
  where
    own : n.id ≡ s.id
    own = result.id ∙ rep.header.id
