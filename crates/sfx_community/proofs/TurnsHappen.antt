-- What the lines of a script do in a world in which the state stands.
use Rattle.std.proofs.Common.{subst, ◌≡◌, ◌⊎◌, ℕ, Bool, true, false, ◌||◌, if◌then◌else◌, List, [], ◌∷◌, inl, inr, refl, sym}
use Rattle.sfx_model.proofs.members.DeedsLemmas.{after_deeds_append, legal_deeds_append}
use Rattle.sfx_model.proofs.members.FactsHold.{facts_hold}
use Rattle.sfx_model.specs.world.Events.{after_deeds, AreLegalDeeds}
use Rattle.sfx_model.specs.members.Members.{Member}
use Rattle.sfx_model.specs.members.StandsIn.{IsElsewhere, StandsIn, StateStandsIn}
use Rattle.sfx_model.specs.world.World.{World, WellFormed}
use Rattle.sfx_script.specs.Reading.{reading_of}
use Rattle.sfx_script.specs.Script.{is_passed}
use Rattle.sfx_community.specs.History.{AllFit, AreNotAhead, AreOrderly, HasHappened, IsAllOf, IsNotAhead, has_session, is_of_session}
use Rattle.sfx_community.specs.State.{State, community_of}
use Rattle.sfx_community.specs.Turn.{Turn, Turns, first_then, turn, turns}
use Rattle.sfx_community.proofs.FitsLemmas.{CountStays, fit_append, fit_parts, state_elsewhere, stays_on}
use Rattle.sfx_community.proofs.LinesHappen.{LineGoes, LineHappens, MaySync, turn_happens}
use Rattle.sfx_community.proofs.TurnForms.{Stands, limits_kept, line_form}

-- what lines do where they fit the world
record AllGo (w : World) (s : State) (t : Turns) : Type 0 where
  pub legal : AreLegalDeeds w t.deeds
  pub well_formed : WellFormed (after_deeds w t.deeds)
  pub stands : StateStandsIn (after_deeds w t.deeds) (community_of t.state)
  pub elsewhere : (k : Member) → StandsIn w k → IsElsewhere k (community_of s) → StandsIn (after_deeds w t.deeds) k
  pub count : CountStays w (after_deeds w t.deeds)

-- one line and those behind it
then_go : (w : World) (s : State) (t : Turn) (ts : Turns) → LineGoes w s t → AllGo (after_deeds w t.deeds) t.state ts → AllGo w s (first_then t ts)
then_go w s t ts one others =
    let along = sym (after_deeds_append w t.deeds ts.deeds) in
    record {
      legal = legal_deeds_append w t.deeds ts.deeds one.legal others.legal;
      well_formed = rw along at others.well_formed;
      stands = rw along at others.stands;
      elsewhere = λ k stands away.
          let (here, still) = one.elsewhere k stands away in
          subst (λ (x : World). StandsIn x k) along (others.elsewhere k here still);
      count =
          subst (λ (x : World). CountStays w x) along
          (stays_on w (after_deeds w t.deeds) (after_deeds (after_deeds w t.deeds) ts.deeds) one.count others.count);
    }

-- one reply, and those behind it
then_not_ahead : (t : Turn) (ts : Turns) → IsNotAhead t.reply → AreNotAhead ts.replies → AreNotAhead (first_then t ts).replies
then_not_ahead t ts one others reply has = elim has [
  | inl is ↦ subst IsNotAhead (sym is) one
  | inr there ↦ others reply there
]

-- Sessions may run where the lists of all members are in order; so only then replies tell of some.
abbrev MayRun : State → Turns → Type 0
MayRun s t = AreOrderly (community_of s) ⊎ (has_session t.replies ≡ false)

neither : (a b : Bool) → (a || b) ≡ false → (a ≡ false) × (b ≡ false)
neither false b e = (refl, e)
neither true b e = let bad : true ≡ false = e in absurd (cc)

first_may : (s : State) (t : Turn) (ts : Turns) → MayRun s (first_then t ts) → MaySync s t
first_may s t ts (inl orderly) = inl orderly
first_may s t ts (inr none) = inr (neither (is_of_session t.reply) (has_session ts.replies) none).0

rest_may : (w : World) (s : State) (t : Turn) (ts : Turns) → LineHappens w s t → MayRun s (first_then t ts) → MayRun t.state ts
rest_may w s t ts one (inl orderly) = inl (one.orderly orderly)
rest_may w s t ts one (inr none) = inr (neither (is_of_session t.reply) (has_session ts.replies) none).1

-- what lines do
record LinesHappen (w : World) (s : State) (t : Turns) : Type 0 where
  pub go : AllFit w t.deeds → AllGo w s t
  pub fit : IsAllOf w (community_of s) → AllFit w t.deeds
  pub all : IsAllOf w (community_of s) → IsAllOf (after_deeds w t.deeds) (community_of t.state)
  pub orderly : AllFit w t.deeds → AreOrderly (community_of s) → AreOrderly (community_of t.state)
  pub not_ahead : AllFit w t.deeds → AreOrderly (community_of s) → AreNotAhead t.replies

then_happen :
    (w : World) (s : State) (t : Turn) (ts : Turns)
    → LineHappens w s t → (Stands (after_deeds w t.deeds) t.state → LinesHappen (after_deeds w t.deeds) t.state ts)
    → LinesHappen w s (first_then t ts)
then_happen w s t ts one others = record {
  go = λ fit.
      let goes = one.goes (fit_parts w t.deeds ts.deeds fit).0 in
      then_go w s t ts goes ((next fit).go (fit_parts w t.deeds ts.deeds fit).1);
  fit = λ all. fit_append w t.deeds ts.deeds (one.fit all) ((after_fit (one.fit all)).fit (one.all all));
  all = λ all.
      subst (λ (x : World). IsAllOf x (community_of ts.state)) (sym (after_deeds_append w t.deeds ts.deeds))
      ((after_fit (one.fit all)).all (one.all all));
  orderly = λ fit orderly. (next fit).orderly (fit_parts w t.deeds ts.deeds fit).1 (one.orderly orderly);
  not_ahead = λ fit orderly.
      then_not_ahead t ts (one.not_ahead orderly) ((next fit).not_ahead (fit_parts w t.deeds ts.deeds fit).1 (one.orderly orderly));
}
  where
    after_fit : AllFit w t.deeds → LinesHappen (after_deeds w t.deeds) t.state ts
    after_fit fit = let goes = one.goes fit in others (record { ok = goes.well_formed; stands = goes.stands })

    next : AllFit w (first_then t ts).deeds → LinesHappen (after_deeds w t.deeds) t.state ts
    next fit = after_fit (fit_parts w t.deeds ts.deeds fit).0

lines_happen : (w : World) (s : State) (lines : List (List ℕ)) → Stands w s → MayRun s (turns s lines) → LinesHappen w s (turns s lines)
lines_happen w s [] at may = record {
  go = λ fit. record { legal = tt; well_formed = at.ok; stands = at.stands; elsewhere = λ k stands away. stands; count = inr refl };
  fit = λ all. tt;
  all = λ all. all;
  orderly = λ fit orderly. orderly;
  not_ahead = λ fit orderly reply has. absurd has;
}
lines_happen w s (line ∷ lines) at may =
    by_passed (is_passed line) (lines_happen w s lines at)
    (λ here. lines_happen (after_deeds w (turn s line).deeds) (turn s line).state lines here) may where
      by_passed : (b : Bool) → (MayRun s (turns s lines) → LinesHappen w s (turns s lines))
          → (Stands (after_deeds w (turn s line).deeds) (turn s line).state → MayRun (turn s line).state (turns (turn s line).state lines)
          → LinesHappen (after_deeds w (turn s line).deeds) (turn s line).state (turns (turn s line).state lines))
          → MayRun s (if b then turns s lines else first_then (turn s line) (turns (turn s line).state lines))
          → LinesHappen w s (if b then turns s lines else first_then (turn s line) (turns (turn s line).state lines))
      by_passed true rest others may = rest may
      by_passed false rest others may =
          let form = line_form s (reading_of line) (limits_kept line) in
          let one = turn_happens w s (turn s line) form at (first_may s (turn s line) (turns (turn s line).state lines) may) in
          then_happen w s (turn s line) (turns (turn s line).state lines) one
          (λ here. others here (rest_may w s (turn s line) (turns (turn s line).state lines) one may))

happened : (w : World) (s : State) (t : Turns) → Stands w s → AllGo w s t → HasHappened w s t
happened w s t at all = record {
  legal = all.legal;
  well_formed = all.well_formed;
  stands = all.stands;
  elsewhere = λ c stands apart.
      state_elsewhere w (after_deeds w t.deeds) c at.ok all.count stands
      (λ m has. all.elsewhere m.member (stands.members m has) (apart m has));
  facts_before = facts_hold w (community_of s) at.ok at.stands;
  facts_afterwards = facts_hold (after_deeds w t.deeds) (community_of t.state) all.well_formed all.stands;
}

pub turns_happen_lem : (w : World) (s : State) (lines : List (List ℕ)) → WellFormed w → StateStandsIn w (community_of s) → AreOrderly (community_of s)
    → AllFit w (turns s lines).deeds → HasHappened w s (turns s lines)
turns_happen_lem w s lines ok stands orderly fit =
    let at : Stands w s = record { ok = ok; stands = stands } in
    happened w s (turns s lines) at ((lines_happen w s lines at (inl orderly)).go fit)

pub turns_orderly : (w : World) (s : State) (lines : List (List ℕ)) → WellFormed w → StateStandsIn w (community_of s) → AreOrderly (community_of s)
    → AllFit w (turns s lines).deeds → AreOrderly (community_of (turns s lines).state)
turns_orderly w s lines ok stands orderly fit =
    (lines_happen w s lines (record { ok = ok; stands = stands }) (inl orderly)).orderly fit orderly

pub turns_not_ahead : (w : World) (s : State) (lines : List (List ℕ)) → WellFormed w → StateStandsIn w (community_of s) → AreOrderly (community_of s)
    → AllFit w (turns s lines).deeds → AreNotAhead (turns s lines).replies
turns_not_ahead w s lines ok stands orderly fit =
    (lines_happen w s lines (record { ok = ok; stands = stands }) (inl orderly)).not_ahead fit orderly

pub turns_alone : (w : World) (s : State) (lines : List (List ℕ)) → WellFormed w → StateStandsIn w (community_of s) → has_session (turns s lines).replies ≡ false
    → AllFit w (turns s lines).deeds → HasHappened w s (turns s lines)
turns_alone w s lines ok stands none fit =
    let at : Stands w s = record { ok = ok; stands = stands } in
    happened w s (turns s lines) at ((lines_happen w s lines at (inr none)).go fit)

pub turns_fit : (w : World) (s : State) (lines : List (List ℕ)) → WellFormed w → StateStandsIn w (community_of s) → IsAllOf w (community_of s)
    → AreOrderly (community_of s) ⊎ (has_session (turns s lines).replies ≡ false) → AllFit w (turns s lines).deeds
turns_fit w s lines ok stands all may = (lines_happen w s lines (record { ok = ok; stands = stands }) may).fit all

pub turns_whole : (w : World) (s : State) (lines : List (List ℕ)) → WellFormed w → StateStandsIn w (community_of s) → IsAllOf w (community_of s)
    → AreOrderly (community_of s) ⊎ (has_session (turns s lines).replies ≡ false)
    → IsAllOf (after_deeds w (turns s lines).deeds) (community_of (turns s lines).state)
turns_whole w s lines ok stands all may = (lines_happen w s lines (record { ok = ok; stands = stands }) may).all all
