-- What each turn of a line does in a world in which the state stands, by the forms that it can have.
use Rattle.std.proofs.Common.{subst, ◌≡◌, ◌≢◌, ◌⊎◌, ℕ, ◌<◌, ◌≤◌, ◌^◌, Bool, true, false, if◌then◌else◌, Option, Some, None, List, [], ◌∷◌, inl, inr, refl, sym, ap, ◌∙◌, arith, nat_eq}
use Rattle.std.specs.Option.{option_map, option_or}
use Rattle.std.proofs.lemmas.Bool.{eq-eqb}
use Rattle.sfx_ids.specs.declared.cut.Cut.TheVariants.{Start}
use Rattle.sfx_ids.specs.Cut.{cut_le}
use Rattle.sfx_vector.specs.Clocks.{tick_of}
use Rattle.sfx_knowledge.specs.Row.{row_at}
use Rattle.sfx_knowledge.specs.Knowledge.{no_row}
use Rattle.sfx_model.proofs.members.StateStands.{changed_stands, changing_has, counted}
use Rattle.sfx_model.proofs.sessions.SessionsAct.{whole_session_acts}
use Rattle.sfx_model.proofs.members.DeedsLemmas.{deeds_leave}
use Rattle.sfx_model.proofs.sessions.NoneIsAhead.{none_ahead}
use Rattle.sfx_model.proofs.world.SetsLemmas.{has_either}
use Rattle.sfx_model.proofs.world.SiteLemmas.{found}
use Rattle.sfx_model.proofs.members.OwnEvents.{LeavesOthers}
use Rattle.sfx_model.proofs.members.StateContinues.{stands_on, units_state, join_state}
use Rattle.sfx_model.specs.world.Units.{IsUnitCount}
use Rattle.sfx_model.specs.world.Events.{Event, Units, Join, Deed, Own, after_deeds, with_new_site, AreLegalDeeds, IsNewId}
use Rattle.sfx_model.specs.declared.mode.Mode.{Mode}
use Rattle.sfx_model.specs.declared.mode.Mode.TheVariants.{Normal, Recover}
use Rattle.sfx_model.specs.sessions.Acts.{DeedsActIn, DeedsContinue, IsOrderly}
use Rattle.sfx_model.specs.sessions.Batch.{mode_of}
use Rattle.sfx_model.specs.sessions.MemberKnowledge.{ahead_of, laid_known}
use Rattle.sfx_model.specs.members.Members.{Member, NamedMember, Community, shown}
use Rattle.sfx_model.specs.members.Replica.{RepresentsReplica}
use Rattle.sfx_model.specs.members.StandsIn.{IsElsewhere, IsWhole, StandsIn, StateStandsIn}
use Rattle.sfx_model.specs.world.Sets.{Has}
use Rattle.sfx_model.specs.members.States.{ChangesMember, Continues, IsDeedOf, IsNewState}
use Rattle.sfx_model.specs.world.World.{World, WellFormed}
use Rattle.sfx_replica.specs.Edits.{new_member}
use Rattle.sfx_script.specs.declared.options.Options.{Options}
use Rattle.sfx_session.specs.declared.session_fault.SessionFault.{SessionFault}
use Rattle.sfx_session.specs.declared.session_fault.SessionFault.TheVariants.{SameReplica, Ahead}
use Rattle.sfx_session.specs.Refusals.{not_built, same_replica, session_refusal}
use Rattle.sfx_reply.specs.declared.reason.Reason.TheVariants.{Session}
use Rattle.sfx_reply.specs.declared.reply.Reply.{Reply}
use Rattle.sfx_reply.specs.declared.reply.Reply.TheVariants.{Done, Refused}
use Rattle.sfx_community.specs.History.{AllFit, AreOrderly, IsAllOf, IsNotAhead, is_of_session}
use Rattle.sfx_community.specs.State.{KeptMember, State, community_of, is_id_taken, member_of, named_member, state_added, state_among, state_with}
use Rattle.sfx_community.specs.Turn.{Turn, acted, answered, built_rules, deeds_under, session_under, sync_by}
use Rattle.sfx_community.proofs.StateLemmas.{also_orderly, changes, community_added, id_untaken, member_has, named_has, with_orderly}
use Rattle.sfx_community.proofs.FitsLemmas.{CountStays, own_elsewhere, own_fit, said_stays, still_elsewhere}
use Rattle.sfx_community.proofs.TurnForms.{IsEdit, IsFound, IsTurn, Stands, compares, counts, edits, joins, meets, refuses, tells}
use Rattle.sfx_community.proofs.WholeStates.{whole_changed, whole_joined, whole_new}
use Rattle.sfx_community.proofs.OrderlyMembers.{new_orderly}

-- What a line does where it fits the world: its deeds may happen, and the state afterwards stands in the world
-- after them, as does each replica that is kept elsewhere. A unit count stays.
pub record LineGoes (w : World) (s : State) (t : Turn) : Type 0 where
  pub legal : AreLegalDeeds w t.deeds
  pub well_formed : WellFormed (after_deeds w t.deeds)
  pub stands : StateStandsIn (after_deeds w t.deeds) (community_of t.state)
  pub elsewhere : (k : Member) → StandsIn w k → IsElsewhere k (community_of s)
      → StandsIn (after_deeds w t.deeds) k × IsElsewhere k (community_of t.state)
  pub count : CountStays w (after_deeds w t.deeds)

-- Where the state is all of the world, the line fits, and the state stays so. Lists that are in order stay so,
-- and no session is refused then because its source is ahead of its destination.
pub record LineHappens (w : World) (s : State) (t : Turn) : Type 0 where
  pub goes : AllFit w t.deeds → LineGoes w s t
  pub fit : IsAllOf w (community_of s) → AllFit w t.deeds
  pub all : IsAllOf w (community_of s) → IsAllOf (after_deeds w t.deeds) (community_of t.state)
  pub orderly : AreOrderly (community_of s) → AreOrderly (community_of t.state)
  pub not_ahead : AreOrderly (community_of s) → IsNotAhead t.reply

-- a line that changes nothing, and that tells of no source that is ahead where the lists are in order
unchanged : (w : World) (s : State) (reply : Reply) → Stands w s → (AreOrderly (community_of s) → IsNotAhead reply) → LineHappens w s (answered s reply)
unchanged w s reply at other = record {
  goes = λ fit. record {
    legal = tt;
    well_formed = at.ok;
    stands = at.stands;
    elsewhere = λ k stands away. (stands, away);
    count = inr refl;
  };
  fit = λ all. tt;
  all = λ all. all;
  orderly = λ orderly. orderly;
  not_ahead = other;
}

-- a line by which the deeds of one member change it
record Changes (w : World) (s : State) (t : Turn) (m n : Member) : Type 0 where
  pub own : (d : Deed) → Has d t.deeds → IsDeedOf d m.id
  pub continues : DeedsContinue w t.deeds (community_of t.state)
  pub changes : ChangesMember m n (community_of s) (community_of t.state)
  pub id : n.id ≡ m.id

member_acts :
    (w : World) (s : State) (t : Turn) (m n : Member)
    → Stands w s → Changes w s t m n → (AreOrderly (community_of s) → AreOrderly (community_of t.state)) → IsNotAhead t.reply
    → LineHappens w s t
member_acts w s t m n at by orderly other = record {
  goes = λ fit. record {
    legal = by.continues.legal;
    well_formed = by.continues.well_formed;
    stands = by.continues.stands;
    elsewhere = λ k stands away. (
      own_elsewhere w t.deeds m.id k at.ok by.continues.legal by.own (away old (changing_has c d m n by.changes)) stands,
      still_elsewhere c d m n k by.changes by.id away,
    );
    count = inr leaves.count;
  };
  fit = λ all. own_fit w t.deeds m.id by.own;
  all = λ all. record {
    whole = whole_changed w (after_deeds w t.deeds) c d m n leaves all.whole by.changes by.id;
    units = by.changes.units ∙ all.units ∙ sym leaves.count;
  };
  orderly = orderly;
  not_ahead = λ before. other;
}
  where
    c : Community
    c = community_of s

    d : Community
    d = community_of t.state

    old : NamedMember
    old = record { name = by.changes.name; member = m }

    leaves : LeavesOthers w (after_deeds w t.deeds) m.id
    leaves = deeds_leave w t.deeds m.id at.ok by.continues.legal by.own

-- a member of the state is one of the community
found_has : (s : State) (m : KeptMember) → IsFound s m → Has (named_member m) (community_of s).members
found_has s m here = named_has s.members m (member_has s.members here.name m here.found)

-- one event of a member
edit_happens : (w : World) (s : State) (m : KeptMember) (n : Member) (event : Event) (reply : Reply) → Stands w s → IsEdit s m n event reply
    → LineHappens w s (acted reply event (state_with m.name n s))
edit_happens w s m n event reply at edit =
    let goes = edit.continues w at in
    member_acts w s (acted reply event (state_with m.name n s)) m.member n at (record {
      own = λ e has. elim has [
        | inl is ↦ subst (λ (x : Deed). IsDeedOf x m.member.id) (sym is) (λ snapshot. edit.own)
        | inr none ↦ absurd none
      ];
      continues = record { legal = (goes.legal, tt); well_formed = goes.well_formed; stands = goes.stands };
      changes = changes s edit.found.name m n edit.found.found;
      id = edit.id;
    })
    (λ orderly. with_orderly s m.name n orderly (edit.orderly w at (orderly (named_member m) (found_has s m edit.found))))
    edit.plain.not_ahead

-- without a unit count there are no members
unsaid_empty : (w : World) (s : State) (m : NamedMember) → Stands w s → s.units ≡ 0 → Has m (community_of s).members → ⊥
unsaid_empty w s m at unsaid has =
    let same : s.units ≡ w.units = counted w (community_of s) m at.stands has in
    let (site, found_it, rep) = (at.stands.members m has).represents in
    let some = at.ok.counted site (found w.sites m.member.id site found_it).0 in
    omega (arith, some, same, unsaid)

-- a unit count that is said
count_happens : (w : World) (s : State) (n : ℕ) → IsUnitCount n → s.units ≡ 0 → Stands w s → LineHappens w s (acted Done (Units n) (state_among n s.members))
count_happens w s n count unsaid at = record {
  goes = λ fit.
      let goes : Continues w (Units n) (community_of (state_among n s.members)) = units_state w (community_of s) n at.ok at.stands count fit.0 in
      record {
        legal = (goes.legal, tt);
        well_formed = goes.well_formed;
        stands = goes.stands;
        elsewhere = λ k stands away. (stands_on w (Units n) k at.ok goes.legal tt stands, away);
        count = said_stays w n fit.0;
      };
  fit = λ all. (inl (sym all.units ∙ unsaid), tt);
  all = λ all. record { whole = all.whole; units = refl };
  orderly = λ orderly m has. absurd (unsaid_empty w s m at unsaid has);
  not_ahead = λ orderly tick clock is. cc;
}

-- nothing is known, and nothing forgotten, at any place
known_nowhere : (b : Bool) (u r : ℕ) → tick_of (row_at (if b then no_row else no_row) u) r ≡ 0
known_nowhere true u r = refl
known_nowhere false u r = refl

forgotten_nowhere : (b : Bool) (r : ℕ) → tick_of (if b then [] else []) r ≡ 0
forgotten_nowhere true r = refl
forgotten_nowhere false r = refl

new_state : (units id : ℕ) → IsNewState units id (new_member id)
new_state units id = record {
  id_is = refl;
  clock = refl;
  knowledge = λ place u r there small other. known_nowhere (cut_le Start place) u r;
  forgotten = λ place r there. forgotten_nowhere (cut_le Start place) r;
  items = refl;
}

-- a replica that joins
join_happens : (w : World) (s : State) (name : List ℕ) (id : ℕ) → id < 2 ^ 128 → 1 ≤ s.units → is_id_taken id s.members ≡ false → Stands w s
    → LineHappens w s (acted Done (Join id) (state_added name (new_member id) s))
join_happens w s name id fits some new at = record {
  goes = λ fit.
      let goes = joins_it fit in
      record {
        legal = (goes.legal, tt);
        well_formed = goes.well_formed;
        stands = goes.stands;
        elsewhere = λ k stands away. (stands_on w (Join id) k at.ok goes.legal tt stands, away_still k stands away fit.0);
        count = inr refl;
      };
  fit = λ all. (whole_new w (community_of s) id all.whole (λ m has. id_untaken id s.members m new has), tt);
  all = λ all. record {
    whole = subst (λ (c : Community). IsWhole (with_new_site w id) c) (sym (community_added name (new_member id) s))
        (whole_joined w (community_of s) name id (new_member id) all.whole refl);
    units = all.units;
  };
  orderly = λ orderly. also_orderly s name (new_member id) orderly (new_orderly s.units id some fits);
  not_ahead = λ orderly tick clock is. cc;
}
  where
    joins_it : AllFit w (Own (Join id) ∷ []) → Continues w (Join id) (community_of (state_added name (new_member id) s))
    joins_it fit =
        subst (λ (c : Community). Continues w (Join id) c) (sym (community_added name (new_member id) s))
        (join_state w (community_of s) name id (new_member id) at.ok at.stands some fit.0 (new_state s.units id))

    away_still : (k : Member) → StandsIn w k → IsElsewhere k (community_of s) → IsNewId w id → IsElsewhere k (community_of (state_added name (new_member id) s))
    away_still k stands away new_id =
        subst (λ (c : Community). IsElsewhere k c) (sym (community_added name (new_member id) s))
        (λ x has same. elim (has_either x (community_of s).members (record { name = name; member = new_member id } ∷ []) has) [
          | inl old ↦ away x old same
          | inr there ↦ elim there [
            | inl is ↦
                let (site, at_k, rep) = stands.represents in
                let here = found w.sites k.id site at_k in
                new_id site here.0 (here.1 ∙ sym same ∙ ap (λ (y : NamedMember). y.member.id) is)
            | inr none ↦ none
          ]
        ])

-- A session may run where the lists of all members are in order; so only then a reply tells of one.
abbrev pub MaySync : State → Turn → Type 0
MaySync s t = AreOrderly (community_of s) ⊎ (is_of_session t.reply ≡ false)

-- a session that is not refused is of two replicas
ids_apart : (units : ℕ) (m n : Member) → session_refusal units m n ≡ None → m.id ≢ n.id
ids_apart units m n free same =
    let test : nat_eq m.id n.id ≡ true = eq-eqb m.id n.id same in
    let bad : Some SameReplica ≡ None = sym (rw test refl) ∙ free in
    cc

-- two members of a state whose lists are in order
record AreTwo (w : World) (s : State) (m n : KeptMember) : Type 0 where
  pub at : Stands w s
  pub orderly : AreOrderly (community_of s)
  pub source : Has (named_member m) (community_of s).members
  pub destination : Has (named_member n) (community_of s).members

two_count : (w : World) (s : State) (m n : KeptMember) → AreTwo w s m n → s.units ≡ w.units
two_count w s m n two = counted w (community_of s) (named_member m) two.at.stands two.source

two_stand : (w : World) (s : State) (m n : KeptMember) → AreTwo w s m n
    → RepresentsReplica w m.member.id (shown m.member) × RepresentsReplica w n.member.id (shown n.member)
two_stand w s m n two = (
  (two.at.stands.members (named_member m) two.source).represents,
  (two.at.stands.members (named_member n) two.destination).represents,
)

two_orderly : (w : World) (s : State) (m n : KeptMember) → AreTwo w s m n → IsOrderly w.units m.member × IsOrderly w.units n.member
two_orderly w s m n two = (
  subst (λ (u : ℕ). IsOrderly u m.member) (two_count w s m n two) (two.orderly (named_member m) two.source),
  subst (λ (u : ℕ). IsOrderly u n.member) (two_count w s m n two) (two.orderly (named_member n) two.destination),
)

-- what refuses a session where nothing is ahead is another cause
other_cause : (b : Bool) (mode : Mode) (tick clock : ℕ)
    → option_or (if b then Some SameReplica else None) (not_built mode) ≢ Some (Ahead tick clock)
other_cause true mode tick clock is = cc
other_cause false Normal tick clock is = cc
other_cause false Recover tick clock is = cc

not_refused_ahead : (units : ℕ) (m n : Member) (tick clock : ℕ) → ahead_of n (laid_known units m) m.forgotten ≡ None
    → session_refusal units m n ≢ Some (Ahead tick clock)
not_refused_ahead units m n tick clock none is =
    let mode = mode_of units m.forgotten (laid_known units n) in
    other_cause (nat_eq m.id n.id) mode tick clock
    (ap (λ (most : Option ℕ). option_or (same_replica m n) (option_or (option_map (λ t. Ahead t n.clock) most) (not_built mode))) (sym none) ∙ is)

-- none of two members of a state is ahead of the other
members_not_ahead : (w : World) (s : State) (m n : KeptMember) → AreTwo w s m n → ahead_of n.member (laid_known s.units m.member) m.member.forgotten ≡ None
members_not_ahead w s m n two =
    let stand = two_stand w s m n two in
    subst (λ (u : ℕ). ahead_of n.member (laid_known u m.member) m.member.forgotten ≡ None) (sym (two_count w s m n two))
    (none_ahead w m.member n.member stand.0 stand.1 (two_orderly w s m n two).0)

-- a session that is refused, of two members
refused_ahead : (w : World) (s : State) (m n : KeptMember) (fault : SessionFault) → AreTwo w s m n → session_refusal s.units m.member n.member ≡ Some fault
    → IsNotAhead (Refused (Session fault))
refused_ahead w s m n fault two found tick clock is =
    let same : fault ≡ Ahead tick clock = cc in
    not_refused_ahead s.units m.member n.member tick clock (members_not_ahead w s m n two) (found ∙ ap Some same)

-- two members that were found
are_two : (w : World) (s : State) (m n : KeptMember) → Stands w s → IsFound s m → IsFound s n → AreOrderly (community_of s) → AreTwo w s m n
are_two w s m n at here there orderly = record { at = at; orderly = orderly; source = found_has s m here; destination = found_has s n there }

-- a session that runs
record Meet (w : World) (s : State) (m n : KeptMember) (options : Options) : Type 0 where
  pub two : AreTwo w s m n
  pub name : List ℕ
  pub found : member_of s.members name ≡ Some n
  pub some : 1 ≤ options.batch
  pub free : session_refusal s.units m.member n.member ≡ None

-- the destination afterwards
abbrev left : ℕ → KeptMember → KeptMember → Options → Member
left units m n options = (session_under units m.member n.member options).course.member

session_acts : (w : World) (s : State) (m n : KeptMember) (options : Options) → Meet w s m n options
    → DeedsActIn w (deeds_under s.units m.member n.member options) m.member n.member.id (left s.units m n options)
session_acts w s m n options meet =
    let stand = two_stand w s m n meet.two in
    let ordered = two_orderly w s m n meet.two in
    subst (λ (u : ℕ). DeedsActIn w (deeds_under u m.member n.member options) m.member n.member.id (left u m n options)) (sym (two_count w s m n meet.two))
    (whole_session_acts w m.member n.member built_rules options.batch options.cut meet.two.at.ok (ids_apart s.units m.member n.member meet.free)
    stand.0 stand.1 ordered.0 ordered.1 meet.some)

session_line : (w : World) (s : State) (m n : KeptMember) (options : Options) → Meet w s m n options → LineHappens w s (sync_by s m n options None)
session_line w s m n options meet =
    let acts = session_acts w s m n options meet in
    let here = changes s meet.name n (left s.units m n options) meet.found in
    let (site, at, rep) = acts.represents in
    member_acts w s (sync_by s m n options None) n.member (left s.units m n options) meet.two.at (record {
      own = acts.own;
      continues = record {
        legal = acts.legal;
        well_formed = acts.well_formed;
        stands = changed_stands w (after_deeds w ds) (community_of s) (community_of (state_with n.name (left s.units m n options) s)) n.member (left s.units m n options)
            (deeds_leave w ds n.member.id meet.two.at.ok acts.legal acts.own) meet.two.at.stands here acts.orderly.ascending acts.represents;
      };
      changes = here;
      id = rep.header.id ∙ (found (after_deeds w ds).sites n.member.id site at).1;
    })
    (λ orderly. with_orderly s n.name (left s.units m n options) orderly
    (subst (λ (u : ℕ). IsOrderly u (left s.units m n options)) (sym (two_count w s m n meet.two)) acts.orderly))
    (λ tick clock is. cc)
  where
    ds : List Deed
    ds = deeds_under s.units m.member n.member options

-- any turn
pub turn_happens : (w : World) (s : State) (t : Turn) → IsTurn s t → Stands w s → MaySync s t → LineHappens w s t
turn_happens w s t (tells s2 reply plain) at may = unchanged w s reply at (λ orderly. plain.not_ahead)
turn_happens w s t (compares s2 m n here there) at may = unchanged w s _ at (λ orderly tick clock is. cc)
turn_happens w s t (counts s2 n count unsaid) at may = count_happens w s n count unsaid at
turn_happens w s t (joins s2 name id fits some new) at may = join_happens w s name id fits some new at
turn_happens w s t (edits s2 m n event reply edit) at may = edit_happens w s m n event reply at edit
turn_happens w s t (refuses s2 m n fault here there why) at may =
    unchanged w s (Refused (Session fault)) at (λ orderly. refused_ahead w s m n fault (are_two w s m n at here there orderly) why)
turn_happens w s t (meets s2 m n options here there some free) at (inl orderly) =
    session_line w s m n options (record { two = are_two w s m n at here there orderly; name = there.name; found = there.found; some = some; free = free })
turn_happens w s t (meets s2 m n options here there some free) at (inr none) = let bad : true ≡ false = none in absurd (cc)
