-- A state goes on standing in a world through what one of its members does, and through what others do.
use Rattle.std.proofs.Common.{◌≡◌, ◌≢◌, ◌⊎◌, ℕ, Bool, true, false, if◌then◌else◌, List, [], ◌∷◌, ◌++◌, Some, inl, inr, refl, sym, ◌∙◌, ap, subst}
use Rattle.std.specs.Str.{bytes_eq}
use Rattle.sfx_model.specs.world.Sets.{Has}
use Rattle.sfx_model.specs.world.World.{World, WellFormed}
use Rattle.sfx_model.specs.world.Events.{Event, Deed, after, Legal, after_deeds, AreLegalDeeds}
use Rattle.sfx_model.specs.members.Members.{Member, NamedMember, Community, AreAscending, shown}
use Rattle.sfx_model.specs.members.Replica.{RepresentsReplica}
use Rattle.sfx_model.specs.members.StandsIn.{StandsIn, AreIdsApart, StateStandsIn, AreOfOthers}
use Rattle.sfx_model.specs.members.States.{IsOf, ChangesMember, member_named, with_member}
use Rattle.sfx_model.proofs.world.SetsLemmas.{has_right}
use Rattle.sfx_model.proofs.world.SiteLemmas.{found}
use Rattle.sfx_model.proofs.members.DeedsLemmas.{deeds_stand}
use Rattle.sfx_model.proofs.members.OwnEvents.{LeavesOthers, event_leaves}

-- ---- one member of a list gives way to another of its id

-- The member in the middle of a list is in it.
has_middle : (front back : List NamedMember) (m : NamedMember) → Has m (front ++ m ∷ back)
has_middle front back m = has_right m front (m ∷ back) (inl refl)

-- A member afterwards is the new one, or an old one of another id.
middle_cases :
    (front back : List NamedMember) (m n x : NamedMember)
    → AreIdsApart (front ++ m ∷ back) → Has x (front ++ n ∷ back)
    → (x ≡ n) ⊎ (Has x (front ++ m ∷ back) × (m.member.id ≢ x.member.id))
middle_cases [] back m n x apart has = elim has [
  | inl is ↦ inl is
  | inr there ↦ inr (inr there, λ same. apart.0 x there (sym same))
]
middle_cases (y ∷ ys) back m n x apart has = elim has [
  | inl is ↦ inr (
    inl is,
    λ same. apart.0 m (has_middle ys back m) (same ∙ ap (λ (z : NamedMember). z.member.id) is),
  )
  | inr there ↦ elim (middle_cases ys back m n x apart.1 there) [
    | inl is ↦ inl is
    | inr old ↦ inr (inr old.0, old.1)
  ]
]

-- The ids stay apart.
apart_middle :
    (front back : List NamedMember) (m n : NamedMember)
    → n.member.id ≡ m.member.id → AreIdsApart (front ++ m ∷ back) → AreIdsApart (front ++ n ∷ back)
apart_middle [] back m n same apart = (λ x has e. apart.0 x has (e ∙ same), apart.1)
apart_middle (y ∷ ys) back m n same apart = (
  λ x has e. elim (middle_cases ys back m n x apart.1 has) [
    | inl is ↦ apart.0 m (has_middle ys back m) (sym same ∙ ap (λ (z : NamedMember). z.member.id) (sym is) ∙ e)
    | inr old ↦ apart.0 x old.0 e
  ],
  apart_middle ys back m n same apart.1,
)

-- ---- a member of the state acts

-- A state with a member has the unit count of its world.
pub counted : (w : World) (c : Community) (m : NamedMember) → StateStandsIn w c → Has m c.members → c.units ≡ w.units
counted w c m stands has = elim stands.units [
  | inl same ↦ same
  | inr none ↦ absurd (subst (λ (ms : List NamedMember). Has m ms) none.1 has)
]

-- The member that changes is one of the state,
pub changing_has :
    (c d : Community) (m n : Member) (changes : ChangesMember m n c d)
    → Has (record { name = changes.name; member = m }) c.members
changing_has c d m n changes =
    let old : NamedMember = record { name = changes.name; member = m } in
    subst (λ (ms : List NamedMember). Has old ms) (sym changes.before) (has_middle changes.front changes.back old)

-- so that it stands.
pub changing_stands :
    (w : World) (c d : Community) (m n : Member) → StateStandsIn w c → ChangesMember m n c d → StandsIn w m
changing_stands w c d m n stands changes =
    stands.members (record { name = changes.name; member = m }) (changing_has c d m n changes)

-- The state stands afterwards, where the member does.
pub changed_stands :
    (w x : World) (c d : Community) (m n : Member)
    → LeavesOthers w x m.id → StateStandsIn w c → ChangesMember m n c d → AreAscending n.items
    → RepresentsReplica x m.id (shown n) → StateStandsIn x d
changed_stands w x c d m n leaves stands changes ascending (s, at, rep) = record {
  units = inl (changes.units ∙ counted w c old stands (changing_has c d m n changes) ∙ sym leaves.count);
  apart = subst AreIdsApart (sym changes.now) (apart_middle changes.front changes.back old new same apart);
  members = λ y has. elim (middle_cases changes.front changes.back old new y apart
      (subst (λ (ms : List NamedMember). Has y ms) changes.now has)) [
        | inl is ↦ subst (λ (z : NamedMember). StandsIn x z.member) (sym is) acts
        | inr there ↦
            let here = stands.members y (subst (λ (ms : List NamedMember). Has y ms) (sym changes.before) there.0) in
            record {
              represents = leaves.others y.member.id (shown y.member) there.1 here.represents;
              ascending = here.ascending;
            }
      ];
}
  where
    old : NamedMember
    old = record { name = changes.name; member = m }

    new : NamedMember
    new = record { name = changes.name; member = n }

    same : n.id ≡ m.id
    same = rep.header.id ∙ (found x.sites m.id s at).1

    acts : StandsIn x n
    acts = record {
      represents = subst (λ (r : ℕ). RepresentsReplica x r (shown n)) (sym same) (s, at, rep);
      ascending = ascending;
    }

    apart : AreIdsApart (changes.front ++ old ∷ changes.back)
    apart = subst AreIdsApart changes.before stands.apart

-- The state after an event that a replica does at its own site, where its member represents it again.
pub event_state :
    (w : World) (e : Event) (c d : Community) (m n : Member)
    → WellFormed w → StateStandsIn w c → Legal w e → IsOf e m.id → ChangesMember m n c d → AreAscending n.items
    → RepresentsReplica (after w e) m.id (shown n) → StateStandsIn (after w e) d
event_state w e c d m n ok stands legal is changes ascending acts =
    changed_stands w (after w e) c d m n (event_leaves w e m.id ok legal is) stands changes ascending acts

-- ---- others act

-- None of the deeds is of a member of the state.
pub others_state :
    (w : World) (ds : List Deed) (c : Community)
    → WellFormed w → StateStandsIn w c → AreLegalDeeds w ds → AreOfOthers ds c → (after_deeds w ds).units ≡ w.units
    → StateStandsIn (after_deeds w ds) c
others_state w ds c ok stands legal others count = record {
  units = elim stands.units [ inl same ↦ inl (same ∙ sym count) | inr none ↦ inr none ];
  apart = stands.apart;
  members = λ m has. record {
    represents = deeds_stand w ds m.member.id (shown m.member) ok legal (λ d there. others d m there has)
        (stands.members m has).represents;
    ascending = (stands.members m has).ascending;
  };
}

-- ---- members by their names

-- The member with a name changes, and every other stays.
pub changes_named :
    (name : List ℕ) (m n : Member) (units : ℕ) (ms : List NamedMember)
    → member_named name ms ≡ Some m
    → ChangesMember m n (record { units = units; members = ms })
    (record { units = units; members = with_member name n ms })
changes_named name m n units [] is = absurd (cc)
changes_named name m n units (x ∷ xs) is = by_test (changes_named name m n units xs) (bytes_eq x.name name) is
  where
    by_test :
        (member_named name xs ≡ Some m → ChangesMember m n (record { units = units; members = xs }) (record { units = units; members = with_member name n xs }))
        → (b : Bool) → (if b then Some x.member else member_named name xs) ≡ Some m
        → ChangesMember m n (record { units = units; members = x ∷ xs })
        (record {
          units = units;
          members =
              if b then record { name = x.name; member = n } ∷ xs else x ∷ with_member name n xs;
        })
    by_test rest true e =
        let same : x.member ≡ m = cc in
        record {
          front = [];
          name = x.name;
          back = xs;
          units = refl;
          before =
              ap (λ (k : Member). record { name = x.name; member = k } ∷ xs) same;
          now = refl;
        }
    by_test rest false e =
        let tail = rest e in
        record {
          front = x ∷ tail.front;
          name = tail.name;
          back = tail.back;
          units = refl;
          before =
              ap (λ (ys : List NamedMember). x ∷ ys) tail.before;
          now =
              ap (λ (ys : List NamedMember). x ∷ ys) tail.now;
        }
