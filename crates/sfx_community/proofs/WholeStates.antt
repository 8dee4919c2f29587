-- A state in which each replica of the world has a member stays so.
use Rattle.std.proofs.Common.{◌≡◌, ◌≢◌, ℕ, List, [], ◌∷◌, ◌++◌, Some, inl, inr, refl, sym, ◌∙◌, ap, subst}
use Rattle.std.proofs.lemmas.Bool.{cases_eq}
use Rattle.sfx_model.specs.world.Sets.{Has}
use Rattle.sfx_model.specs.world.World.{World, Site}
use Rattle.sfx_model.specs.world.Events.{IsNewId, with_new_site, new_site, site_of}
use Rattle.sfx_model.specs.members.Members.{Community, Member, NamedMember}
use Rattle.sfx_model.specs.members.StandsIn.{IsWhole}
use Rattle.sfx_model.specs.members.States.{ChangesMember, with_added}
use Rattle.sfx_model.proofs.world.SetsLemmas.{has_either, has_left, has_right}
use Rattle.sfx_model.proofs.world.SiteLemmas.{found, site_there}
use Rattle.sfx_model.proofs.members.OwnEvents.{LeavesOthers}

-- An id that no member has is new.
pub whole_new :
    (w : World) (c : Community) (id : ℕ)
    → IsWhole w c → ((m : NamedMember) → Has m c.members → m.member.id ≢ id) → IsNewId w id
whole_new w c id whole none s has same = let (m, there, is) = whole s has in none m there (is ∙ same)

-- A replica joins, and gets a member.
pub whole_joined :
    (w : World) (c : Community) (name : List ℕ) (id : ℕ) (m : Member)
    → IsWhole w c → m.id ≡ id → IsWhole (with_new_site w id) (with_added name m c)
whole_joined w c name id m whole is s has = elim (has_either s w.sites (new_site id ∷ []) has) [
  | inl old ↦ let (n, there, same) = whole s old in (n, has_left n c.members (new ∷ []) there, same)
  | inr there ↦ elim there [
    | inl e ↦ (new, has_right new c.members (new ∷ []) (inl refl), is ∙ ap (λ (x : Site). x.id) (sym e))
    | inr none ↦ absurd none
  ]
]
  where
    new : NamedMember
    new = record { name = name; member = m }

-- The other members of a list stay.
kept_middle :
    (front back : List NamedMember) (m n x : NamedMember)
    → Has x (front ++ m ∷ back) → m.member.id ≢ x.member.id → Has x (front ++ n ∷ back)
kept_middle front back m n x has other = elim (has_either x front (m ∷ back) has) [
  | inl before ↦ has_left x front (n ∷ back) before
  | inr there ↦ elim there [
    | inl is ↦ absurd (other (ap (λ (y : NamedMember). y.member.id) (sym is)))
    | inr behind ↦ has_right x front (n ∷ back) (inr behind)
  ]
]

-- A replica acts, and keeps its member.
pub whole_changed :
    (w x : World) (c d : Community) (m n : Member)
    → LeavesOthers w x m.id → IsWhole w c → ChangesMember m n c d → n.id ≡ m.id → IsWhole x d
whole_changed w x c d m n leaves whole changes same s has = elim (cases_eq m.id s.id) [
  | inl own ↦ (
    new,
    subst (λ (ms : List NamedMember). Has new ms) (sym changes.now)
        (has_right new changes.front (new ∷ changes.back) (inl refl)),
    same ∙ own,
  )
  | inr other ↦
      let at : site_of w.sites s.id ≡ Some s = sym (leaves.sites s.id other) ∙ site_there x.sites s leaves.ok.distinct has in
      let (y, there, is) = whole s (found w.sites s.id s at).0 in (
        y,
        subst (λ (ms : List NamedMember). Has y ms) (sym changes.now)
            (kept_middle changes.front changes.back old new y
            (subst (λ (ms : List NamedMember). Has y ms) changes.before there) (λ e. other (e ∙ is))),
        is,
      )
]
  where
    old : NamedMember
    old = record { name = changes.name; member = m }

    new : NamedMember
    new = record { name = changes.name; member = n }
