-- Ids that are taken.
use Rattle.std.proofs.Common.{◌≡◌, ℕ, Bool, true, false, ◌||◌, List, [], ◌∷◌, inl, inr, refl}
use Rattle.sfx_model.proofs.members.StatesPart.{named_has_member}
use Rattle.sfx_model.specs.sessions.MemberKnowledge.{names_id}
use Rattle.sfx_model.specs.world.Sets.{Has}
use Rattle.sfx_model.specs.members.StandsIn.{HasMember, IsWhole, StateStandsIn}
use Rattle.sfx_model.specs.world.World.{World}
use Rattle.sfx_community.specs.History.{AreOrderly}
use Rattle.sfx_community.specs.State.{KeptMember, State, community_of, is_id_taken, named_member}
use Rattle.sfx_community.proofs.StateLemmas.{named_has}

-- some member has or names an id that is taken
naming : (id : ℕ) (ms : List KeptMember) → is_id_taken id ms ≡ true → (m : KeptMember) × Has m ms × (names_id id m.member ≡ true)
naming id [] taken = let bad : false ≡ true = taken in absurd (cc)
naming id (x ∷ xs) taken = by_first (naming id xs) (names_id id x.member) refl taken where
  by_first : (is_id_taken id xs ≡ true → (m : KeptMember) × Has m xs × (names_id id m.member ≡ true))
      → (b : Bool) → names_id id x.member ≡ b → (b || is_id_taken id xs) ≡ true → (m : KeptMember) × Has m (x ∷ xs) × (names_id id m.member ≡ true)
  by_first rest true named e = (x, inl refl, named)
  by_first rest false other e = let (m, has, named) = rest e in (m, inr has, named)

pub taken_has_member : (w : World) (s : State) (id : ℕ) → StateStandsIn w (community_of s) → IsWhole w (community_of s) → AreOrderly (community_of s)
    → is_id_taken id s.members ≡ true → HasMember (community_of s) id
taken_has_member w s id stands whole orderly taken =
    let (m, has, named) = naming id s.members taken in
    let there = named_has s.members m has in
    named_has_member w (community_of s) (named_member m) id stands whole there (orderly (named_member m) there) named
