-- What the lines `equal` and `knows` tell is so.
use Rattle.std.proofs.Common.{◌≡◌, ◌≢◌, ◌↔◌, ℕ, ◌<◌, ◌≤◌, Bool, true, false, nat_lt, nat_le, IsTrue, true≢false, Some, List, refl, sym, ap, ◌∙◌, subst, arith}
use Rattle.std.proofs.lemmas.Bool.Decides.{nat_tests}
use Rattle.sfx_ids.specs.declared.cut.Cut.TheVariants.{At}
use Rattle.sfx_ids.specs.declared.item_id.ItemId.{ItemId}
use Rattle.sfx_ids.specs.declared.version.Version.{Version}
use Rattle.sfx_knowledge.proofs.KnowledgeLemmas.{one_knowledge}
use Rattle.sfx_knowledge.specs.Knowledge.{tick_at}
use Rattle.sfx_model.proofs.members.StateStands.{counted}
use Rattle.sfx_model.proofs.sessions.ClassTests.{in_form, laid_form, laid_has}
use Rattle.sfx_model.proofs.members.FactsHold.{facts_hold}
use Rattle.sfx_model.specs.sessions.Acts.{IsOrderly}
use Rattle.sfx_model.specs.members.Headline.{HaveEqualKnowledge, live_items}
use Rattle.sfx_model.specs.sessions.MemberKnowledge.{laid_known}
use Rattle.sfx_model.specs.members.Members.{Member, contains, shown}
use Rattle.sfx_model.specs.world.Sets.{Has}
use Rattle.sfx_model.specs.members.StandsIn.{StateStandsIn}
use Rattle.sfx_model.specs.world.World.{Made, World, WellFormed}
use Rattle.sfx_reply.specs.declared.reply.Reply.{Reply}
use Rattle.sfx_reply.specs.declared.reply.Reply.TheVariants.{Compared}
use Rattle.sfx_script.specs.Reading.{reading_of}
use Rattle.sfx_community.specs.Sameness.{hold_same, know_same}
use Rattle.sfx_community.specs.Comparisons.{IsAccount, IsComparison}
use Rattle.sfx_community.specs.History.{AreOrderly}
use Rattle.sfx_community.specs.State.{KeptMember, State, community_of, member_of, named_member}
use Rattle.sfx_community.specs.Turn.{Turn, equal_turn, knows_turn, turn}
use Rattle.sfx_community.proofs.StateLemmas.{member_has, named_has}
use Rattle.sfx_community.proofs.SamenessLemmas.{items_decided, segments_decided}
use Rattle.sfx_community.proofs.TurnForms.{IsTurn, Stands, compares, counts, edits, joins, limits_kept, line_form, meets, refuses, tells}

-- lists in order, and with them what each member knows of each place
same_knowledge : (units : ℕ) (m n : Member) → IsOrderly units m → IsOrderly units n
    → (IsTrue (know_same units m n) ↔ HaveEqualKnowledge units (shown m) (shown n))
same_knowledge units m n one other = (
  λ same place u r is_place within.
      let lists : laid_known units m ≡ laid_known units n = (segments_decided (laid_known units m) (laid_known units n)).0 same in
      sym (laid_has units m (in_form units m one) place u r is_place within)
      ∙ (ap (λ known. tick_at known place u r) lists ∙ laid_has units n (in_form units n other) place u r is_place within),
  λ alike.
      (segments_decided (laid_known units m) (laid_known units n)).1
      (one_knowledge units (laid_known units m) (laid_known units n) one.some (laid_form units m (in_form units m one)) (laid_form units n (in_form units n other))
      (λ place u r is_place within.
      laid_has units m (in_form units m one) place u r is_place within
      ∙ (alike place u r is_place within ∙ sym (laid_has units n (in_form units n other) place u r is_place within)))),
)

orderly_at : (s : State) (name : List ℕ) (m : KeptMember) → AreOrderly (community_of s) → member_of s.members name ≡ Some m → IsOrderly s.units m.member
orderly_at s name m orderly found = orderly (named_member m) (named_has s.members m (member_has s.members name m found))

pub equal_exact : (s : State) (first second : List ℕ) (m n : KeptMember) → AreOrderly (community_of s)
    → member_of s.members first ≡ Some m → member_of s.members second ≡ Some n
    → IsComparison s.units m.member n.member (equal_turn s first second).reply
equal_exact s first second m n orderly found_m found_n = record {
  knowledge = know_same s.units m.member n.member;
  items = hold_same m.member n.member;
  told = rw (found_m, found_n) refl;
  same_knowledge = same_knowledge s.units m.member n.member (orderly_at s first m orderly found_m) (orderly_at s second n orderly found_n);
  same_items = items_decided (live_items m.member.items) (live_items n.member.items);
}

-- the version is contained where its tick is within the vector's
contained : (tick most : ℕ) → (IsTrue (nat_le tick most) ↔ (tick ≤ most))
contained tick most = (λ test. grind (arith, nat_tests), λ within. grind (arith, nat_tests))

pub knows_exact : (w : World) (s : State) (name : List ℕ) (m : KeptMember) (i : ItemId) (u : ℕ) (v : Version)
    → WellFormed w → StateStandsIn w (community_of s) → member_of s.members name ≡ Some m → u < s.units → Made w.records i u v
    → IsAccount w m.member i u v (knows_turn s name i u v).reply
knows_exact w s name m i u v ok stands found within made =
    let facts = facts_hold w (community_of s) ok stands in
    let exact = facts.exact (named_member m) (named_has s.members m (member_has s.members name m found)) i u v made in
    let is_unit : nat_lt u s.units ≡ true = grind (arith, nat_tests) in
    let test = contained v.tick ((shown m.member).vector_at (At i) u v.replica) in
    record {
      known = contains m.member i u v;
      told = rw (found, is_unit) refl;
      held = (λ known. exact.0 (test.0 known), λ held. test.1 (exact.1 held));
    }

-- The reply is no comparison that finds the same knowledge and different items.
abbrev IsFair : Reply → Type 0
IsFair reply = reply ≢ Compared true false

-- the parts of a comparison
compared_parts : (k i : Bool) → Compared k i ≡ Compared true false → (k ≡ true) × (i ≡ false)
compared_parts k i is = (cc, cc)

-- two members of a state that stands, of which the comparison finds the same knowledge
fair_two : (w : World) (s : State) (m n : KeptMember) → WellFormed w → StateStandsIn w (community_of s) → AreOrderly (community_of s)
    → Has (named_member m) (community_of s).members → Has (named_member n) (community_of s).members
    → know_same s.units m.member n.member ≡ true → hold_same m.member n.member ≡ true
fair_two w s m n ok stands orderly here there same =
    let facts = facts_hold w (community_of s) ok stands in
    let alike = (same_knowledge s.units m.member n.member (orderly (named_member m) here) (orderly (named_member n) there)).0 same in
    let units : s.units ≡ w.units = counted w (community_of s) (named_member m) stands here in
    (items_decided (live_items m.member.items) (live_items n.member.items)).1
    (facts.equal (named_member m) (named_member n) here there
    (subst (λ (units : ℕ). HaveEqualKnowledge units (shown m.member) (shown n.member)) units alike))

-- any turn
form_fair : (w : World) (s : State) (t : Turn) → IsTurn s t → Stands w s → AreOrderly (community_of s) → IsFair t.reply
form_fair w s t (tells s2 reply plain) at orderly = plain.fair
form_fair w s t (compares s2 m n one other) at orderly = λ is.
    let here = named_has s.members m (member_has s.members one.name m one.found) in
    let there = named_has s.members n (member_has s.members other.name n other.found) in
    let parts = compared_parts (know_same s.units m.member n.member) (hold_same m.member n.member) is in
    absurd (true≢false (sym (fair_two w s m n at.ok at.stands orderly here there parts.0) ∙ parts.1))
form_fair w s t (counts s2 n count unsaid) at orderly = λ is. cc
form_fair w s t (joins s2 name id fits some new) at orderly = λ is. cc
form_fair w s t (edits s2 m n event reply edit) at orderly = edit.plain.fair
form_fair w s t (refuses s2 m n fault here there why) at orderly = λ is. cc
form_fair w s t (meets s2 m n options here there some free) at orderly = λ is. cc

pub never_same_but_different : (w : World) (s : State) (line : List ℕ) → WellFormed w → StateStandsIn w (community_of s) → AreOrderly (community_of s)
    → (turn s line).reply ≢ Compared true false
never_same_but_different w s line ok stands orderly =
    form_fair w s (turn s line) (line_form s (reading_of line) (limits_kept line)) (record { ok = ok; stands = stands }) orderly
