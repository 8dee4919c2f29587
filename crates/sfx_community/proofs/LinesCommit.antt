-- The state after a line is the last that the line commits.
use Rattle.std.proofs.Common.{◌≡◌, ℕ, Bool, true, false, if◌then◌else◌, Some, None, List, [], ◌∷◌, map, refl, sym, ap, ◌∙◌, subst}
use Rattle.std.specs.Str.{bytes_eq}
use Rattle.sfx_model.specs.members.Members.{Member}
use Rattle.sfx_model.specs.sessions.Moments.{committed}
use Rattle.sfx_script.specs.Reading.{reading_of}
use Rattle.sfx_script.specs.Script.{is_passed}
use Rattle.sfx_script.specs.declared.options.Options.{Options}
use Rattle.sfx_community.specs.State.{KeptMember, State, become, member_of, members_with, state_with}
use Rattle.sfx_community.specs.Turn.{Turn, built_rules, first_then, last_or, session_under, sync_by, turn, turns}
use Rattle.sfx_community.proofs.SessionCommits.{last_or-append, last_or-map, session_commits}
use Rattle.sfx_community.proofs.StateLemmas.{found_named}
use Rattle.sfx_community.proofs.TurnForms.{IsFound, IsTurn, compares, counts, edits, joins, limits_kept, line_form, meets, refuses, tells}

-- a replica put back as it is changes nothing
put_back : (ms : List KeptMember) (name : List ℕ) (m : KeptMember) → member_of ms name ≡ Some m → members_with name m.member ms ≡ ms
put_back [] name m found = refl
put_back (x ∷ xs) name m found = by_name (put_back xs name m) (bytes_eq x.name name) found where
  by_name : (member_of xs name ≡ Some m → members_with name m.member xs ≡ xs) → (b : Bool) → (if b then Some x else member_of xs name) ≡ Some m
      → (if b then become m.member x ∷ xs else x ∷ members_with name m.member xs) ≡ x ∷ xs
  by_name rest true found =
      let is : x ≡ m = cc in
      ap (λ (n : KeptMember). become n.member x ∷ xs) (sym is)
  by_name rest false found = ap (λ (ms : List KeptMember). x ∷ ms) (rest found)

with_itself : (s : State) (name : List ℕ) (m : KeptMember) → member_of s.members name ≡ Some m → state_with m.name m.member s ≡ s
with_itself s name m found =
    let named = (found_named s.members name m found).0 in
    let here : member_of s.members m.name ≡ Some m = subst (λ (n : List ℕ). member_of s.members n ≡ Some m) (sym named) found in
    ap (λ (ms : List KeptMember). record { units = s.units; members = ms }) (put_back s.members m.name m here)

session_ends : (s : State) (m n : KeptMember) (options : Options) → IsFound s n
    → last_or s (sync_by s m n options None).commits ≡ (sync_by s m n options None).state
session_ends s m n options there =
    let result = session_under s.units m.member n.member options in
    let states = committed options.group result.course.moments in
    let put : Member → State = λ k. state_with n.name k s in
    let from : last_or s (map put states) ≡ last_or (put n.member) (map put states) =
    ap (λ (x : State). last_or x (map put states)) (sym (with_itself s there.name n there.found)) in
    from ∙ (last_or-map put n.member states ∙ ap put (session_commits options.group s.units m.member n.member built_rules options.batch options.cut))

-- any turn
form_commits : (s : State) (t : Turn) → IsTurn s t → last_or s t.commits ≡ t.state
form_commits s t (tells s2 reply plain) = refl
form_commits s t (compares s2 m n here there) = refl
form_commits s t (counts s2 n count unsaid) = refl
form_commits s t (joins s2 name id fits some new) = refl
form_commits s t (edits s2 m n event reply edit) = refl
form_commits s t (refuses s2 m n fault here there why) = refl
form_commits s t (meets s2 m n options here there some free) = session_ends s m n options there

pub turn_commits : (s : State) (line : List ℕ) → last_or s (turn s line).commits ≡ (turn s line).state
turn_commits s line = form_commits s (turn s line) (line_form s (reading_of line) (limits_kept line))

pub turns_commit : (s : State) (lines : List (List ℕ)) → last_or s (turns s lines).commits ≡ (turns s lines).state
turns_commit s [] = refl
turns_commit s (line ∷ lines) = by_passed (is_passed line) (turns_commit s lines) (turns_commit (turn s line).state lines) where
  by_passed : (b : Bool) → last_or s (turns s lines).commits ≡ (turns s lines).state
      → last_or (turn s line).state (turns (turn s line).state lines).commits ≡ (turns (turn s line).state lines).state
      → last_or s (if b then turns s lines else first_then (turn s line) (turns (turn s line).state lines)).commits
      ≡ (if b then turns s lines else first_then (turn s line) (turns (turn s line).state lines)).state
  by_passed true here rest = here
  by_passed false here rest =
      last_or-append s (turn s line).commits (turns (turn s line).state lines).commits
      ∙ (ap (λ (x : State). last_or x (turns (turn s line).state lines).commits) (turn_commits s line) ∙ rest)
