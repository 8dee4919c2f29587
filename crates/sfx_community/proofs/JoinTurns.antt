-- A replica that is added, and a line as it was read.
use Rattle.std.proofs.Common.{◌≡◌, ℕ, ◌≤◌, Bool, true, false, if◌then◌else◌, nat_eq, Ok, Err, Some, List, [], ◌∷◌, ◌++◌, is_some, refl, sym, ap, ◌∙◌, arith}
use Rattle.std.proofs.lemmas.Bool.Decides.{nat_tests}
use Rattle.std.specs.Map.{lookup}
use Rattle.std.specs.Result.{result_ok}
use Rattle.std.specs.Str.{bytes_eq}
use Rattle.indexmap.specs.IndexMap.{insert_entry}
use Rattle.sfx_model.specs.world.Events.{Join}
use Rattle.sfx_replica.specs.Edits.{new_member}
use Rattle.sfx_script.specs.Reading.{Read}
use Rattle.sfx_script.specs.Wrong.{place_in, cause_place}
use Rattle.sfx_script.specs.declared.line.Line.{Line}
use Rattle.sfx_reply.specs.declared.reason.Reason.TheVariants.{Syntax, NameTaken, IdTaken}
use Rattle.sfx_reply.specs.declared.reply.Reply.TheVariants.{Done}
use Rattle.sfx_community.specs.State.{KeptData, KeptMember, State, is_id_taken, has_name, kept_as, members_view, state_added, state_among}
use Rattle.sfx_community.specs.Turn.{acted, refused, replica_turn, turn_by, turn_of}
use Rattle.sfx_community.proofs.MapEntries.{Entries, name_taken}

-- whether a member has the name, as the map was asked
pub asked_name : (es : Entries) (ms : List KeptMember) (name : List ℕ) (asked is : Bool) → members_view es ≡ ms → asked ≡ is_some (lookup (bytes_eq name) es)
    → asked ≡ is → has_name name ms ≡ is
asked_name es ms name asked is viewed answer found =
    ap (λ (xs : List KeptMember). has_name name xs) (sym viewed) ∙ (sym (name_taken es name) ∙ (sym answer ∙ found))

said : (units : ℕ) → 1 ≤ units → nat_eq units 0 ≡ false
said units some = grind (arith, nat_tests)

pub name_turn : (units : ℕ) (ms : List KeptMember) (name : List ℕ) (id : ℕ) → 1 ≤ units → has_name name ms ≡ true
    → replica_turn (state_among units ms) name id ≡ refused (state_among units ms) NameTaken
name_turn units ms name id some taken = rw (said units some, taken) refl

pub id_turn : (units : ℕ) (ms : List KeptMember) (name : List ℕ) (id : ℕ) → 1 ≤ units → has_name name ms ≡ false
    → is_id_taken id ms ≡ true → replica_turn (state_among units ms) name id ≡ refused (state_among units ms) IdTaken
id_turn units ms name id some free taken = rw (said units some, free, taken) refl

pub joined_turn : (units : ℕ) (ms : List KeptMember) (name : List ℕ) (id : ℕ) → 1 ≤ units → has_name name ms ≡ false
    → is_id_taken id ms ≡ false
    → replica_turn (state_among units ms) name id ≡ acted Done (Join id) (state_added name (new_member id) (state_among units ms))
joined_turn units ms name id some free other = rw (said units some, free, other) refl

-- a new name goes behind the others
pub insert_new : (es : Entries) (name : List ℕ) (k : KeptData) → is_some (lookup (bytes_eq name) es) ≡ false
    → members_view (insert_entry bytes_eq es name k) ≡ members_view es ++ kept_as name k ∷ []
insert_new [] name k none = refl
insert_new (e ∷ es) name k none = by_test (insert_new es name k) (bytes_eq name e.0) refl none where
  by_test : (is_some (lookup (bytes_eq name) es) ≡ false → members_view (insert_entry bytes_eq es name k) ≡ members_view es ++ kept_as name k ∷ [])
      → (b : Bool) → bytes_eq name e.0 ≡ b → is_some (if b then Some e.1 else lookup (bytes_eq name) es) ≡ false
      → members_view (insert_entry bytes_eq (e ∷ es) name k) ≡ members_view (e ∷ es) ++ kept_as name k ∷ []
  by_test rest true is gone = let bad : true ≡ false = gone in absurd (cc)
  by_test rest false is gone = rw is (ap (λ ms. kept_as e.0 e.1 ∷ ms) (rest gone))

-- a line that was read, and one that goes wrong
pub read_turn : (s : State) (r : Read Line) (line : Line) → result_ok r ≡ Some line → turn_by s r ≡ turn_of s line
read_turn s (Ok read) line is = let same : read ≡ line = cc in ap (λ x. turn_of s x) same
read_turn s (Err cause) line is = absurd (cc)

pub wrong_turn : (s : State) (r : Read Line) (at : ℕ) → place_in r ≡ Some at → turn_by s r ≡ refused s (Syntax at)
wrong_turn s (Ok read) at is = absurd (cc)
wrong_turn s (Err cause) at is = let same : cause_place cause ≡ at = cc in ap (λ n. refused s (Syntax n)) same
