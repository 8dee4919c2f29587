-- An edit of one replica among those of the program.
use Rattle.std.proofs.Common.{◌≡◌, ◌≢◌, ℕ, zero, suc, ◌<◌, Result, Ok, Err, IfOk, OnOk, OnErr, true, false, ◌==◌, Option, Some, None, List, [], ◌∷◌, length, refl, sym, ap, ◌∙◌, slice_get, position, arith}
use Rattle.std.proofs.lemmas.Bool.{eq-eqb, ne_eqb}
use Rattle.std.specs.Map.{keys_of, values_of}
use Rattle.std.specs.Str.{bytes_eq}
use Rattle.indexmap.specs.IndexMap.{set_value_at}
use Rattle.sfx_ids.specs.declared.item_id.ItemId.{ItemId}
use Rattle.sfx_ids.specs.declared.memory.Memory.{Memory}
use Rattle.sfx_model.specs.world.Events.{Make}
use Rattle.sfx_model.specs.members.Members.{Member}
use Rattle.sfx_model.specs.members.States.{created_contents, deleted_contents, edited_contents, next_item, next_version}
use Rattle.sfx_provider.specs.Answer.{When}
use Rattle.sfx_replica.specs.declared.edit_fault.EditFault.{EditFault}
use Rattle.sfx_replica.specs.declared.edit_fault.EditFault.TheVariants as edit_faults
use Rattle.sfx_replica.specs.Edits.{created, deleted, edited}
use Rattle.sfx_replica.specs.Refusals.{create_refusal, delete_refusal, refuses_edit, set_refusal}
use Rattle.sfx_reply.specs.Reply.{is_memory}
use Rattle.sfx_reply.specs.declared.reason.Reason.TheVariants.{BadCount, Edit}
use Rattle.sfx_reply.specs.declared.reply.Reply.{Reply}
use Rattle.sfx_reply.specs.declared.reply.Reply.TheVariants.{Created, Changed, Refused}
use Rattle.sfx_community.specs.State.{KeptData, KeptMember, State, kept_as, member_of, members_view, members_with, state_among, state_with}
use Rattle.sfx_community.specs.Turn.{Turn, acted, create_turn, delete_turn, refused, set_turn}
use Rattle.sfx_community.proofs.MapEntries.{Entries, stands_at, stands_nowhere, with_replica}

-- the member with a name, and the members with its replica in another state
pub record Finds (es : Entries) (ms : List KeptMember) (name : List ℕ) (i : ℕ) (k : KeptData) : Type 0 where
  pub member : member_of ms name ≡ Some (kept_as name k)
  pub put : (n : Member) → members_view (set_value_at es i (with_replica k n)) ≡ members_with name n ms

pub finds : (es : Entries) (ms : List KeptMember) (name : List ℕ) (i : ℕ) (k : KeptData) (r : Option ℕ)
    → members_view es ≡ ms → r ≡ position (bytes_eq name) (keys_of es) → r ≡ Some i → slice_get (values_of es) i ≡ Some k → Finds es ms name i k
finds es ms name i k r viewed searched found value =
    let at = stands_at es name i (sym searched ∙ found) in
    record {
      member = ap (λ (xs : List KeptMember). member_of xs name) (sym viewed) ∙ at.member k value;
      put = λ n. at.put k n value ∙ ap (λ (xs : List KeptMember). members_with name n xs) viewed;
    }

-- no member has the name
pub none_found : (es : Entries) (ms : List KeptMember) (name : List ℕ) (r : Option ℕ)
    → members_view es ≡ ms → r ≡ position (bytes_eq name) (keys_of es) → r ≡ None → member_of ms name ≡ None
none_found es ms name r viewed searched none =
    ap (λ (xs : List KeptMember). member_of xs name) (sym viewed) ∙ stands_nowhere es name (sym searched ∙ none)

-- what a creation comes to
pub created_turn : (units : ℕ) (ms : List KeptMember) (name : List ℕ) (k : KeptData) (values : List (List ℕ)) → member_of ms name ≡ Some (kept_as name k)
    → length values ≡ units → create_refusal k.member values ≡ None
    → create_turn (state_among units ms) name values
    ≡ acted (Created (next_item k.member)) (Make k.member.id (next_item k.member) (next_version k.member) (created_contents values))
    (state_with name (created k.member values) (state_among units ms))
created_turn units ms name k values found whole none =
    let test : (length values == units) ≡ true = eq-eqb (length values) units whole in
    rw (found, test, none) refl

pub uncreated_turn : (units : ℕ) (ms : List KeptMember) (name : List ℕ) (k : KeptData) (values : List (List ℕ)) (fault : EditFault)
    → member_of ms name ≡ Some (kept_as name k) → length values ≡ units → create_refusal k.member values ≡ Some fault
    → create_turn (state_among units ms) name values ≡ refused (state_among units ms) (Edit fault)
uncreated_turn units ms name k values fault found whole is =
    let test : (length values == units) ≡ true = eq-eqb (length values) units whole in
    rw (found, test, is) refl

-- too few values or too many are refused
pub uncounted_turn : (units : ℕ) (ms : List KeptMember) (name : List ℕ) (k : KeptData) (values : List (List ℕ)) → member_of ms name ≡ Some (kept_as name k)
    → length values ≢ units → create_turn (state_among units ms) name values ≡ refused (state_among units ms) (BadCount (length values) units)
uncounted_turn units ms name k values found other =
    let test : (length values == units) ≡ false = ne_eqb (length values) units other in
    rw (found, test) refl

-- what a written value comes to
pub edited_turn : (units : ℕ) (ms : List KeptMember) (name : List ℕ) (k : KeptData) (item : ItemId) (unit : ℕ) (value : List ℕ)
    → member_of ms name ≡ Some (kept_as name k) → set_refusal units k.member item unit value ≡ None
    → set_turn (state_among units ms) name item unit value
    ≡ acted (Changed (next_version k.member)) (Make k.member.id item (next_version k.member) (edited_contents unit value))
    (state_with name (edited k.member item unit value) (state_among units ms))
edited_turn units ms name k item unit value found none = rw (found, none) refl

pub unedited_turn : (units : ℕ) (ms : List KeptMember) (name : List ℕ) (k : KeptData) (item : ItemId) (unit : ℕ) (value : List ℕ) (fault : EditFault)
    → member_of ms name ≡ Some (kept_as name k) → set_refusal units k.member item unit value ≡ Some fault
    → set_turn (state_among units ms) name item unit value ≡ refused (state_among units ms) (Edit fault)
unedited_turn units ms name k item unit value fault found is = rw (found, is) refl

-- what a deletion comes to
pub deleted_turn : (units : ℕ) (ms : List KeptMember) (name : List ℕ) (k : KeptData) (item : ItemId)
    → member_of ms name ≡ Some (kept_as name k) → delete_refusal k.member item ≡ None
    → delete_turn (state_among units ms) name item
    ≡ acted (Changed (next_version k.member)) (Make k.member.id item (next_version k.member) (deleted_contents units))
    (state_with name (deleted k.member item) (state_among units ms))
deleted_turn units ms name k item found none = rw (found, none) refl

pub undeleted_turn : (units : ℕ) (ms : List KeptMember) (name : List ℕ) (k : KeptData) (item : ItemId) (fault : EditFault)
    → member_of ms name ≡ Some (kept_as name k) → delete_refusal k.member item ≡ Some fault
    → delete_turn (state_among units ms) name item ≡ refused (state_among units ms) (Edit fault)
undeleted_turn units ms name k item fault found is = rw (found, is) refl

-- what is not out of memory is the refusal
pub refusal_is : (fault : EditFault) (o : Option EditFault) → When (refuses_edit fault) (o ≡ Some fault) → is_memory fault ≡ false → o ≡ Some fault
refusal_is edit_faults.NoItem o is other = is
refusal_is edit_faults.Deleted o is other = is
refusal_is (edit_faults.BadUnit k u) o is other = is
refusal_is (edit_faults.BadName at) o is other = is
refusal_is (edit_faults.Clash item) o is other = is
refusal_is (edit_faults.ClockFull clock) o is other = is
refusal_is edit_faults.NotDeleted o is other = is
refusal_is edit_faults.Memory o is other = absurd (cc)

-- the same, where the refusal is handed on
pub refusal_reply : {s : State} (r : Result Reply Memory) (fault : EditFault) (turn : Turn) (o : Option EditFault)
    → IfOk r (λ reply. (reply ≡ Refused (Edit fault)) × (is_memory fault ≡ false)) → When (refuses_edit fault) (o ≡ Some fault)
    → (o ≡ Some fault → turn ≡ refused s (Edit fault)) → IfOk r (λ reply. reply ≡ turn.reply)
refusal_reply (Ok reply) fault turn o given told is = given.0 ∙ sym (ap (λ (t : Turn). t.reply) (is (refusal_is fault o told given.1)))
refusal_reply (Err e) fault turn o given told is = tt

pub refusal_after : {s : State} (r : Result Reply Memory) (fault : EditFault) (turn : Turn) (o : Option EditFault) (new : State)
    → IfOk r (λ reply. (reply ≡ Refused (Edit fault)) × (is_memory fault ≡ false)) → When (refuses_edit fault) (o ≡ Some fault)
    → (o ≡ Some fault → turn ≡ refused s (Edit fault)) → new ≡ s → OnOk r (new ≡ turn.state)
refusal_after (Ok reply) fault turn o new given told is same = same ∙ sym (ap (λ (t : Turn). t.state) (is (refusal_is fault o told given.1)))
refusal_after (Err e) fault turn o new given told is same = tt

-- what holds in any case holds of a fault
pub err_anyhow : {T E P : Type 0} (r : Result T E) → P → OnErr r P
err_anyhow (Ok x) fact = tt
err_anyhow (Err e) fact = fact

-- what is kept, put back in its place, changes nothing
put_back : (es : Entries) (i : ℕ) (k n : KeptData) → slice_get (values_of es) i ≡ Some k → n ≡ k → set_value_at es i n ≡ es
put_back [] i k n value same = refl
put_back (e ∷ es) zero k n value same = let is : e.1 ≡ k = cc in rw (same, ← is) refl
put_back (e ∷ es) (suc i) k n value same = ap (λ xs. e ∷ xs) (put_back es i k n value same)

pub rests : (es : Entries) (ms : List KeptMember) (i : ℕ) (k : KeptData) (n : Member) → members_view es ≡ ms → slice_get (values_of es) i ≡ Some k
    → n ≡ k.member → members_view (set_value_at es i (with_replica k n)) ≡ ms
rests es ms i k n viewed value same =
    ap (λ (xs : Entries). members_view xs) (put_back es i k (with_replica k n) value (ap (λ (m : Member). with_replica k m) same)) ∙ viewed

value_there : (es : Entries) (i : ℕ) → i < length es → (k : KeptData) × (slice_get (values_of es) i ≡ Some k)
value_there [] i within = absurd (omega arith)
value_there (e ∷ es) zero within = (e.1, refl)
value_there (e ∷ es) (suc i) within = value_there es i (omega arith)

pub uncounted : (es : Entries) (ms : List KeptMember) (units : ℕ) (name : List ℕ) (i : ℕ) (values : List (List ℕ)) (r : Option ℕ)
    → members_view es ≡ ms → r ≡ position (bytes_eq name) (keys_of es) → r ≡ Some i → length values ≢ units
    → create_turn (state_among units ms) name values ≡ refused (state_among units ms) (BadCount (length values) units)
uncounted es ms units name i values r viewed searched found other =
    let at = stands_at es name i (sym searched ∙ found) in
    let (k, value) = value_there es i at.within in
    uncounted_turn units ms name k values (finds es ms name i k r viewed searched found value).member other
