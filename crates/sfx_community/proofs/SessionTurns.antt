-- A session between two replicas of the program.
use Rattle.std.proofs.Common.{◌≡◌, ◌≢◌, ℕ, Bool, true, false, if◌then◌else◌, Result, Ok, Err, IfOk, OnOk, Option, Some, None, List, [], ◌∷◌, refl, sym, ap, ◌∙◌, subst}
use Rattle.std.specs.Str.{bytes_eq}
use Rattle.sfx_ids.specs.declared.memory.Memory.{Memory}
use Rattle.sfx_model.specs.members.Members.{Member}
use Rattle.sfx_script.specs.declared.options.Options.{Options}
use Rattle.sfx_session.specs.declared.session_fault.SessionFault.{SessionFault}
use Rattle.sfx_session.specs.declared.session_fault.SessionFault.TheVariants as session_faults
use Rattle.sfx_provider.specs.Answer.{When}
use Rattle.sfx_session.specs.Fault.{refuses_session}
use Rattle.sfx_session.specs.Refusals.{session_refusal}
use Rattle.sfx_session.specs.Report.{ReportData, report_of}
use Rattle.sfx_reply.specs.Report.{report_text}
use Rattle.sfx_reply.specs.declared.reason.Reason.TheVariants.{Session}
use Rattle.sfx_reply.specs.declared.reply.Reply.{Reply}
use Rattle.sfx_reply.specs.declared.reply.Reply.TheVariants.{Refused, Synced}
use Rattle.sfx_community.specs.State.{KeptData, KeptMember, kept_as, member_of, members_with, state_among}
use Rattle.sfx_community.specs.Turn.{Turn, built_rules, refused, session_turn, session_under, sync_by}

-- both replicas are there
pub record Meets (ms : List KeptMember) (source destination : List ℕ) (k l : KeptData) : Type 0 where
  pub source_is : member_of ms source ≡ Some (kept_as source k)
  pub destination_is : member_of ms destination ≡ Some (kept_as destination l)

pub both_there : (ms : List KeptMember) (source destination : List ℕ) (x y k l : KeptData) → Some (kept_as source x) ≡ member_of ms source
    → Some (kept_as destination y) ≡ member_of ms destination → k ≡ x → l ≡ y → Meets ms source destination k l
both_there ms source destination x y k l first second one other = record {
  source_is = sym first ∙ ap (λ (z : KeptData). Some (kept_as source z)) (sym one);
  destination_is = sym second ∙ ap (λ (z : KeptData). Some (kept_as destination z)) (sym other);
}

met_turn : (units : ℕ) (ms : List KeptMember) (source destination : List ℕ) (k l : KeptData) (options : Options) → Meets ms source destination k l
    → (o : Option SessionFault) → session_refusal units k.member l.member ≡ o
    → session_turn (state_among units ms) source destination options ≡ sync_by (state_among units ms) (kept_as source k) (kept_as destination l) options o
met_turn units ms source destination k l options meets o is = rw (meets.source_is, meets.destination_is, is) refl

-- what is told of a session, and what it leaves
pub met_reply : (units : ℕ) (ms : List KeptMember) (source destination : List ℕ) (k l : KeptData) (options : Options) (told : ReportData) (r : Result Reply Memory)
    → Meets ms source destination k l → session_refusal units k.member l.member ≡ None → told ≡ report_of units k.member l.member built_rules options.batch options.cut
    → IfOk r (λ reply. reply ≡ Synced (report_text told.steps told.end) told.end)
    → IfOk r (λ reply. reply ≡ (session_turn (state_among units ms) source destination options).reply)
met_reply units ms source destination k l options told (Ok reply) meets free is written =
    let turn = ap (λ (t : Turn). t.reply) (met_turn units ms source destination k l options meets None free) in
    written ∙ ap (λ (r : ReportData). Synced (report_text r.steps r.end) r.end) is ∙ sym turn
met_reply units ms source destination k l options told (Err e) meets free is written = tt

pub met_after : (units : ℕ) (ms ns : List KeptMember) (source destination : List ℕ) (k l : KeptData) (left : Member) (options : Options) (r : Result Reply Memory)
    → Meets ms source destination k l → session_refusal units k.member l.member ≡ None → left ≡ (session_under units k.member l.member options).course.member
    → OnOk r (ns ≡ members_with destination left ms)
    → OnOk r (state_among units ns ≡ (session_turn (state_among units ms) source destination options).state)
met_after units ms ns source destination k l left options (Ok reply) meets free is put =
    let turn = ap (λ (t : Turn). t.state) (met_turn units ms source destination k l options meets None free) in
    ap (state_among units) (put ∙ ap (λ (x : Member). members_with destination x ms) is) ∙ sym turn
met_after units ms ns source destination k l left options (Err e) meets free is put = tt

-- what is none of a provider and not out of memory refuses the session
refusal_is : (fault : SessionFault) (o : Option SessionFault) → When (refuses_session fault) (o ≡ Some fault)
    → fault ≢ session_faults.Source → fault ≢ session_faults.Destination → fault ≢ session_faults.Memory → o ≡ Some fault
refusal_is session_faults.SameReplica o is source destination memory = is
refusal_is (session_faults.Ahead tick clock) o is source destination memory = is
refusal_is session_faults.NotBuilt o is source destination memory = is
refusal_is session_faults.Source o is source destination memory = absurd (source refl)
refusal_is session_faults.Destination o is source destination memory = absurd (destination refl)
refusal_is session_faults.Memory o is source destination memory = absurd (memory refl)

unmet_turn : (units : ℕ) (ms : List KeptMember) (source destination : List ℕ) (k l : KeptData) (options : Options) (fault : SessionFault)
    → Meets ms source destination k l → When (refuses_session fault) (session_refusal units k.member l.member ≡ Some fault) → fault ≢ session_faults.Source → fault ≢ session_faults.Destination
    → fault ≢ session_faults.Memory → session_turn (state_among units ms) source destination options ≡ refused (state_among units ms) (Session fault)
unmet_turn units ms source destination k l options fault meets is one other memory =
    met_turn units ms source destination k l options meets (Some fault) (refusal_is fault (session_refusal units k.member l.member) is one other memory)

pub unmet_reply : (units : ℕ) (ms : List KeptMember) (source destination : List ℕ) (k l : KeptData) (options : Options) (fault : SessionFault) (r : Result Reply Memory)
    → Meets ms source destination k l → When (refuses_session fault) (session_refusal units k.member l.member ≡ Some fault) → fault ≢ session_faults.Source → fault ≢ session_faults.Destination
    → IfOk r (λ reply. (reply ≡ Refused (Session fault)) × (fault ≢ session_faults.Memory))
    → IfOk r (λ reply. reply ≡ (session_turn (state_among units ms) source destination options).reply)
unmet_reply units ms source destination k l options fault (Ok reply) meets is one other given =
    given.0 ∙ sym (ap (λ (t : Turn). t.reply) (unmet_turn units ms source destination k l options fault meets is one other given.1))
unmet_reply units ms source destination k l options fault (Err e) meets is one other given = tt

pub unmet_after : (units : ℕ) (ms : List KeptMember) (source destination : List ℕ) (k l : KeptData) (options : Options) (fault : SessionFault) (r : Result Reply Memory)
    → Meets ms source destination k l → When (refuses_session fault) (session_refusal units k.member l.member ≡ Some fault) → fault ≢ session_faults.Source → fault ≢ session_faults.Destination
    → IfOk r (λ reply. (reply ≡ Refused (Session fault)) × (fault ≢ session_faults.Memory))
    → OnOk r (state_among units ms ≡ (session_turn (state_among units ms) source destination options).state)
unmet_after units ms source destination k l options fault (Ok reply) meets is one other given =
    sym (ap (λ (t : Turn). t.state) (unmet_turn units ms source destination k l options fault meets is one other given.1))
unmet_after units ms source destination k l options fault (Err e) meets is one other given = tt

-- without a member of the name there is none to change
pub unchanged : (name : List ℕ) (n : Member) (ms : List KeptMember) → member_of ms name ≡ None → members_with name n ms ≡ ms
unchanged name n [] none = refl
unchanged name n (m ∷ ms) none = by_test (unchanged name n ms) (bytes_eq m.name name) refl none where
  by_test : (member_of ms name ≡ None → members_with name n ms ≡ ms) → (b : Bool) → bytes_eq m.name name ≡ b
      → (if b then Some m else member_of ms name) ≡ None → members_with name n (m ∷ ms) ≡ m ∷ ms
  by_test rest true is none = absurd (cc)
  by_test rest false is none = rw is (ap (λ xs. m ∷ xs) (rest none))

-- what holds of equal copies of two replicas holds of them
pub of_copies : (P : Member → Member → Type 0) {m n x y : Member} → x ≡ m → y ≡ n → P x y → P m n
of_copies P {m} {n} {x} {y} one other fact = subst (λ (k : Member). P m k) other (subst (λ (k : Member). P k y) one fact)
