-- What a batch does in a world, and that no replica of it is ahead, by the laws of the model.
use Rattle.std.proofs.Common.{◌≡◌, ℕ, ◌≤◌, Option, Some, None, Err, sym, ◌∙◌, ap, subst}
use Rattle.std.specs.Option.{option_map}
use Rattle.sfx_knowledge.specs.Forgotten.{Forgets}
use Rattle.sfx_knowledge.specs.Knowledge.{Known}
use Rattle.sfx_model.specs.sessions.Acts.{Brings, DeedsActIn, IsDue, IsInForm, IsOrderly, KnowsForgotten}
use Rattle.sfx_model.specs.sessions.Batch.{BatchData}
use Rattle.sfx_model.specs.sessions.Deeds.{batch_deeds}
use Rattle.sfx_model.specs.sessions.MemberKnowledge.{ahead_of, laid_known}
use Rattle.sfx_model.specs.members.Members.{Member}
use Rattle.sfx_model.specs.sessions.Rules.{RulesData}
use Rattle.sfx_model.specs.sessions.Session.{outcome_of}
use Rattle.sfx_model.specs.world.World.{World}
use Rattle.sfx_provider.specs.Answer.{IsNever, Refuses}
use Rattle.sfx_apply.specs.Fault.{batch_is_ahead, batch_refusal}
use Rattle.sfx_apply.specs.declared.apply_fault.ApplyFault.{ApplyFault}
use Rattle.sfx_apply.specs.declared.apply_fault.ApplyFault.TheVariants.{Ahead, Provider, Memory}
use Rattle.sfx_model.proofs.sessions.SessionsAct.{batch_acts}
use Rattle.sfx_model.proofs.sessions.DueBatch.{due_from}
use Rattle.sfx_model.proofs.sessions.NoneIsAhead.{form_ahead}
use Rattle.sfx_model.proofs.world.SiteLemmas.{found}

-- A batch that a source brings acts in the world, and the destination is then as the batch has it.
pub brought_acts :
    (w : World) (units : ℕ) (source m n : Member) (b : BatchData) (rules : RulesData) (budget : Option ℕ)
    → IsOrderly units m → n ≡ (outcome_of units b rules budget m).member
    → Brings w units source m b → DeedsActIn w (batch_deeds units b rules budget m) source m.id n
brought_acts w units source m n b rules budget orderly is brings =
    let part = brings.part in
    let law : (k : ℕ) → w.units ≡ k → IsInForm k source → IsOrderly k m → IsDue k source m brings.size b → KnowsForgotten k b m
    → DeedsActIn w (batch_deeds k b rules budget m) source m.id (outcome_of k b rules budget m).member =
    λ k same. subst
    (λ (u : ℕ). IsInForm u source → IsOrderly u m → IsDue u source m brings.size b → KnowsForgotten u b m
    → DeedsActIn w (batch_deeds u b rules budget m) source m.id (outcome_of u b rules budget m).member) same
    (λ theirs ours due knows. batch_acts w source m b rules brings.size budget part.well_formed part.apart part.source_stands part.stands
    theirs ours brings.some due knows) in
    subst (λ (x : Member). DeedsActIn w (batch_deeds units b rules budget m) source m.id x) (sym is)
    (law units part.units_are brings.form orderly brings.due brings.knows)

-- The destination of a batch that a source brings is not ahead.
pub brought_behind :
    (w : World) (units : ℕ) (source m : Member) (b : BatchData) → Brings w units source m b → ahead_of m b.made_with b.forgotten ≡ None
brought_behind w units source m b brings =
    let part = brings.part in
    let from = due_from units source b.mode brings.size m b.from in
    let known : b.made_with ≡ laid_known units source = ap (λ (x : BatchData). x.made_with) brings.due ∙ from.made_with in
    let forgotten : b.forgotten ≡ source.forgotten = ap (λ (x : BatchData). x.forgotten) brings.due ∙ from.forgotten in
    let theirs : IsInForm w.units source = subst (λ (u : ℕ). IsInForm u source) (sym part.units_are) brings.form in
    let (site, at, shows) = part.source_stands in
    let some : 1 ≤ w.units = part.well_formed.counted site (found w.sites source.id site at).0 in
    let none : ahead_of m (laid_known units source) source.forgotten ≡ None =
    subst (λ (u : ℕ). ahead_of m (laid_known u source) source.forgotten ≡ None) part.units_are
    (form_ahead w source m part.source_stands part.stands some theirs) in
    ap (λ (x : Known). ahead_of m x b.forgotten) known ∙ (ap (λ (x : Forgets). ahead_of m (laid_known units source) x) forgotten ∙ none)

-- What is told of a destination that a source brings a batch is not that it is ahead.
pub told_not_ahead :
    (w : World) (units : ℕ) (source m : Member) (b : BatchData) (e : ApplyFault)
    → Refuses {A = Unit {0}} batch_is_ahead (Err e) (batch_refusal m b) → Brings w units source m b → IsNever {A = Unit {0}} batch_is_ahead (Err e)
told_not_ahead w units source m b (Ahead tick clock) told brings =
    let none : batch_refusal m b ≡ None = ap (option_map (λ (x : ℕ). Ahead x m.clock)) (brought_behind w units source m b brings) in
    let bad : Some (Ahead tick clock) ≡ None = sym told ∙ none in
    absurd (cc)
told_not_ahead w units source m b Provider told brings = tt
told_not_ahead w units source m b Memory told brings = tt

-- A fault that is no refusal agrees with whatever refuses the batch.
pub refuses_other :
    (refusal : Option ApplyFault) (e : ApplyFault) → IsNever {A = Unit {0}} batch_is_ahead (Err e) → Refuses {A = Unit {0}} batch_is_ahead (Err e) refusal
refuses_other refusal (Ahead tick clock) other = absurd other
refuses_other refusal Provider other = tt
refuses_other refusal Memory other = tt
