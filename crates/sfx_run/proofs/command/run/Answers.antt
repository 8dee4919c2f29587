use Rattle.std.proofs.Common.{◌≡◌, ◌<◌, ◌≤◌, ◌⊎◌, ◌∙◌, ℕ, true, false, true≢false, inl, inr, length, refl, sym, arith}
use Rattle.sfx_outside.specs.Sink.{Adds}
use Rattle.sfx_model.specs.world.World.{World, WellFormed}
use Rattle.sfx_run.proofs.PlayedScripts.{played_fits, played_happens, played_not_ahead}
use Rattle.sfx_run.proofs.SourceLemmas.{answered_or_memory, has_begun, neither, takes_nothing, told, told_anyhow, unanswered, unlike}
use Rattle.sfx_run.specs.declared.status.Status.TheVariants.{Memory, SinkFault, SourceFault, TooLong, Usage}
use Rattle.sfx_community.specs.History.{AllFit, AreNotAhead, HasHappened, IsAllOf}
use Rattle.sfx_run.specs.Run.{BrokeOff, RanOutOfMemory, has_refusal, played, played_text, played_to}
use Rattle.sfx_run.specs.Status.{IsAnswered}
use Rattle.sfx_community.specs.State.{State, community_of}
use Rattle.sfx_community.specs.Turn.{empty_state}
use Rattle.sfx_run.proofs.command.run.Goals as goal

pub returns-clause-answered : goal.returns-clause-answered
returns-clause-answered g c is =
    told (λ s. Adds (g.B.Sink.held c.args.out.now) (g.B.Sink.held c.answer.new.out) (played_text s)) _ c.in-Ok.script.items c.in-Ok.ensures.all
    (rw c.as_slice.ensures.value at (c.answer.ensures.answered is))

pub returns-clause-end : goal.returns-clause-end
returns-clause-end g c is = c.in-Ok.ensures.end

pub returns-clause-refused : goal.returns-clause-refused
returns-clause-refused g c is =
    told (λ s. has_refusal (played s).replies ≡ true) _ c.in-Ok.script.items c.in-Ok.ensures.all
    (rw c.as_slice.ensures.value at (c.answer.ensures.refused is))

pub returns-clause-done : goal.returns-clause-done
returns-clause-done g c is =
    told (λ s. has_refusal (played s).replies ≡ false) _ c.in-Ok.script.items c.in-Ok.ensures.all
    (rw c.as_slice.ensures.value at (c.answer.ensures.done is))

pub returns-clause-history : goal.returns-clause-history
returns-clause-history g c is =
    told_anyhow (λ s. (w : World) (count : ℕ) → WellFormed w → AllFit w (played_to count s).deeds → HasHappened w empty_state (played_to count s)) _
    (λ s w count ok fit. played_happens w count s ok fit)

pub returns-clause-whole : goal.returns-clause-whole
returns-clause-whole g c is =
    told_anyhow (λ s. (w : World) (count : ℕ) → WellFormed w → IsAllOf w (community_of empty_state) → AllFit w (played_to count s).deeds) _
    (λ s w count ok all. played_fits w count s ok all)

pub returns-clause-not_ahead : goal.returns-clause-not_ahead
returns-clause-not_ahead g c is = told_anyhow (λ s. AreNotAhead (played s).replies) _ played_not_ahead

pub returns-clause-usage : goal.returns-clause-usage
returns-clause-usage g c = (
  λ is. absurd (has_begun c.answer.result c.answer.ensures.ends (inl is)),
  λ no. absurd (true≢false (sym c.if-not-is_play.false ∙ (c.is_play.ensures ∙ no))),
)

pub returns-clause-source_fault : goal.returns-clause-source_fault
returns-clause-source_fault g c is = absurd (has_begun c.answer.result c.answer.ensures.ends (inr (inl is)))

pub returns-clause-sink_fault : goal.returns-clause-sink_fault
returns-clause-sink_fault g c is = c.answer.ensures.sink_fault is

pub returns-clause-too_long : goal.returns-clause-too_long
returns-clause-too_long g c is = absurd (has_begun c.answer.result c.answer.ensures.ends (inr (inr is)))

pub returns-clause-fits : goal.returns-clause-fits
returns-clause-fits g c is =
    let fits = c.in-Ok.ensures.fits in
    told (λ s. length s ≤ 16777216) _ c.in-Ok.script.items c.in-Ok.ensures.all (omega (arith, fits))

pub returns-clause-silent : goal.returns-clause-silent
returns-clause-silent g c is = absurd (has_begun c.answer.result c.answer.ensures.ends is)

pub returns-clause-broken_off : goal.returns-clause-broken_off
returns-clause-broken_off g c is =
    told (λ s. (x : State) × BrokeOff empty_state s (g.B.Sink.held c.args.out.now) (g.B.Sink.held c.answer.new.out) x) _ c.in-Ok.script.items c.in-Ok.ensures.all
    (rw c.as_slice.ensures.value at (c.answer.ensures.broken_off is))

pub returns-clause-memory : goal.returns-clause-memory
returns-clause-memory g c is =
    inr (told (λ s. (x : State) × RanOutOfMemory empty_state s (g.B.Sink.held c.args.out.now) (g.B.Sink.held c.answer.new.out) x) _ c.in-Ok.script.items c.in-Ok.ensures.all
    (rw c.as_slice.ensures.value at (c.answer.ensures.memory is)))

pub returns-clause-unread : goal.returns-clause-unread
returns-clause-unread g c is = absurd (has_begun c.answer.result c.answer.ensures.ends (inl is))

pub returns-clause-complete : goal.returns-clause-complete
returns-clause-complete g c play reads writes =
    told_anyhow (λ s. length s ≤ 16777216 → IsAnswered c.answer.result ⊎ (c.answer.result ≡ Memory)) _
    (λ s small. answered_or_memory c.answer.result c.answer.ensures.ends (λ is. writes (c.answer.ensures.sink_fault is)))

pub returns-clause-refuses_long : goal.returns-clause-refuses_long
returns-clause-refuses_long g c play reads =
    let fits = c.in-Ok.ensures.fits in
    told (λ s. 16777216 < length s → (c.answer.result ≡ TooLong) ⊎ (c.answer.result ≡ Memory)) _ c.in-Ok.script.items c.in-Ok.ensures.all
    (λ long. absurd (omega (arith, fits, long)))

-- where the words are no command: what is said of other ends, which are searched for more slowly than checked
pub returns-then-not-is_play-clause-answered : goal.returns-then-not-is_play-clause-answered
returns-then-not-is_play-clause-answered g c is = absurd (unanswered Usage (inl (inl refl)) is)

pub returns-then-not-is_play-clause-end : goal.returns-then-not-is_play-clause-end
returns-then-not-is_play-clause-end g c is = absurd (unanswered Usage (inl (inl refl)) is)

pub returns-then-not-is_play-clause-refused : goal.returns-then-not-is_play-clause-refused
returns-then-not-is_play-clause-refused g c is = absurd (unanswered Usage (inl (inl refl)) (inr is))

pub returns-then-not-is_play-clause-done : goal.returns-then-not-is_play-clause-done
returns-then-not-is_play-clause-done g c is = absurd (unanswered Usage (inl (inl refl)) (inl is))

pub returns-then-not-is_play-clause-history : goal.returns-then-not-is_play-clause-history
returns-then-not-is_play-clause-history g c is = absurd (unanswered Usage (inl (inl refl)) is)

pub returns-then-not-is_play-clause-not_ahead : goal.returns-then-not-is_play-clause-not_ahead
returns-then-not-is_play-clause-not_ahead g c is = absurd (unanswered Usage (inl (inl refl)) is)

pub returns-then-not-is_play-clause-usage : goal.returns-then-not-is_play-clause-usage
returns-then-not-is_play-clause-usage g c = (λ is. sym c.is_play.ensures ∙ c.if-not-is_play.true, λ no. refl)

pub returns-then-not-is_play-clause-source_fault : goal.returns-then-not-is_play-clause-source_fault
returns-then-not-is_play-clause-source_fault g c is = absurd (unlike Usage SourceFault refl is)

pub returns-then-not-is_play-clause-sink_fault : goal.returns-then-not-is_play-clause-sink_fault
returns-then-not-is_play-clause-sink_fault g c is = absurd (unlike Usage SinkFault refl is)

pub returns-then-not-is_play-clause-too_long : goal.returns-then-not-is_play-clause-too_long
returns-then-not-is_play-clause-too_long g c is = absurd (unlike Usage TooLong refl is)

pub returns-then-not-is_play-clause-fits : goal.returns-then-not-is_play-clause-fits
returns-then-not-is_play-clause-fits g c is = absurd (neither (unanswered Usage (inl (inl refl))) (unlike Usage SinkFault refl) is)

pub returns-then-not-is_play-clause-silent : goal.returns-then-not-is_play-clause-silent
returns-then-not-is_play-clause-silent g c is = refl

pub returns-then-not-is_play-clause-broken_off : goal.returns-then-not-is_play-clause-broken_off
returns-then-not-is_play-clause-broken_off g c is = absurd (unlike Usage SinkFault refl is)

pub returns-then-not-is_play-clause-memory : goal.returns-then-not-is_play-clause-memory
returns-then-not-is_play-clause-memory g c is = absurd (unlike Usage Memory refl is)

pub returns-then-not-is_play-clause-taken : goal.returns-then-not-is_play-clause-taken
returns-then-not-is_play-clause-taken g c = takes_nothing _ (g.A.Source.left c.args.input.now)

pub returns-then-not-is_play-clause-unread : goal.returns-then-not-is_play-clause-unread
returns-then-not-is_play-clause-unread g c is = refl

pub returns-then-not-is_play-clause-complete : goal.returns-then-not-is_play-clause-complete
returns-then-not-is_play-clause-complete g c play = absurd (true≢false (sym play ∙ (sym c.is_play.ensures ∙ c.if-not-is_play.true)))

pub returns-then-not-is_play-clause-refuses_long : goal.returns-then-not-is_play-clause-refuses_long
returns-then-not-is_play-clause-refuses_long g c play = absurd (true≢false (sym play ∙ (sym c.is_play.ensures ∙ c.if-not-is_play.true)))

-- where the input failed: what is said of other ends
pub returns-in-Err-Failed-clause-answered : goal.returns-in-Err-Failed-clause-answered
returns-in-Err-Failed-clause-answered g c is = absurd (unanswered SourceFault (inl (inr (inl refl))) is)

pub returns-in-Err-Failed-clause-end : goal.returns-in-Err-Failed-clause-end
returns-in-Err-Failed-clause-end g c is = absurd (unanswered SourceFault (inl (inr (inl refl))) is)

pub returns-in-Err-Failed-clause-refused : goal.returns-in-Err-Failed-clause-refused
returns-in-Err-Failed-clause-refused g c is = absurd (unanswered SourceFault (inl (inr (inl refl))) (inr is))

pub returns-in-Err-Failed-clause-done : goal.returns-in-Err-Failed-clause-done
returns-in-Err-Failed-clause-done g c is = absurd (unanswered SourceFault (inl (inr (inl refl))) (inl is))

pub returns-in-Err-Failed-clause-history : goal.returns-in-Err-Failed-clause-history
returns-in-Err-Failed-clause-history g c is = absurd (unanswered SourceFault (inl (inr (inl refl))) is)

pub returns-in-Err-Failed-clause-not_ahead : goal.returns-in-Err-Failed-clause-not_ahead
returns-in-Err-Failed-clause-not_ahead g c is = absurd (unanswered SourceFault (inl (inr (inl refl))) is)

pub returns-in-Err-Failed-clause-usage : goal.returns-in-Err-Failed-clause-usage
returns-in-Err-Failed-clause-usage g c = (λ is. absurd (unlike SourceFault Usage refl is), λ no. absurd (true≢false (sym c.if-not-is_play.false ∙ (c.is_play.ensures ∙ no))))

pub returns-in-Err-Failed-clause-sink_fault : goal.returns-in-Err-Failed-clause-sink_fault
returns-in-Err-Failed-clause-sink_fault g c is = absurd (unlike SourceFault SinkFault refl is)

pub returns-in-Err-Failed-clause-too_long : goal.returns-in-Err-Failed-clause-too_long
returns-in-Err-Failed-clause-too_long g c is = absurd (unlike SourceFault TooLong refl is)

pub returns-in-Err-Failed-clause-fits : goal.returns-in-Err-Failed-clause-fits
returns-in-Err-Failed-clause-fits g c is = absurd (neither (unanswered SourceFault (inl (inr (inl refl)))) (unlike SourceFault SinkFault refl) is)

pub returns-in-Err-Failed-clause-silent : goal.returns-in-Err-Failed-clause-silent
returns-in-Err-Failed-clause-silent g c is = refl

pub returns-in-Err-Failed-clause-broken_off : goal.returns-in-Err-Failed-clause-broken_off
returns-in-Err-Failed-clause-broken_off g c is = absurd (unlike SourceFault SinkFault refl is)

pub returns-in-Err-Failed-clause-memory : goal.returns-in-Err-Failed-clause-memory
returns-in-Err-Failed-clause-memory g c is = absurd (unlike SourceFault Memory refl is)

pub returns-in-Err-Failed-clause-unread : goal.returns-in-Err-Failed-clause-unread
returns-in-Err-Failed-clause-unread g c is = absurd (unlike SourceFault Usage refl is)

-- where the input is too long: what is said of other ends
pub returns-in-Err-TooLong-clause-answered : goal.returns-in-Err-TooLong-clause-answered
returns-in-Err-TooLong-clause-answered g c is = absurd (unanswered TooLong (inl (inr (inr refl))) is)

pub returns-in-Err-TooLong-clause-end : goal.returns-in-Err-TooLong-clause-end
returns-in-Err-TooLong-clause-end g c is = absurd (unanswered TooLong (inl (inr (inr refl))) is)

pub returns-in-Err-TooLong-clause-refused : goal.returns-in-Err-TooLong-clause-refused
returns-in-Err-TooLong-clause-refused g c is = absurd (unanswered TooLong (inl (inr (inr refl))) (inr is))

pub returns-in-Err-TooLong-clause-done : goal.returns-in-Err-TooLong-clause-done
returns-in-Err-TooLong-clause-done g c is = absurd (unanswered TooLong (inl (inr (inr refl))) (inl is))

pub returns-in-Err-TooLong-clause-history : goal.returns-in-Err-TooLong-clause-history
returns-in-Err-TooLong-clause-history g c is = absurd (unanswered TooLong (inl (inr (inr refl))) is)

pub returns-in-Err-TooLong-clause-not_ahead : goal.returns-in-Err-TooLong-clause-not_ahead
returns-in-Err-TooLong-clause-not_ahead g c is = absurd (unanswered TooLong (inl (inr (inr refl))) is)

pub returns-in-Err-TooLong-clause-usage : goal.returns-in-Err-TooLong-clause-usage
returns-in-Err-TooLong-clause-usage g c = (λ is. absurd (unlike TooLong Usage refl is), λ no. absurd (true≢false (sym c.if-not-is_play.false ∙ (c.is_play.ensures ∙ no))))

pub returns-in-Err-TooLong-clause-source_fault : goal.returns-in-Err-TooLong-clause-source_fault
returns-in-Err-TooLong-clause-source_fault g c is = absurd (unlike TooLong SourceFault refl is)

pub returns-in-Err-TooLong-clause-sink_fault : goal.returns-in-Err-TooLong-clause-sink_fault
returns-in-Err-TooLong-clause-sink_fault g c is = absurd (unlike TooLong SinkFault refl is)

pub returns-in-Err-TooLong-clause-fits : goal.returns-in-Err-TooLong-clause-fits
returns-in-Err-TooLong-clause-fits g c is = absurd (neither (unanswered TooLong (inl (inr (inr refl)))) (unlike TooLong SinkFault refl) is)

pub returns-in-Err-TooLong-clause-silent : goal.returns-in-Err-TooLong-clause-silent
returns-in-Err-TooLong-clause-silent g c is = refl

pub returns-in-Err-TooLong-clause-broken_off : goal.returns-in-Err-TooLong-clause-broken_off
returns-in-Err-TooLong-clause-broken_off g c is = absurd (unlike TooLong SinkFault refl is)

pub returns-in-Err-TooLong-clause-memory : goal.returns-in-Err-TooLong-clause-memory
returns-in-Err-TooLong-clause-memory g c is = absurd (unlike TooLong Memory refl is)

pub returns-in-Err-TooLong-clause-unread : goal.returns-in-Err-TooLong-clause-unread
returns-in-Err-TooLong-clause-unread g c is = absurd (unlike TooLong Usage refl is)

-- where memory ran out: what is said of other ends
pub returns-in-Err-Memory-clause-answered : goal.returns-in-Err-Memory-clause-answered
returns-in-Err-Memory-clause-answered g c is = absurd (unanswered Memory (inr (inr refl)) is)

pub returns-in-Err-Memory-clause-end : goal.returns-in-Err-Memory-clause-end
returns-in-Err-Memory-clause-end g c is = absurd (unanswered Memory (inr (inr refl)) is)

pub returns-in-Err-Memory-clause-refused : goal.returns-in-Err-Memory-clause-refused
returns-in-Err-Memory-clause-refused g c is = absurd (unanswered Memory (inr (inr refl)) (inr is))

pub returns-in-Err-Memory-clause-done : goal.returns-in-Err-Memory-clause-done
returns-in-Err-Memory-clause-done g c is = absurd (unanswered Memory (inr (inr refl)) (inl is))

pub returns-in-Err-Memory-clause-history : goal.returns-in-Err-Memory-clause-history
returns-in-Err-Memory-clause-history g c is = absurd (unanswered Memory (inr (inr refl)) is)

pub returns-in-Err-Memory-clause-not_ahead : goal.returns-in-Err-Memory-clause-not_ahead
returns-in-Err-Memory-clause-not_ahead g c is = absurd (unanswered Memory (inr (inr refl)) is)

pub returns-in-Err-Memory-clause-usage : goal.returns-in-Err-Memory-clause-usage
returns-in-Err-Memory-clause-usage g c = (λ is. absurd (unlike Memory Usage refl is), λ no. absurd (true≢false (sym c.if-not-is_play.false ∙ (c.is_play.ensures ∙ no))))

pub returns-in-Err-Memory-clause-source_fault : goal.returns-in-Err-Memory-clause-source_fault
returns-in-Err-Memory-clause-source_fault g c is = absurd (unlike Memory SourceFault refl is)

pub returns-in-Err-Memory-clause-sink_fault : goal.returns-in-Err-Memory-clause-sink_fault
returns-in-Err-Memory-clause-sink_fault g c is = absurd (unlike Memory SinkFault refl is)

pub returns-in-Err-Memory-clause-too_long : goal.returns-in-Err-Memory-clause-too_long
returns-in-Err-Memory-clause-too_long g c is = absurd (unlike Memory TooLong refl is)

pub returns-in-Err-Memory-clause-fits : goal.returns-in-Err-Memory-clause-fits
returns-in-Err-Memory-clause-fits g c is = absurd (neither (unanswered Memory (inr (inr refl))) (unlike Memory SinkFault refl) is)

pub returns-in-Err-Memory-clause-silent : goal.returns-in-Err-Memory-clause-silent
returns-in-Err-Memory-clause-silent g c is = absurd (has_begun Memory (inr (inr refl)) is)

pub returns-in-Err-Memory-clause-unread : goal.returns-in-Err-Memory-clause-unread
returns-in-Err-Memory-clause-unread g c is = absurd (unlike Memory Usage refl is)

pub returns-in-Err-Memory-clause-broken_off : goal.returns-in-Err-Memory-clause-broken_off
returns-in-Err-Memory-clause-broken_off g c is = absurd (unlike Memory SinkFault refl is)

pub returns-in-Err-Memory-clause-memory : goal.returns-in-Err-Memory-clause-memory
returns-in-Err-Memory-clause-memory g c is = inl refl
