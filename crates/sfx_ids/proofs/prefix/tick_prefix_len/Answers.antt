use Rattle.std.proofs.Common.{get_or, sym, ◌∙◌}
use Rattle.sfx_ids.specs.Prefix.{BeginsTick}
use Rattle.sfx_ids.specs.Steps.{next_tick}
use Rattle.sfx_ids.proofs.StepsLemmas.{run_more, longest_at_stop, longest_at_end}
use Rattle.sfx_ids.proofs.TickPrefixes.{goes_on, tick_prefixes}
use Rattle.sfx_ids.proofs.prefix.tick_prefix_len.Goals as goal

pub loop-i-preserved : goal.loop-i-preserved
loop-i-preserved c =
    let step = sym c.next_tick.ensures ∙ c.in-Some.is in
    record {
      number = (goes_on c.loop-i.number (get_or c.args.text.now c.loop-i.i 0) c.in-Some.next step).is_tick.most;
      reached = run_more next_tick 0 c.loop-i.number c.in-Some.next c.args.text.now c.loop-i.i c.loop-i-test.true c.loop-i.invariant.reached step;
    }

pub returns-in-None : goal.returns-in-None
returns-in-None c =
    longest_at_stop next_tick BeginsTick tick_prefixes c.args.text.now c.loop-i.i c.loop-i.number c.loop-i-test.true c.loop-i.invariant.reached
    (sym c.next_tick.ensures ∙ c.in-None.is)

pub returns : goal.returns
returns c =
    longest_at_end next_tick BeginsTick tick_prefixes c.args.text.now c.loop-i.i c.loop-i.number c.loop-i-test.false c.loop-i.invariant.reached
