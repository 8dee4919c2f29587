use Rattle.std.proofs.Common.{◌≡◌, ℕ, ◌-◌, ◌++◌, length, take, drop, min, refl, sym, ap, ◌∙◌, arith}
use Rattle.std.proofs.lemmas.Bool.{false≢true}
use Rattle.std.proofs.lemmas.List.{take_rest, drop-drop}
use Rattle.sfx_outside.proofs.memory_source.MemorySourceSource.read.Goals as goal

min_of_three : (left piece room first count : ℕ) → first ≡ min left piece → count ≡ min first room → count ≡ min (min piece room) left
min_of_three left piece room first count by_piece by_room = omega arith

pub returns : goal.returns
returns c =
    let inside = c.self.inside in
    let given = c.deref.result.now in
    let left : take (length given - inside.at) (drop inside.at given) ≡ drop inside.at inside.bytes.items = take_rest given inside.at ∙ ap (drop inside.at) c.deref.ensures.value in
    let faults = rw c.if-next_fails.false at c.next_fails.ensures.faults in
    rw (← c.self.view_is) record {
      valid = record { piece = c.self.invariant.1; calls = c.next_fails.ensures.fits.0; faults = c.next_fails.ensures.fits.1 };
      fails = (λ e. absurd (false≢true e), λ h. sym c.if-next_fails.false ∙ c.next_fails.ensures.listed.1 h);
      count = min_of_three
          (length (drop inside.at inside.bytes.items))
          inside.piece
          (length c.args.into.now)
          c.min.result
          c.min-count.result
          (rw left at c.min.ensures)
          c.min-count.ensures;
      bytes = ap (λ prefix. prefix ++ drop c.min-count.result c.args.into.now) (rw left at c.copy_from_slice.ensures.after);
      after = rw (c.next_fails.ensures.fails, c.next_fails.ensures.made, faults, drop-drop c.min-count.result inside.at inside.bytes.items) refl;
      fault = tt;
      untouched = tt;
    }

pub returns-then-next_fails : goal.returns-then-next_fails
returns-then-next_fails c =
    let faults = rw c.if-next_fails.true at c.next_fails.ensures.faults in
    rw (← c.self.view_is) record {
      valid = record { piece = c.self.invariant.1; calls = c.next_fails.ensures.fits.0; faults = c.next_fails.ensures.fits.1 };
      fails = (λ _. c.next_fails.ensures.listed.0 c.if-next_fails.true, λ _. refl);
      count = tt;
      bytes = tt;
      after = tt;
      fault = rw (c.next_fails.ensures.fails, c.next_fails.ensures.made, faults) refl;
      untouched = refl;
    }
