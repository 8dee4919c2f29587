-- A script that is played in part.
use Rattle.std.proofs.Common.{◌≡◌, ◌==◌, ◌⊎◌, ℕ, ◌+◌, ◌<◌, ◌≤◌, All, get_or, slice_get, Bool, true, false, ◌||◌, Option, Some, None, List, [], ◌∷◌, ◌++◌, length, take, drop, inl, inr, refl, sym, ap, ◌∙◌, append_assoc, append-nil, length-append, arith}
use Rattle.std.proofs.lemmas.List.{take-append-drop, take_all, drop_more}
use Rattle.std.proofs.lemmas.List.Splits.{slice_split_at, slice_split_none}
use Rattle.std.proofs.Math.Seq.{take-append_seam, take-append-add}
use Rattle.sfx_outside.proofs.SinkLemmas.{Adds-append}
use Rattle.sfx_outside.specs.Sink.{Adds}
use Rattle.sfx_reply.specs.declared.reply.Reply.{Reply}
use Rattle.sfx_script.specs.Script.{is_passed, lines_of}
use Rattle.sfx_reply.specs.Reply.{is_refusal, reply_text}
use Rattle.sfx_run.specs.Run.{BrokeOff, NotRun, RanInPart, RanOut, RanOutOfMemory, has_refusal, line_text, replies_text}
use Rattle.sfx_community.specs.State.{State}
use Rattle.sfx_community.proofs.TurnsLemmas.{replies_follow, states_follow}
use Rattle.sfx_community.specs.Turn.{turn, turns}

-- so many lines of the script were run from the state: what was written are their replies, and the state is
-- as they left it
pub record SoFar (s : State) (script : List ℕ) (before now : Option (List ℕ)) (refused : Bool) (here : State) (left : List (List ℕ)) : Type 0 where
  pub done : List (List ℕ)
  pub split : lines_of script ≡ done ++ left
  pub written : Adds before now (replies_text (turns s done).replies)
  pub refusals : refused ≡ has_refusal (turns s done).replies
  pub state : here ≡ (turns s done).state

-- the first line ends at the first line end
pub lines_of-first : (script : List ℕ) (place : ℕ) → place < length script → All (λ b. (b == 10) ≡ false) (take place script)
    → get_or script place 0 ≡ 10 → lines_of script ≡ take place script ∷ lines_of (drop (place + 1) script)
lines_of-first script place inside none at =
    let cut : script ≡ take place script ++ 10 ∷ drop (place + 1) script =
    sym (take-append-drop place script) ∙ ap (λ xs. take place script ++ xs) (drop_more script place 0 inside ∙ ap (λ b. b ∷ drop (place + 1) script) at) in
    ap (λ xs. lines_of xs) cut ∙ slice_split_at (λ b. b == 10) (take place script) 10 (drop (place + 1) script) none refl

-- where none ends, all is one line
pub lines_of-one : (script : List ℕ) (place : ℕ) → length script ≤ place → All (λ b. (b == 10) ≡ false) (take place script)
    → lines_of script ≡ script ∷ []
lines_of-one script place end none =
    slice_split_none (λ b. b == 10) script (rw (take_all place script end) at none)

-- what a line that is not passed over writes
pub written-line : (s : State) (line : List ℕ) → is_passed line ≡ false
    → replies_text (turns s (line ∷ [])).replies ≡ reply_text (turn s line).reply
written-line s line here = rw here (append-nil (reply_text (turn s line).reply))

pub replies_text-append : (xs ys : List Reply) → replies_text (xs ++ ys) ≡ replies_text xs ++ replies_text ys
replies_text-append [] ys = refl
replies_text-append (x ∷ xs) ys = ap (λ zs. reply_text x ++ zs) (replies_text-append xs ys) ∙ sym (append_assoc (reply_text x) (replies_text xs) (replies_text ys))

pub has_refusal-append : (xs ys : List Reply) → has_refusal (xs ++ ys) ≡ (has_refusal xs || has_refusal ys)
has_refusal-append [] ys = refl
has_refusal-append (x ∷ xs) ys = by_refusal (is_refusal x) (has_refusal-append xs ys) where
  by_refusal : (b : Bool) → has_refusal (xs ++ ys) ≡ (has_refusal xs || has_refusal ys)
      → (b || has_refusal (xs ++ ys)) ≡ ((b || has_refusal xs) || has_refusal ys)
  by_refusal true e = refl
  by_refusal false e = e

-- nothing is written before the first line
pub so_far-start : (s : State) (script : List ℕ) (held : Option (List ℕ)) → SoFar s script held held false s (lines_of script)
so_far-start s script held = record { done = []; split = refl; written = nothing held; refusals = refl; state = refl } where
  nothing : (o : Option (List ℕ)) → Adds o o []
  nothing None = refl
  nothing (Some xs) = ap (λ ys. Some ys) (sym (append-nil xs))

-- one more line is run, and its reply is written
pub so_far-step : (s : State) (script : List ℕ) (before now later : Option (List ℕ)) (refused r : Bool) (state after : State) (line : List ℕ) (lines : List (List ℕ))
    → SoFar s script before now refused state (line ∷ lines)
    → Adds now later (line_text state line) → r ≡ has_refusal (turns state (line ∷ [])).replies → after ≡ (turns state (line ∷ [])).state
    → SoFar s script before later (refused || r) after lines
so_far-step s script before now later refused r state after line lines so adds is left =
    let replies = replies_follow s so.done (line ∷ []) in
    let here = so.state in
    record {
      done = so.done ++ line ∷ [];
      split = so.split ∙ sym (append_assoc so.done (line ∷ []) lines);
      written = rw (replies, replies_text-append (turns s so.done).replies (turns (turns s so.done).state (line ∷ [])).replies)
          (Adds-append before now later (replies_text (turns s so.done).replies) (line_text (turns s so.done).state line) so.written (rw here at adds));
      refusals = rw (replies, has_refusal-append (turns s so.done).replies (turns (turns s so.done).state (line ∷ [])).replies, so.refusals, is, here) refl;
      state = rw (states_follow s so.done (line ∷ []), left, here) refl;
    }

-- all lines are run
pub so_far-text : (s : State) (script : List ℕ) (before now : Option (List ℕ)) (refused : Bool) (here : State)
    → SoFar s script before now refused here [] → Adds before now (replies_text (turns s (lines_of script)).replies)
so_far-text s script before now refused here so = rw (so.split, append-nil so.done) so.written

pub so_far-refused : (s : State) (script : List ℕ) (before now : Option (List ℕ)) (refused : Bool) (here : State)
    → SoFar s script before now refused here [] → refused ≡ has_refusal (turns s (lines_of script)).replies
so_far-refused s script before now refused here so = rw (so.split, append-nil so.done) so.refusals

pub so_far-state : (s : State) (script : List ℕ) (before now : Option (List ℕ)) (refused : Bool) (here : State)
    → SoFar s script before now refused here [] → here ≡ (turns s (lines_of script)).state
so_far-state s script before now refused here so = rw (so.split, append-nil so.done) so.state

-- the lines that were run are the first so many
done_first : (xs : List (List ℕ)) (line : List ℕ) (ys all : List (List ℕ)) → all ≡ xs ++ line ∷ ys → take (length xs) all ≡ xs
done_first xs line ys all split = rw split (take-append_seam xs (line ∷ ys))

done_next : (xs : List (List ℕ)) (line : List ℕ) (ys all : List (List ℕ)) → all ≡ xs ++ line ∷ ys → take (length xs + 1) all ≡ xs ++ line ∷ []
done_next xs line ys all split = rw split (take-append-add xs (line ∷ ys) 1)

-- the line that is next has their number
next_at : (xs : List (List ℕ)) (line : List ℕ) (ys : List (List ℕ)) → slice_get (xs ++ line ∷ ys) (length xs) ≡ Some line
next_at [] line ys = refl
next_at (x ∷ xs) line ys = next_at xs line ys

-- a line was run, and its reply written in part
pub so_far-broke : (s : State) (script : List ℕ) (before now later : Option (List ℕ)) (refused : Bool) (state after : State) (line : List ℕ) (lines : List (List ℕ))
    → SoFar s script before now refused state (line ∷ lines) → RanInPart state line now later after → BrokeOff s script before later after
so_far-broke s script before now later refused state after line lines so ran =
    let first = done_first so.done line lines (lines_of script) so.split in
    record {
      count = length so.done;
      line = line;
      at = rw so.split (next_at so.done line lines);
      between = now;
      replies = rw first so.written;
      prefix = rw (first, ← so.state) ran.1;
      state = rw (done_next so.done line lines (lines_of script) so.split, states_follow s so.done (line ∷ []), ← so.state) ran.0;
    }

-- a line was not run
pub so_far-ran_out : (s : State) (script : List ℕ) (before now later : Option (List ℕ)) (refused : Bool) (state after : State) (line : List ℕ) (lines : List (List ℕ))
    → SoFar s script before now refused state (line ∷ lines) → NotRun state now later after → RanOut s script before later after
so_far-ran_out s script before now later refused state after line lines so not =
    let first = done_first so.done line lines (lines_of script) so.split in
    record {
      count = length so.done;
      within = rw so.split (omega (arith, length-append so.done (line ∷ lines)));
      replies = rw (first, not.1) so.written;
      state = rw (first, not.0) so.state;
    }

-- one or the other
pub so_far-memory : (s : State) (script : List ℕ) (before now later : Option (List ℕ)) (refused : Bool) (state after : State) (line : List ℕ) (lines : List (List ℕ))
    → SoFar s script before now refused state (line ∷ lines) → RanInPart state line now later after ⊎ NotRun state now later after
    → RanOutOfMemory s script before later after
so_far-memory s script before now later refused state after line lines so (inl ran) = inl (so_far-broke s script before now later refused state after line lines so ran)
so_far-memory s script before now later refused state after line lines so (inr not) = inr (so_far-ran_out s script before now later refused state after line lines so not)
