-- What a run of a script writes.
use Rattle.std.specs.Prelude.{◌≡◌, ◌⊎◌, ℕ, ◌+◌, ◌<◌, Bool, false, List, [], ◌∷◌, length, take, Option, Some, None, codes, slice_get}
use Rattle.std.specs.List.{flat_map, list_any}
use Rattle.std.specs.Borrow.{Bor}
use Rattle.std.specs.Str.{bytes_eq}
use Rattle.sfx_outside.specs.Sink.{Adds, AddsPrefix}
use Rattle.sfx_reply.specs.declared.reply.Reply.{Reply}
use Rattle.sfx_script.specs.Script.{lines_of}
use Rattle.sfx_reply.specs.Reply.{is_refusal, reply_text}
use Rattle.sfx_community.specs.State.{State}
use Rattle.sfx_community.specs.Turn.{Turns, empty_state, turns}

-- The words are `play`, the one command that is built.
abbrev pub is_play : List (List ℕ) → Bool
is_play [] = false
is_play (word ∷ []) = bytes_eq word (codes "play")
is_play (word ∷ other ∷ words) = false

-- The replies one after another.
abbrev pub replies_text : List Reply → List ℕ
replies_text replies = flat_map reply_text replies

-- Some line was refused.
abbrev pub has_refusal : List Reply → Bool
has_refusal replies = list_any is_refusal replies

-- What comes of a script that is played from the beginning.
abbrev pub played : List ℕ → Turns
played script = turns empty_state (lines_of script)

-- What playing the script writes.
abbrev pub played_text : List ℕ → List ℕ
played_text script = replies_text (played script).replies

-- What comes of the first so many lines of a script.
abbrev pub turns_to : ℕ → State → List ℕ → Turns
turns_to count s script = turns s (take count (lines_of script))

-- The same where the script is played from the beginning.
abbrev pub played_to : ℕ → List ℕ → Turns
played_to count script = turns_to count empty_state script

-- What running the line writes: its reply, and nothing where it is passed over.
abbrev pub line_text : State → List ℕ → List ℕ
line_text s line = replies_text (turns s (line ∷ [])).replies

-- The lines that are left to run, where some are.
abbrev pub lines_left : Option (Bor (List ℕ)) → List (List ℕ)
lines_left None = []
lines_left (Some script) = lines_of script.now

-- The line was run, and a prefix of its reply was written, perhaps nothing and perhaps all of it.
abbrev pub RanInPart : State → List ℕ → Option (List ℕ) → Option (List ℕ) → State → Type 0
RanInPart s line before now after =
    (after ≡ (turns s (line ∷ [])).state) × AddsPrefix before now (line_text s line)

-- The line was not run: nothing was written, and the state is as before.
abbrev pub NotRun : State → Option (List ℕ) → Option (List ℕ) → State → Type 0
NotRun s before now after = (after ≡ s) × (now ≡ before)

-- Playing the script from this state broke off at a line. All replies of the lines before it were written,
-- and a prefix of its own; the state is as this line left it.
pub record BrokeOff (s : State) (script : List ℕ) (before now : Option (List ℕ)) (after : State) : Type 0 where
  pub count : ℕ
  pub line : List ℕ
  pub at : slice_get (lines_of script) count ≡ Some line
  pub between : Option (List ℕ)
  pub replies : Adds before between (replies_text (turns_to count s script).replies)
  pub prefix : AddsPrefix between now (line_text (turns_to count s script).state line)
  pub state : after ≡ (turns_to (count + 1) s script).state

-- Memory ran out before a line was run. All replies of the lines before it were written, and nothing else;
-- the state is as they left it.
pub record RanOut (s : State) (script : List ℕ) (before now : Option (List ℕ)) (after : State) : Type 0 where
  pub count : ℕ
  pub within : count < length (lines_of script)
  pub replies : Adds before now (replies_text (turns_to count s script).replies)
  pub state : after ≡ (turns_to count s script).state

-- Memory ran out: before a line was run, or while its reply was written.
abbrev pub RanOutOfMemory : State → List ℕ → Option (List ℕ) → Option (List ℕ) → State → Type 0
RanOutOfMemory s script before now after = BrokeOff s script before now after ⊎ RanOut s script before now after
