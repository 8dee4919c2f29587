-- What comes of lines, and then of those that follow them.
use Rattle.std.proofs.Common.{◌≡◌, ℕ, Bool, true, false, List, [], ◌∷◌, ◌++◌, refl, ap, if◌then◌else◌}
use Rattle.sfx_script.specs.Script.{is_passed}
use Rattle.sfx_community.specs.State.{State}
use Rattle.sfx_community.specs.Turn.{Turns, first_then, turn, turns}

-- What is said of some lines, then of others from where the first left the state, and of all of them.
record Follow (one other all : Turns) : Type 0 where
  pub replies : all.replies ≡ one.replies ++ other.replies
  pub state : all.state ≡ other.state

follow : (s : State) (xs ys : List (List ℕ)) → Follow (turns s xs) (turns (turns s xs).state ys) (turns s (xs ++ ys))
follow s [] ys = record { replies = refl; state = refl }
follow s (x ∷ xs) ys =
    by_passed (is_passed x) (follow s xs ys) (follow (turn s x).state xs ys) where
      by_passed : (b : Bool) → Follow (turns s xs) (turns (turns s xs).state ys) (turns s (xs ++ ys))
          → Follow (turns (turn s x).state xs) (turns (turns (turn s x).state xs).state ys) (turns (turn s x).state (xs ++ ys))
          → Follow (if b then turns s xs else first_then (turn s x) (turns (turn s x).state xs))
          (turns (if b then turns s xs else first_then (turn s x) (turns (turn s x).state xs)).state ys)
          (if b then turns s (xs ++ ys) else first_then (turn s x) (turns (turn s x).state (xs ++ ys)))
      by_passed true rest other = rest
      by_passed false rest other = record { replies = ap (λ rs. (turn s x).reply ∷ rs) other.replies; state = other.state }

pub replies_follow : (s : State) (xs ys : List (List ℕ)) → (turns s (xs ++ ys)).replies ≡ (turns s xs).replies ++ (turns (turns s xs).state ys).replies
replies_follow s xs ys = (follow s xs ys).replies

pub states_follow : (s : State) (xs ys : List (List ℕ)) → (turns s (xs ++ ys)).state ≡ (turns (turns s xs).state ys).state
states_follow s xs ys = (follow s xs ys).state
