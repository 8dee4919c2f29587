-- Pieces that are added one after another.
use Rattle.std.proofs.Common.{ℕ, ◌+◌, List, ◌++◌, length, take, drop, Option, None, Some, refl, ap, subst, append_assoc, arith, length-append}
use Rattle.std.proofs.Math.Seq.{take-add, take-append-add, take-length}
use Rattle.std.proofs.lemmas.List.{take-append-drop, take-append-le}
use Rattle.sfx_outside.specs.Sink.{Adds, AddsPrefix}

-- two pieces, one after the other, are one piece
pub Adds-append : (before between now : Option (List ℕ)) (xs ys : List ℕ) →
    Adds before between xs → Adds between now ys → Adds before now (xs ++ ys)
Adds-append None between now xs ys first second = rw (second, first) refl
Adds-append (Some held) between now xs ys first second = rw (second, first) (ap Some (append_assoc held xs ys))

-- a prefix of the piece, and then a prefix of the rest
pub Adds-take : (before between now : Option (List ℕ)) (piece : List ℕ) (n m : ℕ) →
    Adds before between (take n piece) → Adds between now (take m (drop n piece)) →
    Adds before now (take (n + m) piece)
Adds-take before between now piece n m first second =
    rw (take-add n m piece) (Adds-append before between now (take n piece) (take m (drop n piece)) first second)

-- all of a piece is a prefix of it
pub AddsPrefix-Adds : (before now : Option (List ℕ)) (xs : List ℕ) → Adds before now xs → AddsPrefix before now xs
AddsPrefix-Adds before now xs all = (length xs, omega arith, rw (take-length xs) all)

-- a piece, and then a prefix of the next one, is a prefix of both
pub AddsPrefix-append : (before between now : Option (List ℕ)) (xs ys : List ℕ) →
    Adds before between xs → AddsPrefix between now ys → AddsPrefix before now (xs ++ ys)
AddsPrefix-append before between now xs ys first second =
    let all : Adds before now (xs ++ take second.0 ys) = Adds-append before between now xs (take second.0 ys) first second.2 in
    (length xs + second.0, omega (arith, second.1, length-append xs ys), rw (take-append-add xs ys second.0) all)

-- a prefix of a piece is a prefix of all that begins with the piece
pub AddsPrefix-longer : (before now : Option (List ℕ)) (xs ys : List ℕ) →
    AddsPrefix before now xs → AddsPrefix before now (xs ++ ys)
AddsPrefix-longer before now xs ys prefix =
    (prefix.0, omega (arith, prefix.1, length-append xs ys), rw (take-append-le prefix.0 xs ys prefix.1) prefix.2)

-- a prefix of the piece, and then some prefix of the rest, is a prefix of the piece
pub AddsPrefix-drop : (before between now : Option (List ℕ)) (piece : List ℕ) (n : ℕ) →
    Adds before between (take n piece) → AddsPrefix between now (drop n piece) → AddsPrefix before now piece
AddsPrefix-drop before between now piece n first second =
    subst
    (λ (p : List ℕ). AddsPrefix before now p)
    (take-append-drop n piece)
    (AddsPrefix-append before between now (take n piece) (drop n piece) first second)
