-- A fault that tells why a first step cannot be read tells it of the whole reading.
use Rattle.std.proofs.Common.{◌≡◌, ℕ, Some, None, List, [], ◌∷◌, Result, Ok, Err, refl, sym, subst}
use Rattle.sfx_script.specs.Reading.{Read, Answers, Fails, Gives, Tells, WordsData, ◌>>=◌, first_of, item_if_any, last, next}
use Rattle.sfx_ids.specs.declared.item_id.ItemId.{ItemId}
use Rattle.sfx_script.specs.Faults.{Placed}
use Rattle.sfx_script.specs.Grammar.{item}
use Rattle.sfx_script.specs.Word.{item_of}
use Rattle.sfx_script.specs.declared.line_fault.LineFault.{LineFault}
use Rattle.sfx_script.specs.declared.line_fault.LineFault.TheVariants.{Memory}

-- running out of memory tells nothing, so it may come always
pub memory_fails : {A : Type 0} (fault : LineFault) (r : Read A) → fault ≡ Memory → Fails fault r
memory_fails fault (Ok x) e = e
memory_fails fault (Err cause) e = subst (λ f. Tells f cause) (sym e) tt

pub bind_fails : {A B : Type 0} (fault : LineFault) (r : Read A) (f : A → Read B) → Fails fault r → Fails fault (r >>= f)
bind_fails fault (Ok x) f e = memory_fails fault (f x) e
bind_fails fault (Err cause) f e = e

-- the answer behind a fault of a first step
pub answers_fault : {A X : Type 0} (answer : Result X LineFault) (fault other : LineFault) (r : Read A) (f : A → Read X) → answer ≡ Err fault → other ≡ fault → Fails other r → Answers answer (r >>= f)
answers_fault answer fault other r f is same fails = subst (λ a. Answers a (r >>= f)) (sym is) (bind_fails fault r f (subst (λ g. Fails g r) same fails))

pub gives_fault : {A X : Type 0} (answer : Result X LineFault) (fault other : LineFault) (ws : WordsData) (r : Read A) (f : A → Read (X × WordsData)) → answer ≡ Err fault → other ≡ fault → Fails other r → Gives answer ws (r >>= f)
gives_fault answer fault other ws r f is same fails = subst (λ a. Gives a ws (r >>= f)) (sym is) (bind_fails fault r f (subst (λ g. Fails g r) same fails))

-- the item that is left cannot be read
pub item_off : (left : List Placed) (end : ℕ) (fault other : LineFault) (w : Placed) → first_of left ≡ Some w → other ≡ fault → Fails other (next item item_of (record { left = left; end = end }))
    → Fails fault (item_if_any (record { left = left; end = end }))
item_off [] end fault other w is same fails = absurd (cc)
item_off (x ∷ xs) end fault other w is same fails =
    bind_fails fault (next item item_of (record { left = x ∷ xs; end = end })) _ (subst (λ f. Fails f (next item item_of (record { left = x ∷ xs; end = end }))) same fails)

-- no word is left, so that no item is read
pub item_none : (left : List Placed) (end : ℕ) → None ≡ first_of left → item_if_any (record { left = left; end = end }) ≡ Ok None
item_none [] end none = refl
item_none (x ∷ xs) end none = absurd (cc)

-- a word is left: the item that it is, and what is behind it
pub item_there : (left : List Placed) (end : ℕ) (w : Placed) (i : ItemId) (rest : WordsData)
    → Some w ≡ first_of left → next item item_of (record { left = left; end = end }) ≡ Ok (i, rest) → last rest ≡ Ok tt
    → item_if_any (record { left = left; end = end }) ≡ Ok (Some i)
item_there [] end w i rest is read done = absurd (cc)
item_there (x ∷ xs) end w i rest is read done = rw (read, done) refl

pub item_behind : (left : List Placed) (end : ℕ) (fault other : LineFault) (w : Placed) (i : ItemId) (rest : WordsData)
    → Some w ≡ first_of left → next item item_of (record { left = left; end = end }) ≡ Ok (i, rest) → other ≡ fault → Fails other (last rest)
    → Fails fault (item_if_any (record { left = left; end = end }))
item_behind [] end fault other w i rest is read same fails = absurd (cc)
item_behind (x ∷ xs) end fault other w i rest is read same fails = rw read (bind_fails fault (last rest) _ (subst (λ f. Fails f (last rest)) same fails))
