-- What is read is a line of one of the rows, and each such line is read.
use Rattle.std.proofs.Common.{◌≡◌, ◌≢◌, ℕ, zero, suc, ◌+◌, ◌<◌, ◌≤◌, ◌⊎◌, inl, inr, Bool, true, false, ◌&&◌, cond, if◌then◌else◌, Option, Some, None, Result, Ok, Err, List, [], ◌∷◌, ◌++◌, length, map, take, get_or, slice_index, codes, refl, sym, ap, subst, ◌∙◌, append-nil, get_or-take, true≢false, arith}
use Rattle.std.proofs.lemmas.Bool.{cases_Bool}
use Rattle.std.proofs.lemmas.List.Elements.{All-from_get_or}
use Rattle.std.proofs.lemmas.Option.{same_Some}
use Rattle.std.proofs.lemmas.Slice.Eq.{bytes_eq-Decides}
use Rattle.std.specs.List.{list_all, slice_split, onto_first}
use Rattle.std.specs.Result.{result_ok}
use Rattle.std.specs.Str.{bytes_eq}
use Rattle.sfx_script.specs.Faults.{Placed, placed, places_of, GoesWrongAt, unprintable}
use Rattle.sfx_script.specs.Grammar.{Form, number, name, uuid, item, version, value, keep, clash, line_kind}
use Rattle.sfx_script.specs.Line.{AreOptions, IsGiven, IsLine, Makes, StandFor, absent, none, one_more, options, present, units, replica, files, create, set, delete, clean_all, clean, scan, sync, show, knows, equal}
use Rattle.sfx_script.specs.Reading.{Read, WordsData, ◌>>=◌, formed, given, given_by, item_if_any, kind_line, last, end_of_line, line_by, line_in, line_of, next, options_of, reading_of, some_values, values_in}
use Rattle.sfx_script.specs.Script.{is_blank, words_of}
use Rattle.sfx_script.specs.Word.{is_printable, printed, within, setting_of, name_of, number_of, uuid_of, item_of, version_of, value_of, keep_of, clash_of, batch_of, group_of, cut_of, trace_of}
use Rattle.sfx_script.specs.declared.kind.Kind.{Kind}
use Rattle.sfx_script.specs.declared.kind.Kind.TheVariants as kinds
use Rattle.sfx_script.specs.declared.options.Options.{Options}
use Rattle.sfx_script.specs.declared.line.Line.{Line}
use Rattle.sfx_script.specs.declared.line.Line.TheVariants as lines
use Rattle.sfx_script.proofs.WordPrefixes.{list_all-from}
use Rattle.sfx_script.proofs.LinesAreRead.{IsToldBy, all_left, line_right}

-- the texts of words in their places
abbrev pub texts : List Placed → List (List ℕ)
texts ws = map (λ w. w.text) ws

texts_placed : (at : ℕ) (ws : List (List ℕ)) → texts (placed at ws) ≡ ws
texts_placed at [] = refl
texts_placed at (w ∷ ws) = ap (λ l. w ∷ l) (texts_placed (at + length w + 1) ws)

unprint : {A : Type 0} (of : List ℕ → Option A) (w : List ℕ) (x : A) → printed of w ≡ Some x → of w ≡ Some x
unprint {A} of w x e = by (list_all is_printable w) e where
  by : (b : Bool) → (if b then of w else None) ≡ Some x → of w ≡ Some x
  by true e = e
  by false e = absurd (cc)

-- what is read has the property
abbrev pub Made : {A : Type 0} → (A → Type 0) → Read A → Type 0
Made Q (Ok x) = Q x
Made Q (Err cause) = Unit {0}

made_next : {A B : Type 0} (f : Form) (of : List ℕ → Option A) (Q : List (List ℕ) → B → Type 0) (ws : List Placed) (end : ℕ) (k : A × WordsData → Read B)
    → ((w : List ℕ) (x : A) (rest : List Placed) → of w ≡ Some x → Made (λ b. Q (w ∷ texts rest) b) (k (x, record { left = rest; end = end })))
    → Made (Q (texts ws)) (next f of (record { left = ws; end = end }) >>= k)
made_next f of Q [] end k go = tt
made_next {A} {B} f of Q (w ∷ ws) end k go = by (printed of w.text) refl where
  by : (o : Option A) → printed of w.text ≡ o → Made (Q (w.text ∷ texts ws)) ((formed f w o >>= (λ x. Ok (x, record { left = ws; end = end }))) >>= k)
  by (Some x) e = go w.text x ws (unprint of w.text x e)
  by None e = tt

made_last : {B : Type 0} (Q : List (List ℕ) → B → Type 0) (ws : List Placed) (x : B) → Q [] x → Made (Q (texts ws)) (end_of_line ws >>= (λ _. Ok x))
made_last Q [] x q = q
made_last Q (w ∷ ws) x q = tt

made_mapped : {A B : Type 0} (P : A → Type 0) (Q : B → Type 0) (r : Read A) (f : A → B) → ((x : A) → P x → Q (f x)) → Made P r → Made Q (r >>= (λ x. Ok (f x)))
made_mapped P Q (Ok x) f go p = go x p
made_mapped P Q (Err cause) f go p = tt

-- values that are read
record AreValues (most : ℕ) (ws vs : List (List ℕ)) : Type 0 where
  stand : StandFor ws vs
  few : length ws ≤ most

made_values : (most : ℕ) (ws : List Placed) → Made (AreValues most (texts ws)) (values_in most ws)
made_values most [] = record { stand = none; few = omega arith }
made_values zero (w ∷ ws) = tt
made_values (suc most) (w ∷ ws) = by (printed value_of w.text) refl (made_values most ws) where
  by : (o : Option (List ℕ)) → printed value_of w.text ≡ o → Made (AreValues most (texts ws)) (values_in most ws)
      → Made (AreValues (suc most) (w.text ∷ texts ws)) (formed value w o >>= (λ v. values_in most ws >>= (λ vs. Ok (v ∷ vs))))
  by (Some v) e made = made_mapped (AreValues most (texts ws)) (AreValues (suc most) (w.text ∷ texts ws)) (values_in most ws) (λ vs. v ∷ vs)
      (λ vs are. record { stand = one_more w.text v (texts ws) vs (unprint value_of w.text v e) are.stand; few = omega (arith, are.few) }) made
  by None e made = tt

-- options that are read
record TakesGiven {A : Type 0} (of : List ℕ → Option A) (ws : List (List ℕ)) (o : Option A) (rest : List (List ℕ)) : Type 0 where
  prefix : List (List ℕ)
  is : IsGiven of prefix o
  split : ws ≡ prefix ++ rest

takes_given : {A : Type 0} (of : List ℕ → Option A) (ws : List Placed) (end : ℕ) → TakesGiven of (texts ws) (given of (record { left = ws; end = end })).0 (texts (given of (record { left = ws; end = end })).1.left)
takes_given of [] end = record { prefix = []; is = absent; split = refl }
takes_given {A} of (w ∷ ws) end = by (printed of w.text) refl where
  by : (o : Option A) → printed of w.text ≡ o
      → TakesGiven of (w.text ∷ texts ws) (given_by o (record { left = w ∷ ws; end = end }) (record { left = ws; end = end })).0 (texts (given_by o (record { left = w ∷ ws; end = end }) (record { left = ws; end = end })).1.left)
  by (Some x) e = record { prefix = w.text ∷ []; is = present w.text x (unprint of w.text x e); split = refl }
  by None e = record { prefix = []; is = absent; split = refl }

options_are : (ws : List Placed) (end : ℕ) → (options_of (record { left = ws; end = end })).1.left ≡ [] → AreOptions (texts ws) (options_of (record { left = ws; end = end })).0
options_are ws end done =
    let b = given batch_of (record { left = ws; end = end }) in
    let g = given group_of b.1 in
    let c = given cut_of g.1 in
    let t = given trace_of c.1 in
    let bs = takes_given batch_of ws end in
    let gs = takes_given group_of b.1.left b.1.end in
    let cs = takes_given cut_of g.1.left g.1.end in
    let ts = takes_given trace_of c.1.left c.1.end in
    let rest : texts c.1.left ≡ ts.prefix = ts.split ∙ ap (λ l. ts.prefix ++ texts l) done ∙ append-nil ts.prefix in
    let all : texts ws ≡ bs.prefix ++ (gs.prefix ++ (cs.prefix ++ ts.prefix)) =
    bs.split ∙ ap (λ l. bs.prefix ++ l) (gs.split ∙ ap (λ l. gs.prefix ++ l) (cs.split ∙ ap (λ l. cs.prefix ++ l) rest)) in
    subst (λ l. AreOptions l (options_of (record { left = ws; end = end })).0) (sym all)
    (options bs.prefix gs.prefix cs.prefix ts.prefix b.0 g.0 c.0 t.0 bs.is gs.is cs.is ts.is)

made_rest : {B : Type 0} (Q : B → Type 0) (ws : List Placed) (x : B) → (ws ≡ [] → Q x) → Made Q (end_of_line ws >>= (λ _. Ok x))
made_rest Q [] x q = q refl
made_rest Q (w ∷ ws) x q = tt

-- one to eight values that are read
record AreSome (ws vs : List (List ℕ)) : Type 0 where
  stand : StandFor ws vs
  some : 1 ≤ length ws
  few : length ws ≤ 8

made_some : (ws : List Placed) (end : ℕ) → Made (AreSome (texts ws)) (some_values (record { left = ws; end = end }))
made_some ws end = made_next value value_of AreSome ws end _ (λ w x rest e.
    made_mapped (AreValues 7 (texts rest)) (AreSome (w ∷ texts rest)) (values_in 7 rest) (λ vs. x ∷ vs)
    (λ vs are. record { stand = one_more w x (texts rest) vs e are.stand; some = omega arith; few = omega (arith, are.few) }) (made_values 7 rest))

made_item : (w r : List ℕ) (ws : List Placed) (end : ℕ) → name_of w ≡ Some r → Made (λ i. Makes kinds.Clean (w ∷ texts ws) (lines.Clean r i)) (item_if_any (record { left = ws; end = end }))
made_item w r [] end e = clean_all w r e
made_item w r (v ∷ vs) end e = made_next item item_of (λ l i. Makes kinds.Clean (w ∷ l) (lines.Clean r i)) (v ∷ vs) end _ (λ w1 x1 r1 e1.
    made_last (λ l i. Makes kinds.Clean (w ∷ w1 ∷ l) (lines.Clean r i)) r1 (Some x1) (clean w w1 r x1 e e1))

made_kind : (kind : Kind) (ws : List Placed) (end : ℕ) → Made (Makes kind (texts ws)) (kind_line kind (record { left = ws; end = end }))
made_kind kinds.Units ws end =
    made_next number number_of (Makes kinds.Units) ws end _ (λ w0 x0 r0 e0.
    made_last (λ l. Makes kinds.Units (w0 ∷ l)) r0 (lines.Units x0) (units w0 x0 e0))
made_kind kinds.Replica ws end =
    made_next name name_of (Makes kinds.Replica) ws end _ (λ w0 x0 r0 e0.
    made_next uuid uuid_of (λ l. Makes kinds.Replica (w0 ∷ l)) r0 end _ (λ w1 x1 r1 e1.
    made_last (λ l. Makes kinds.Replica (w0 ∷ w1 ∷ l)) r1 (lines.Replica x0 x1) (replica w0 w1 x0 x1 e0 e1)))
made_kind kinds.Files ws end =
    made_next name name_of (Makes kinds.Files) ws end _ (λ w0 x0 r0 e0.
    made_next uuid uuid_of (λ l. Makes kinds.Files (w0 ∷ l)) r0 end _ (λ w1 x1 r1 e1.
    made_last (λ l. Makes kinds.Files (w0 ∷ w1 ∷ l)) r1 (lines.Files x0 x1) (files w0 w1 x0 x1 e0 e1)))
made_kind kinds.Set ws end =
    made_next name name_of (Makes kinds.Set) ws end _ (λ w0 x0 r0 e0.
    made_next item item_of (λ l. Makes kinds.Set (w0 ∷ l)) r0 end _ (λ w1 x1 r1 e1.
    made_next number number_of (λ l. Makes kinds.Set (w0 ∷ w1 ∷ l)) r1 end _ (λ w2 x2 r2 e2.
    made_next value value_of (λ l. Makes kinds.Set (w0 ∷ w1 ∷ w2 ∷ l)) r2 end _ (λ w3 x3 r3 e3.
    made_last (λ l. Makes kinds.Set (w0 ∷ w1 ∷ w2 ∷ w3 ∷ l)) r3 (lines.Set x0 x1 x2 x3) (set w0 w1 w2 w3 x0 x3 x1 x2 e0 e1 e2 e3)))))
made_kind kinds.Delete ws end =
    made_next name name_of (Makes kinds.Delete) ws end _ (λ w0 x0 r0 e0.
    made_next item item_of (λ l. Makes kinds.Delete (w0 ∷ l)) r0 end _ (λ w1 x1 r1 e1.
    made_last (λ l. Makes kinds.Delete (w0 ∷ w1 ∷ l)) r1 (lines.Delete x0 x1) (delete w0 w1 x0 x1 e0 e1)))
made_kind kinds.Scan ws end =
    made_next name name_of (Makes kinds.Scan) ws end _ (λ w0 x0 r0 e0.
    made_last (λ l. Makes kinds.Scan (w0 ∷ l)) r0 (lines.Scan x0) (scan w0 x0 e0))
made_kind kinds.Show ws end =
    made_next name name_of (Makes kinds.Show) ws end _ (λ w0 x0 r0 e0.
    made_last (λ l. Makes kinds.Show (w0 ∷ l)) r0 (lines.Show x0) (show w0 x0 e0))
made_kind kinds.Knows ws end =
    made_next name name_of (Makes kinds.Knows) ws end _ (λ w0 x0 r0 e0.
    made_next item item_of (λ l. Makes kinds.Knows (w0 ∷ l)) r0 end _ (λ w1 x1 r1 e1.
    made_next number number_of (λ l. Makes kinds.Knows (w0 ∷ w1 ∷ l)) r1 end _ (λ w2 x2 r2 e2.
    made_next version version_of (λ l. Makes kinds.Knows (w0 ∷ w1 ∷ w2 ∷ l)) r2 end _ (λ w3 x3 r3 e3.
    made_last (λ l. Makes kinds.Knows (w0 ∷ w1 ∷ w2 ∷ w3 ∷ l)) r3 (lines.Knows x0 x1 x2 x3) (knows w0 w1 w2 w3 x0 x1 x2 x3 e0 e1 e2 e3)))))
made_kind kinds.Equal ws end =
    made_next name name_of (Makes kinds.Equal) ws end _ (λ w0 x0 r0 e0.
    made_next name name_of (λ l. Makes kinds.Equal (w0 ∷ l)) r0 end _ (λ w1 x1 r1 e1.
    made_last (λ l. Makes kinds.Equal (w0 ∷ w1 ∷ l)) r1 (lines.Equal x0 x1) (equal w0 w1 x0 x1 e0 e1)))
made_kind kinds.Create ws end =
    made_next name name_of (Makes kinds.Create) ws end _ (λ w0 x0 r0 e0.
    made_mapped (AreSome (texts r0)) (Makes kinds.Create (w0 ∷ texts r0)) (some_values (record { left = r0; end = end })) (λ vs. lines.Create x0 vs)
    (λ vs are. create w0 x0 (texts r0) vs e0 are.some are.few are.stand) (made_some r0 end))
made_kind kinds.Clean ws end =
    made_next name name_of (Makes kinds.Clean) ws end _ (λ w0 x0 r0 e0.
    made_mapped (λ i. Makes kinds.Clean (w0 ∷ texts r0) (lines.Clean x0 i)) (Makes kinds.Clean (w0 ∷ texts r0)) (item_if_any (record { left = r0; end = end })) (λ i. lines.Clean x0 i)
    (λ i made. made) (made_item w0 x0 r0 end e0))
made_kind kinds.Sync ws end =
    made_next name name_of (Makes kinds.Sync) ws end _ (λ w0 x0 r0 e0.
    made_next name name_of (λ l. Makes kinds.Sync (w0 ∷ l)) r0 end _ (λ w1 x1 r1 e1.
    made_next keep keep_of (λ l. Makes kinds.Sync (w0 ∷ w1 ∷ l)) r1 end _ (λ w2 x2 r2 e2.
    made_next clash clash_of (λ l. Makes kinds.Sync (w0 ∷ w1 ∷ w2 ∷ l)) r2 end _ (λ w3 x3 r3 e3.
    made_rest (Makes kinds.Sync (w0 ∷ w1 ∷ w2 ∷ w3 ∷ texts r3)) (options_of (record { left = r3; end = end })).1.left (lines.Sync x0 x1 x2 x3 (options_of (record { left = r3; end = end })).0)
    (λ done. sync w0 w1 w2 w3 x0 x1 x2 x3 (texts r3) (options_of (record { left = r3; end = end })).0 e0 e1 e2 e3 (options_are r3 end done))))))

-- ---- what is read is a line

all_print : (line : List ℕ) → ((at : ℕ) → GoesWrongAt line at → ⊥) → list_all is_printable line ≡ true
all_print line right = list_all-from is_printable line (All-from_get_or (λ b. is_printable b ≡ true) line 0 (λ i within. by i within (cases_Bool (is_printable (slice_index line i))))) where
  by : (i : ℕ) → i < length line → (is_printable (slice_index line i) ≡ true) ⊎ (is_printable (slice_index line i) ≡ false) → is_printable (slice_index line i) ≡ true
  by i within (inl prints) = prints
  by i within (inr bad) = absurd (right i (unprintable within bad))

sound_by : (line : List ℕ) (read : Line) (w : Placed) (rest : List Placed) (o : Option Kind) → list_all is_printable line ≡ true → places_of line ≡ w ∷ rest → line_kind w.text ≡ o
    → line_by o (record { left = rest; end = length line }) ≡ Ok read → IsLine line read
sound_by line read w rest None prints is begins e = absurd (cc)
sound_by line read w rest (Some kind) prints is begins e = record {
  printable = prints;
  first = w.text;
  words = texts rest;
  divided = sym (texts_placed 0 (words_of line)) ∙ ap texts is;
  kind = kind;
  begins = begins;
  makes = subst (Made (Makes kind (texts rest))) e (made_kind kind rest (length line));
}

sound_words : (line : List ℕ) (read : Line) (ws : List Placed) → list_all is_printable line ≡ true → places_of line ≡ ws → line_in (record { left = ws; end = length line }) ≡ Ok read → IsLine line read
sound_words line read [] prints is e = absurd (cc)
sound_words line read (w ∷ ws) prints is e = sound_by line read w ws (line_kind w.text) prints is refl e

ok_of : {A E : Type 0} (r : Result A E) (x : A) → result_ok r ≡ Some x → r ≡ Ok x
ok_of (Ok y) x e = ap (λ z. Ok z) (same_Some y x e)
ok_of (Err c) x e = absurd (cc)

pub sound : (line : List ℕ) (read : Line) → line_of line ≡ Some read → IsLine line read
sound line read e =
    let is : reading_of line ≡ Ok read = ok_of (reading_of line) read e in
    let right : (at : ℕ) → GoesWrongAt line at → ⊥ = subst (IsToldBy line) is (line_right line) in
    sound_words line read (places_of line) (all_print line right) refl (sym (ap line_in (all_left line)) ∙ is)

-- ---- and each line is read

abbrev pub AllPrint : List (List ℕ) → Type 0
AllPrint [] = Unit {0}
AllPrint (w ∷ ws) = (list_all is_printable w ≡ true) × AllPrint ws

head_prints : (a b : Bool) → (a && b) ≡ true → (a ≡ true) × (b ≡ true)
head_prints true b e = (refl, e)
head_prints false b e = absurd (true≢false (sym e))

words_print : (line : List ℕ) → list_all is_printable line ≡ true → AllPrint (words_of line)
words_print [] e = (refl, tt)
words_print (b ∷ bs) e = by (is_blank b) (slice_split is_blank bs) (words_print bs (head_prints (is_printable b) (list_all is_printable bs) e).1) where
  by : (t : Bool) (parts : List (List ℕ)) → AllPrint parts → AllPrint (cond t ([] ∷ parts) (onto_first b parts))
  by true parts print = (refl, print)
  by false [] print = (rw (head_prints (is_printable b) (list_all is_printable bs) e).0 refl, tt)
  by false (part ∷ parts) print = (rw (head_prints (is_printable b) (list_all is_printable bs) e).0 print.0, print.1)

printed_is : {A : Type 0} (of : List ℕ → Option A) (w : List ℕ) (x : A) → list_all is_printable w ≡ true → of w ≡ Some x → printed of w ≡ Some x
printed_is of w x prints e = rw prints e

whole_values : (most at : ℕ) (ws vs : List (List ℕ)) → StandFor ws vs → length ws ≤ most → AllPrint ws → values_in most (placed at ws) ≡ Ok vs
whole_values most at ws vs none few print = refl
whole_values zero at ws vs (one_more w v ws' vs' e more) few print = absurd (omega arith)
whole_values (suc most) at ws vs (one_more w v ws' vs' e more) few print =
    rw (printed_is value_of w v print.0 e, whole_values most (at + length w + 1) ws' vs' more (omega arith) print.1) refl

whole_some : (at end : ℕ) (ws vs : List (List ℕ)) → StandFor ws vs → 1 ≤ length ws → length ws ≤ 8 → AllPrint ws → some_values (record { left = placed at ws; end = end }) ≡ Ok vs
whole_some at end ws vs none some few print = absurd (omega arith)
whole_some at end ws vs (one_more w v ws' vs' e more) some few print =
    rw (printed_is value_of w v print.0 e, whole_values 7 (at + length w + 1) ws' vs' more (omega arith) print.1) refl

-- the first byte of the first word
abbrev pub opening : List (List ℕ) → ℕ
opening [] = 0
opening (w ∷ ws) = get_or w 0 0

-- what is read by this reading begins with this byte
abbrev pub OpensWith : {A : Type 0} → ℕ → (List ℕ → Option A) → Type 0
OpensWith {A} c of = (w : List ℕ) (x : A) → of w ≡ Some x → get_or w 0 0 ≡ c

setting_opens : (key : List ℕ) (most c : ℕ) → 0 < length key → get_or key 0 0 ≡ c → OpensWith c (setting_of key most)
setting_opens key most c some first w x e = by (cases_Bool (bytes_eq (take (length key) w) key)) where
  by : (bytes_eq (take (length key) w) key ≡ true) ⊎ (bytes_eq (take (length key) w) key ≡ false) → get_or w 0 0 ≡ c
  by (inl same) =
      let prefix : take (length key) w ≡ key = (bytes_eq-Decides (take (length key) w) key).0 same in
      sym (get_or-take (length key) w 0 0 some) ∙ ap (λ t. get_or t 0 0) prefix ∙ first
  by (inr other) = let bad : None ≡ Some x = sym (rw other refl) ∙ e in absurd (cc)

trace_opens : OpensWith 116 trace_of
trace_opens w x e = by (cases_Bool (bytes_eq w (codes "trace"))) where
  by : (bytes_eq w (codes "trace") ≡ true) ⊎ (bytes_eq w (codes "trace") ≡ false) → get_or w 0 0 ≡ 116
  by (inl same) = ap (λ t. get_or t 0 0) ((bytes_eq-Decides w (codes "trace")).0 same)
  by (inr other) = let bad : None ≡ Some x = sym (rw other refl) ∙ e in absurd (cc)

module _ {A : Type 0} (c : ℕ) (of : List ℕ → Option A) (opens : OpensWith c of) where
  none_other : (w : List ℕ) → get_or w 0 0 ≢ c → printed of w ≡ None
  none_other w other = by (printed of w) refl where
    by : (o : Option A) → printed of w ≡ o → o ≡ None
    by None e = refl
    by (Some x) e = absurd (other (opens w x (unprint of w x e)))

  skips : (ws : List (List ℕ)) (at end : ℕ) → opening ws ≢ c → given of (record { left = placed at ws; end = end }) ≡ (None, record { left = placed at ws; end = end })
  skips [] at end other = refl
  skips (w ∷ ws) at end other = rw (none_other w other) refl

  pub opening_prefix : (prefix rest : List (List ℕ)) (o : Option A) (d : ℕ) → IsGiven of prefix o → c ≢ d → opening rest ≢ d → opening (prefix ++ rest) ≢ d
  opening_prefix prefix rest o d absent differ other = other
  opening_prefix prefix rest o d (present w x e) differ other = λ same. differ (sym (opens w x e) ∙ same)

  pub takes : (prefix rest : List (List ℕ)) (o : Option A) (at end : ℕ) → IsGiven of prefix o → AllPrint (prefix ++ rest) → opening rest ≢ c
      → (at' : ℕ) × (given of (record { left = placed at (prefix ++ rest); end = end }) ≡ (o, record { left = placed at' rest; end = end })) × AllPrint rest
  takes prefix rest o at end absent print other = (at, skips rest at end other, print)
  takes prefix rest o at end (present w x e) print other = (at + length w + 1, rw (printed_is of w x print.0 e) refl, print.1)

whole_options : (ws : List (List ℕ)) (o : Options) (at end : ℕ) → AreOptions ws o → AllPrint ws → options_of (record { left = placed at ws; end = end }) ≡ (o, record { left = []; end = end })
whole_options ws o at end (options bs gs cs ts b g c t is_b is_g is_c is_t) print =
    let batches = setting_opens (codes "batch=") 10000 98 (omega arith) refl in
    let groups = setting_opens (codes "group=") 10000 103 (omega arith) refl in
    let cuts = setting_opens (codes "cut=") 1000000000 99 (omega arith) refl in
    let end_of : (d : ℕ) → 116 ≢ d → 0 ≢ d → opening ts ≢ d =
    λ d differ some. subst (λ l. opening l ≢ d) (append-nil ts) (opening_prefix 116 trace_of trace_opens ts [] t d is_t differ some) in
    let behind_group : (d : ℕ) → 99 ≢ d → 116 ≢ d → 0 ≢ d → opening (cs ++ ts) ≢ d =
    λ d cut trace some. opening_prefix 99 cut_of cuts cs ts c d is_c cut (end_of d trace some) in
    let behind_batch : opening (gs ++ (cs ++ ts)) ≢ 98 =
    opening_prefix 103 group_of groups gs (cs ++ ts) g 98 is_g (λ e. omega arith) (behind_group 98 (λ e. omega arith) (λ e. omega arith) (λ e. omega arith)) in
    let one = takes 98 batch_of batches bs (gs ++ (cs ++ ts)) b at end is_b print behind_batch in
    let two = takes 103 group_of groups gs (cs ++ ts) g one.0 end is_g one.2 (behind_group 103 (λ e. omega arith) (λ e. omega arith) (λ e. omega arith)) in
    let three = takes 99 cut_of cuts cs ts c two.0 end is_c two.2 (end_of 99 (λ e. omega arith) (λ e. omega arith)) in
    let four = takes 116 trace_of trace_opens ts [] t three.0 end is_t (subst AllPrint (sym (append-nil ts)) three.2) (λ e. omega arith) in
    let last_one : given trace_of (record { left = placed three.0 ts; end = end }) ≡ (t, record { left = []; end = end }) =
    ap (λ l. given trace_of (record { left = placed three.0 l; end = end })) (sym (append-nil ts)) ∙ four.1 in
    rw (one.1, two.1, three.1, last_one) refl

whole_kind : (kind : Kind) (ws : List (List ℕ)) (read : Line) (at end : ℕ) → Makes kind ws read → AllPrint ws → kind_line kind (record { left = placed at ws; end = end }) ≡ Ok read
whole_kind kind ws read at end (units w n e) p = rw (printed_is number_of w n p.0 e) refl
whole_kind kind ws read at end (replica w u r id e f) p = rw (printed_is name_of w r p.0 e, printed_is uuid_of u id p.1.0 f) refl
whole_kind kind ws read at end (files w u r id e f) p = rw (printed_is name_of w r p.0 e, printed_is uuid_of u id p.1.0 f) refl
whole_kind kind ws read at end (create w r vs values e some few stand) p = rw (printed_is name_of w r p.0 e, whole_some (at + length w + 1) end vs values stand some few p.1) refl
whole_kind kind ws read at end (set w i k v r val it un e f g h) p =
    rw (printed_is name_of w r p.0 e, printed_is item_of i it p.1.0 f, printed_is number_of k un p.1.1.0 g, printed_is value_of v val p.1.1.1.0 h) refl
whole_kind kind ws read at end (delete w i r it e f) p = rw (printed_is name_of w r p.0 e, printed_is item_of i it p.1.0 f) refl
whole_kind kind ws read at end (clean_all w r e) p = rw (printed_is name_of w r p.0 e) refl
whole_kind kind ws read at end (clean w i r it e f) p = rw (printed_is name_of w r p.0 e, printed_is item_of i it p.1.0 f) refl
whole_kind kind ws read at end (scan w r e) p = rw (printed_is name_of w r p.0 e) refl
whole_kind kind ws read at end (sync a b k c s d kp cl os o e f g h are) p =
    rw (
      printed_is name_of a s p.0 e,
      printed_is name_of b d p.1.0 f,
      printed_is keep_of k kp p.1.1.0 g,
      printed_is clash_of c cl p.1.1.1.0 h,
    )
    (ap (λ (r : Options × WordsData). last r.1 >>= (λ _. Ok (lines.Sync s d kp cl r.0)))
    (whole_options os o (at + length a + 1 + length b + 1 + length k + 1 + length c + 1) end are p.1.1.1.1))
whole_kind kind ws read at end (show w r e) p = rw (printed_is name_of w r p.0 e) refl
whole_kind kind ws read at end (knows w i k v r it un ver e f g h) p =
    rw (printed_is name_of w r p.0 e, printed_is item_of i it p.1.0 f, printed_is number_of k un p.1.1.0 g, printed_is version_of v ver p.1.1.1.0 h) refl
whole_kind kind ws read at end (equal a b x y e f) p = rw (printed_is name_of a x p.0 e, printed_is name_of b y p.1.0 f) refl

pub whole : (line : List ℕ) (read : Line) → IsLine line read → line_of line ≡ Some read
whole line read is =
    let print = subst AllPrint is.divided (words_print line is.printable) in
    let places : places_of line ≡ record { at = 0; text = is.first } ∷ placed (0 + length is.first + 1) is.words = ap (placed 0) is.divided in
    let kind = whole_kind is.kind is.words read (0 + length is.first + 1) (length line) is.makes print.1 in
    let reading : reading_of line ≡ Ok read = ap line_in (all_left line) ∙ rw (places, is.begins) kind in
    ap result_ok reading
