-- A reading from left to right finds the first cause.
use Rattle.std.proofs.Common.{◌≡◌, ℕ, zero, suc, ◌+◌, ◌≤◌, inl, inr, Bool, true, false, ◌||◌, ◌&&◌, Option, Some, None, is_some, Ok, Err, List, [], ◌∷◌, length, refl, sym, ap, subst, ◌∙◌, true≢false, arith}
use Rattle.std.specs.List.{list_all}
use Rattle.sfx_script.specs.Faults.{Placed, has_one, behind, HasNoForm, IsMisformed}
use Rattle.sfx_script.specs.Grammar.{Form, number, name, uuid, item, version, value, keep, clash, batch, group, cut, trace, has_form, shape_of}
use Rattle.sfx_script.specs.Reading.{Cause, Misformed, Surplus, Read, WordsData, IsPlaceOf, ◌>>=◌, next, last, end_of_line, formed, given, given_by, values_in, some_values, item_if_any, kind_line}
use Rattle.sfx_script.specs.Word.{printed, number_of, name_of, uuid_of, item_of, version_of, value_of, keep_of, clash_of, batch_of, group_of, cut_of, trace_of}
use Rattle.sfx_script.specs.declared.kind.Kind.{Kind}
use Rattle.sfx_script.specs.declared.kind.Kind.TheVariants as kinds
use Rattle.std.specs.Option.{unwrap_or}
use Rattle.sfx_ids.specs.declared.item_id.ItemId.{ItemId}
use Rattle.sfx_model.specs.declared.keep.Keep.{Keep}
use Rattle.sfx_model.specs.declared.clash_rule.ClashRule.{ClashRule}
use Rattle.sfx_script.specs.declared.line.Line.{Line}
use Rattle.sfx_script.specs.declared.line.Line.TheVariants.{Units, Replica, Files, Create, Set, Delete, Clean, Scan, Sync, Show, Knows, Equal}
use Rattle.sfx_script.proofs.FaultsLemmas.{at_begin, bad_byte, breaks, no_text, no_form, too_many, BreakForms, BreaksForm, GoWrong, GoesWrongHere, StandFrom, go_low, here_low, here_place, place_within, place_zero, right_here, some_place, zero_place}

-- the cause is the first: words go wrong by it, and no earlier
pub record IsFirst (needed further : List Form) (ws : List Placed) (end : ℕ) (cause : Cause) : Type 0 where
  pub wrong : (at : ℕ) → IsPlaceOf cause at → BreakForms needed further ws end at
  pub least : (at n : ℕ) → IsPlaceOf cause at → GoWrong needed further ws end n → at ≤ n
  pub somewhere : ((at : ℕ) → IsPlaceOf cause at → ⊥) → ⊥

-- the reading tells what words of which these forms are due are: right, or wrong by a first cause
abbrev pub Judges : {A : Type 0} → List Form → List Form → List Placed → ℕ → Read A → Type 0
Judges needed further ws end (Ok x) = (at : ℕ) → GoWrong needed further ws end at → ⊥
Judges needed further ws end (Err cause) = IsFirst needed further ws end cause

no_place : (f : Form) (w : Placed) → ((at : ℕ) → IsMisformed f w at → ⊥) → ⊥
no_place f w none = some_place f w.text (λ n is. none (w.at + n) (record { place = n; is_place = is; here = refl }))

-- ---- needed forms

pass_needed : {A : Type 0} (f : Form) (needed further : List Form) (w : Placed) (ws : List Placed) (end : ℕ) (r : Read A) → has_form f w.text ≡ true → Judges needed further ws end r → Judges (f ∷ needed) further (w ∷ ws) end r
pass_needed f needed further w ws end (Ok x) has judges = λ at wrong. elim wrong [ inl here ↦ right_here (f ∷ []) w at (rw has refl) here | inr later ↦ judges at later ]
pass_needed f needed further w ws end (Err cause) has judges = record {
  wrong = λ at is. inr (judges.wrong at is);
  least = λ at n is wrong. elim wrong [ inl here ↦ absurd (right_here (f ∷ []) w n (rw has refl) here) | inr later ↦ judges.least at n is later ];
  somewhere = judges.somewhere;
}

stop_needed : (f : Form) (needed further : List Form) (w : Placed) (ws : List Placed) (end low : ℕ) → StandFrom low (w ∷ ws) end → has_form f w.text ≡ false → IsFirst (f ∷ needed) further (w ∷ ws) end (Misformed f w)
stop_needed f needed further w ws end low stand lacks = record {
  wrong = λ at is. inl (no_form (rw lacks refl, is));
  least = λ at n is wrong. elim wrong [
    | inl here ↦ omega (arith, here_place f [] w is.place n is.is_place here, is.here)
    | inr later ↦ omega (arith, go_low needed further ws end (low + length w.text + 1) n stand.1 later, place_within f w.text is.place is.is_place, is.here, stand.0)
  ];
  somewhere = no_place f w;
}

pub judges_next : {A B : Type 0} (f : Form) (of : List ℕ → Option A) (needed further : List Form) (ws : List Placed) (end low : ℕ) (k : A × WordsData → Read B)
    → ((word : List ℕ) → has_form f word ≡ is_some (printed of word)) → StandFrom low ws end
    → ((x : A) (rest : List Placed) (low' : ℕ) → StandFrom low' rest end → Judges needed further rest end (k (x, record { left = rest; end = end })))
    → Judges (f ∷ needed) further ws end (next f of (record { left = ws; end = end }) >>= k)
judges_next f of needed further [] end low k same stand go = record {
  wrong = λ at is. is;
  least = λ at n is wrong. omega arith;
  somewhere = λ none. none end refl;
}
judges_next {A} {B} f of needed further (w ∷ ws) end low k same stand go = by (printed of w.text) refl where
  by : (o : Option A) → printed of w.text ≡ o → Judges (f ∷ needed) further (w ∷ ws) end ((formed f w o >>= (λ x. Ok (x, record { left = ws; end = end }))) >>= k)
  by (Some x) e = pass_needed f needed further w ws end (k (x, record { left = ws; end = end })) (same w.text ∙ ap is_some e) (go x ws (low + length w.text + 1) stand.1)
  by None e = stop_needed f needed further w ws end low stand (same w.text ∙ ap is_some e)

-- ---- no more words

stop_last : (w : Placed) (ws : List Placed) (end low : ℕ) → StandFrom low (w ∷ ws) end → IsFirst [] [] (w ∷ ws) end (Surplus w)
stop_last w ws end low stand = record {
  wrong = λ at is. inl (too_many refl is);
  least = λ at n is wrong. elim wrong [
    | inl here ↦ omega (arith, here_low [] w n here)
    | inr later ↦ omega (arith, go_low [] [] ws end (low + length w.text + 1) n stand.1 later, stand.0)
  ];
  somewhere = λ none. none w.at refl;
}

pub judges_last : {B : Type 0} (ws : List Placed) (end low : ℕ) (k : Unit {0} → Read B) → StandFrom low ws end → Judges [] [] [] end (k (tt {0})) → Judges [] [] ws end (end_of_line ws >>= k)
judges_last [] end low k stand go = go
judges_last (w ∷ ws) end low k stand go = stop_last w ws end low stand

-- ---- further forms

pass_further : {A : Type 0} (f : Form) (further : List Form) (w : Placed) (ws : List Placed) (end : ℕ) (r : Read A) → has_form f w.text ≡ true → Judges [] further ws end r → Judges [] (f ∷ further) (w ∷ ws) end r
pass_further f further w ws end (Ok x) has judges = λ at wrong. elim wrong [
  | inl here ↦ right_here (f ∷ further) w at (rw has refl) here
  | inr later ↦ judges at (subst (λ forms. GoWrong [] forms ws end at) (rw has refl) later)
]
pass_further f further w ws end (Err cause) has judges =
    let tail : behind (f ∷ further) w.text ≡ further = rw has refl in
    record {
      wrong = λ at is. inr (subst (λ forms. BreakForms [] forms ws end at) (sym tail) (judges.wrong at is));
      least = λ at n is wrong. elim wrong [
        | inl here ↦ absurd (right_here (f ∷ further) w n (rw has refl) here)
        | inr later ↦ judges.least at n is (subst (λ forms. GoWrong [] forms ws end n) tail later)
      ];
      somewhere = judges.somewhere;
    }

stop_further : (f : Form) (further : List Form) (w : Placed) (ws : List Placed) (end low : ℕ) → StandFrom low (w ∷ ws) end → has_one (f ∷ further) w.text ≡ false → IsFirst [] (f ∷ further) (w ∷ ws) end (Misformed f w)
stop_further f further w ws end low stand lacks = record {
  wrong = λ at is. inl (no_form (lacks, is));
  least = λ at n is wrong. elim wrong [
    | inl here ↦ omega (arith, here_place f further w is.place n is.is_place here, is.here)
    | inr later ↦ omega (arith, go_low [] (behind (f ∷ further) w.text) ws end (low + length w.text + 1) n stand.1 later, place_within f w.text is.place is.is_place, is.here, stand.0)
  ];
  somewhere = no_place f w;
}

-- ---- options, which go wrong at the begin of their words

head_true : (a b : Bool) → (a && b) ≡ true → a ≡ true
head_true true b e = refl
head_true false b e = absurd (true≢false (sym e))

or_false : (a b : Bool) → a ≡ false → (a || b) ≡ false → b ≡ false
or_false true b lacks e = absurd (true≢false lacks)
or_false false b lacks e = e

swap_no_form : (f : Form) (further : List Form) (w : Placed) (at : ℕ) → at_begin f ≡ true → list_all at_begin further ≡ true → has_form f w.text ≡ false → HasNoForm at further w → HasNoForm at (f ∷ further) w
swap_no_form f [] w at begin begins lacks h = absurd h
swap_no_form f (g ∷ further) w at begin begins lacks h =
    (rw lacks h.0, record { place = 0; is_place = place_zero f w.text begin; here = omega (arith, h.1.here, zero_place g w.text h.1.place (head_true (at_begin g) _ begins) h.1.is_place) })

swap_in : (f : Form) (further : List Form) (w : Placed) (at : ℕ) → at_begin f ≡ true → list_all at_begin further ≡ true → has_form f w.text ≡ false → BreaksForm further w at → BreaksForm (f ∷ further) w at
swap_in f further w at begin begins lacks (no_form h) = no_form (swap_no_form f further w at begin begins lacks h)
swap_in f further w at begin begins lacks (too_many none is) =
    no_form (rw (none, lacks) refl, record { place = 0; is_place = place_zero f w.text begin; here = omega arith })

swap_back : (f : Form) (further : List Form) (w : Placed) (at : ℕ) → at_begin f ≡ true → list_all at_begin further ≡ true → has_form f w.text ≡ false → BreaksForm (f ∷ further) w at → BreaksForm further w at
swap_back f [] w at begin begins lacks (no_form h) = too_many refl (omega (arith, h.1.here, zero_place f w.text h.1.place begin h.1.is_place))
swap_back f (g ∷ further) w at begin begins lacks (no_form h) =
    no_form (or_false (has_form f w.text) (has_one (g ∷ further) w.text) lacks h.0, record { place = 0; is_place = place_zero g w.text (head_true (at_begin g) _ begins); here = omega (arith, h.1.here, zero_place f w.text h.1.place begin h.1.is_place) })
swap_back f further w at begin begins lacks (too_many none is) = absurd (cc)

swap_here : (f : Form) (further : List Form) (w : Placed) (at : ℕ) → at_begin f ≡ true → list_all at_begin further ≡ true → has_form f w.text ≡ false → GoesWrongHere (f ∷ further) w at → GoesWrongHere further w at
swap_here f further w at begin begins lacks (bad_byte b) = bad_byte b
swap_here f further w at begin begins lacks (no_text none is) = no_text none is
swap_here f further w at begin begins lacks (breaks b) = breaks (swap_back f further w at begin begins lacks b)

-- a word that has not the first of the forms is looked at with the others
skip_further : {A : Type 0} (f : Form) (further : List Form) (w : Placed) (ws : List Placed) (end : ℕ) (r : Read A) → at_begin f ≡ true → list_all at_begin further ≡ true → has_form f w.text ≡ false
    → Judges [] further (w ∷ ws) end r → Judges [] (f ∷ further) (w ∷ ws) end r
skip_further f further w ws end (Ok x) begin begins lacks judges = λ at wrong. elim wrong [
  | inl here ↦ judges at (inl (swap_here f further w at begin begins lacks here))
  | inr later ↦ judges at (inr (subst (λ forms. GoWrong [] forms ws end at) (rw lacks refl) later))
]
skip_further f further w ws end (Err cause) begin begins lacks judges =
    let tail : behind (f ∷ further) w.text ≡ behind further w.text = rw lacks refl in
    record {
      wrong = λ at is. elim (judges.wrong at is) [
        | inl here ↦ inl (swap_in f further w at begin begins lacks here)
        | inr later ↦ inr (subst (λ forms. BreakForms [] forms ws end at) (sym tail) later)
      ];
      least = λ at n is wrong. elim wrong [
        | inl here ↦ judges.least at n is (inl (swap_here f further w n begin begins lacks here))
        | inr later ↦ judges.least at n is (inr (subst (λ forms. GoWrong [] forms ws end n) tail later))
      ];
      somewhere = judges.somewhere;
    }

-- where no words are left, it does not matter which forms are due further
no_words : {A : Type 0} (further other : List Form) (end : ℕ) (r : Read A) → Judges [] further [] end r → Judges [] other [] end r
no_words further other end (Ok x) judges = judges
no_words further other end (Err cause) judges = record { wrong = judges.wrong; least = judges.least; somewhere = judges.somewhere }

pub judges_given : {A B : Type 0} (f : Form) (of : List ℕ → Option A) (further : List Form) (ws : List Placed) (end low : ℕ) (k : Option A × WordsData → Read B)
    → ((word : List ℕ) → has_form f word ≡ is_some (printed of word)) → at_begin f ≡ true → list_all at_begin further ≡ true → StandFrom low ws end
    → ((o : Option A) (rest : List Placed) (low' : ℕ) → StandFrom low' rest end → Judges [] further rest end (k (o, record { left = rest; end = end })))
    → Judges [] (f ∷ further) ws end (k (given of (record { left = ws; end = end })))
judges_given f of further [] end low k same begin begins stand go = no_words further (f ∷ further) end (k (None, record { left = []; end = end })) (go None [] low stand)
judges_given {A} {B} f of further (w ∷ ws) end low k same begin begins stand go = by (printed of w.text) refl where
  by : (o : Option A) → printed of w.text ≡ o → Judges [] (f ∷ further) (w ∷ ws) end (k (given_by o (record { left = w ∷ ws; end = end }) (record { left = ws; end = end })))
  by (Some x) e = pass_further f further w ws end (k (Some x, record { left = ws; end = end })) (same w.text ∙ ap is_some e) (go (Some x) ws (low + length w.text + 1) stand.1)
  by None e = skip_further f further w ws end (k (None, record { left = w ∷ ws; end = end })) begin begins (same w.text ∙ ap is_some e) (go None (w ∷ ws) low stand)

-- ---- values

-- this many values are due
abbrev pub values_due : ℕ → List Form
values_due zero = []
values_due (suc most) = value ∷ values_due most

no_value_due : (most : ℕ) (word : List ℕ) → has_form value word ≡ false → has_one (values_due most) word ≡ false
no_value_due zero word lacks = refl
no_value_due (suc most) word lacks = rw (lacks, no_value_due most word lacks) refl

judges_mapped : {A B : Type 0} (needed further : List Form) (ws : List Placed) (end : ℕ) (r : Read A) (f : A → B) → Judges needed further ws end r → Judges needed further ws end (r >>= (λ x. Ok (f x)))
judges_mapped needed further ws end (Ok x) f judges = judges
judges_mapped needed further ws end (Err cause) f judges = judges

judges_values : (most : ℕ) (ws : List Placed) (end low : ℕ) → StandFrom low ws end → Judges [] (values_due most) ws end (values_in most ws)
judges_values most [] end low stand = λ at wrong. wrong
judges_values zero (w ∷ ws) end low stand = stop_last w ws end low stand
judges_values (suc most) (w ∷ ws) end low stand = by (printed value_of w.text) refl (judges_values most ws end (low + length w.text + 1) stand.1) where
  by : (o : Option (List ℕ)) → printed value_of w.text ≡ o → Judges [] (values_due most) ws end (values_in most ws)
      → Judges [] (value ∷ values_due most) (w ∷ ws) end (formed value w o >>= (λ v. values_in most ws >>= (λ vs. Ok (v ∷ vs))))
  by (Some v) e judges = pass_further value (values_due most) w ws end (values_in most ws >>= (λ vs. Ok (v ∷ vs))) (ap is_some e) (judges_mapped [] (values_due most) ws end (values_in most ws) (λ vs. v ∷ vs) judges)
  by None e judges = stop_further value (values_due most) w ws end low stand (no_value_due (suc most) w.text (ap is_some e))

-- ---- an item, if any

abbrev kept : {A : Type 0} → WordsData → A → Read (A × WordsData)
kept ws x = Ok (x, ws)

judges_item : {B : Type 0} (ws : List Placed) (end low : ℕ) (f : Option ItemId → B) → StandFrom low ws end → Judges [] (item ∷ []) ws end (item_if_any (record { left = ws; end = end }) >>= (λ i. Ok (f i)))
judges_item [] end low f stand = λ at wrong. wrong
judges_item {B} (w ∷ ws) end low f stand = by (printed item_of w.text) refl where
  by : (o : Option ItemId) → printed item_of w.text ≡ o
      → Judges [] (item ∷ []) (w ∷ ws) end (((formed item w o >>= kept (record { left = ws; end = end })) >>= (λ i. last i.1 >>= (λ _. Ok (Some i.0)))) >>= (λ i. Ok (f i)))
  by (Some x) e = pass_further item [] w ws end ((end_of_line ws >>= (λ _. Ok (Some x))) >>= (λ i. Ok (f i))) (ap is_some e)
      (judges_mapped [] [] ws end (end_of_line ws >>= (λ _. Ok (Some x))) f (judges_last ws end (low + length w.text + 1) (λ _. Ok (Some x)) stand.1 (λ at wrong. wrong)))
  by None e = stop_further item [] w ws end low stand (rw (ap is_some e) refl)

-- ---- the kinds of lines

-- what is left to read of a line of a session, from each of its options on
abbrev trace_then : List ℕ → List ℕ → Keep → ClashRule → Option ℕ → Option ℕ → Option ℕ → Option Bool × WordsData → Read Line
trace_then x0 x1 x2 x3 b g c t = last t.1 >>= (λ _. Ok (Sync x0 x1 x2 x3 (record { batch = unwrap_or b 100; group = unwrap_or g 1; cut = c; trace = is_some t.0 })))

abbrev cut_then : List ℕ → List ℕ → Keep → ClashRule → Option ℕ → Option ℕ → Option ℕ × WordsData → Read Line
cut_then x0 x1 x2 x3 b g c = trace_then x0 x1 x2 x3 b g c.0 (given trace_of c.1)

abbrev group_then : List ℕ → List ℕ → Keep → ClashRule → Option ℕ → Option ℕ × WordsData → Read Line
group_then x0 x1 x2 x3 b g = cut_then x0 x1 x2 x3 b g.0 (given cut_of g.1)

abbrev options_then : List ℕ → List ℕ → Keep → ClashRule → Option ℕ × WordsData → Read Line
options_then x0 x1 x2 x3 b = group_then x0 x1 x2 x3 b.0 (given group_of b.1)

-- each kind of line is read so that its shape judges it
pub judges_kind : (kind : Kind) (ws : List Placed) (end low : ℕ) → StandFrom low ws end → Judges (shape_of kind).needed (shape_of kind).further ws end (kind_line kind (record { left = ws; end = end }))
judges_kind kinds.Units ws end low stand =
    judges_next number number_of [] [] ws end low _ (λ word. refl) stand (λ x0 w0 l0 s0.
    judges_last w0 end l0 (λ _. Ok (Units x0)) s0 (λ at wrong. wrong))
judges_kind kinds.Replica ws end low stand =
    judges_next name name_of (uuid ∷ []) [] ws end low _ (λ word. refl) stand (λ x0 w0 l0 s0.
    judges_next uuid uuid_of [] [] w0 end l0 _ (λ word. refl) s0 (λ x1 w1 l1 s1.
    judges_last w1 end l1 (λ _. Ok (Replica x0 x1)) s1 (λ at wrong. wrong)))
judges_kind kinds.Files ws end low stand =
    judges_next name name_of (uuid ∷ []) [] ws end low _ (λ word. refl) stand (λ x0 w0 l0 s0.
    judges_next uuid uuid_of [] [] w0 end l0 _ (λ word. refl) s0 (λ x1 w1 l1 s1.
    judges_last w1 end l1 (λ _. Ok (Files x0 x1)) s1 (λ at wrong. wrong)))
judges_kind kinds.Set ws end low stand =
    judges_next name name_of (item ∷ number ∷ value ∷ []) [] ws end low _ (λ word. refl) stand (λ x0 w0 l0 s0.
    judges_next item item_of (number ∷ value ∷ []) [] w0 end l0 _ (λ word. refl) s0 (λ x1 w1 l1 s1.
    judges_next number number_of (value ∷ []) [] w1 end l1 _ (λ word. refl) s1 (λ x2 w2 l2 s2.
    judges_next value value_of [] [] w2 end l2 _ (λ word. refl) s2 (λ x3 w3 l3 s3.
    judges_last w3 end l3 (λ _. Ok (Set x0 x1 x2 x3)) s3 (λ at wrong. wrong)))))
judges_kind kinds.Delete ws end low stand =
    judges_next name name_of (item ∷ []) [] ws end low _ (λ word. refl) stand (λ x0 w0 l0 s0.
    judges_next item item_of [] [] w0 end l0 _ (λ word. refl) s0 (λ x1 w1 l1 s1.
    judges_last w1 end l1 (λ _. Ok (Delete x0 x1)) s1 (λ at wrong. wrong)))
judges_kind kinds.Scan ws end low stand =
    judges_next name name_of [] [] ws end low _ (λ word. refl) stand (λ x0 w0 l0 s0.
    judges_last w0 end l0 (λ _. Ok (Scan x0)) s0 (λ at wrong. wrong))
judges_kind kinds.Show ws end low stand =
    judges_next name name_of [] [] ws end low _ (λ word. refl) stand (λ x0 w0 l0 s0.
    judges_last w0 end l0 (λ _. Ok (Show x0)) s0 (λ at wrong. wrong))
judges_kind kinds.Knows ws end low stand =
    judges_next name name_of (item ∷ number ∷ version ∷ []) [] ws end low _ (λ word. refl) stand (λ x0 w0 l0 s0.
    judges_next item item_of (number ∷ version ∷ []) [] w0 end l0 _ (λ word. refl) s0 (λ x1 w1 l1 s1.
    judges_next number number_of (version ∷ []) [] w1 end l1 _ (λ word. refl) s1 (λ x2 w2 l2 s2.
    judges_next version version_of [] [] w2 end l2 _ (λ word. refl) s2 (λ x3 w3 l3 s3.
    judges_last w3 end l3 (λ _. Ok (Knows x0 x1 x2 x3)) s3 (λ at wrong. wrong)))))
judges_kind kinds.Equal ws end low stand =
    judges_next name name_of (name ∷ []) [] ws end low _ (λ word. refl) stand (λ x0 w0 l0 s0.
    judges_next name name_of [] [] w0 end l0 _ (λ word. refl) s0 (λ x1 w1 l1 s1.
    judges_last w1 end l1 (λ _. Ok (Equal x0 x1)) s1 (λ at wrong. wrong)))
judges_kind kinds.Create ws end low stand =
    judges_next name name_of (value ∷ []) (values_due 7) ws end low _ (λ word. refl) stand (λ x0 w0 l0 s0.
    judges_mapped (value ∷ []) (values_due 7) w0 end (some_values (record { left = w0; end = end })) (λ vs. Create x0 vs)
    (judges_next value value_of [] (values_due 7) w0 end l0 _ (λ word. refl) s0 (λ x1 w1 l1 s1.
    judges_mapped [] (values_due 7) w1 end (values_in 7 w1) (λ vs. x1 ∷ vs) (judges_values 7 w1 end l1 s1))))
judges_kind kinds.Clean ws end low stand =
    judges_next name name_of [] (item ∷ []) ws end low _ (λ word. refl) stand (λ x0 w0 l0 s0. judges_item w0 end l0 (λ i. Clean x0 i) s0)
judges_kind kinds.Sync ws end low stand =
    judges_next name name_of (name ∷ keep ∷ clash ∷ []) (batch ∷ group ∷ cut ∷ trace ∷ []) ws end low _ (λ word. refl) stand (λ x0 w0 l0 s0.
    judges_next name name_of (keep ∷ clash ∷ []) (batch ∷ group ∷ cut ∷ trace ∷ []) w0 end l0 _ (λ word. refl) s0 (λ x1 w1 l1 s1.
    judges_next keep keep_of (clash ∷ []) (batch ∷ group ∷ cut ∷ trace ∷ []) w1 end l1 _ (λ word. refl) s1 (λ x2 w2 l2 s2.
    judges_next clash clash_of [] (batch ∷ group ∷ cut ∷ trace ∷ []) w2 end l2 _ (λ word. refl) s2 (λ x3 w3 l3 s3.
    judges_given batch batch_of (group ∷ cut ∷ trace ∷ []) w3 end l3 (λ b. options_then x0 x1 x2 x3 b) (λ word. refl) refl refl s3 (λ b w4 l4 s4.
    judges_given group group_of (cut ∷ trace ∷ []) w4 end l4 (λ g. group_then x0 x1 x2 x3 b g) (λ word. refl) refl refl s4 (λ g w5 l5 s5.
    judges_given cut cut_of (trace ∷ []) w5 end l5 (λ c. cut_then x0 x1 x2 x3 b g c) (λ word. refl) refl refl s5 (λ c w6 l6 s6.
    judges_given trace trace_of [] w6 end l6 (λ t. trace_then x0 x1 x2 x3 b g c t) (λ word. refl) refl refl s6 (λ t w7 l7 s7.
    judges_last w7 end l7 (λ _. Ok (Sync x0 x1 x2 x3 _)) s7 (λ at wrong. wrong)))))))))
