-- Segments that agree at every place are equal.
use Rattle.std.proofs.Common.{◌≡◌, ◌≢◌, true, inl, inr, refl, sym, subst, ◌∙◌, List, [], ◌∷◌}
use Rattle.sfx_ids.specs.declared.cut.Cut.{Cut}
use Rattle.sfx_ids.specs.declared.cut.Cut.TheVariants.{Start}
use Rattle.sfx_ids.specs.Cut.{cut_le}
use Rattle.sfx_ids.proofs.CutLemmas.{le-self, lt-le, le_trans, compared}
use Rattle.sfx_segments.specs.Segments.{IsPlace, segment_at, GoOn, AreSegments, AgreeEverywhere}
use Rattle.sfx_segments.proofs.PlaceValues.{segment_at-passed, segment_at-ahead, value_at-first, at_start, some_same}

-- from this cut on the lists agree at each place
pub record AgreeFrom {A : Type 0} (from : Cut) (v w : A) (xs ys : List (Cut × A)) : Type 0 where
  pub at : (q : Cut) → IsPlace q → cut_le from q ≡ true → segment_at v xs q ≡ segment_at w ys q

pair : {A : Type 0} (c d : Cut) (a b : A) → c ≡ d → a ≡ b → let p : Cut × A = (c, a) in let q : Cut × A = (d, b) in p ≡ q
pair c d a b first second = rw (first, second) refl

-- behind a segment at which the values differ nothing agrees
differs : {A : Type 0} (v w : A) (p : Cut × A) (ps ys : List (Cut × A)) → v ≡ w → v ≢ p.1 → GoOn p.0 p.1 ps → segment_at w ys p.0 ≡ w → segment_at v (p ∷ ps) p.0 ≡ segment_at w ys p.0 → ⊥
differs v w p ps ys same other on still agree =
    other (same ∙ sym still ∙ sym agree ∙ segment_at-passed v p ps p.0 (le-self p.0) ∙ at_start p.0 p.1 ps on)

pub go_alike : {A : Type 0} (from : Cut) (v w : A) (xs ys : List (Cut × A)) → v ≡ w → GoOn from v xs → GoOn from w ys → AgreeFrom from v w xs ys → xs ≡ ys
go_alike from v w [] [] same on_x on_y agree = refl
go_alike from v w [] (y ∷ ys) same on_x on_y agree =
    absurd (on_y.2 (sym same ∙ agree.at y.0 on_y.1 (lt-le from y.0 on_y.0) ∙ segment_at-passed w y ys y.0 (le-self y.0) ∙ at_start y.0 y.1 ys on_y.3))
go_alike from v w (x ∷ xs) [] same on_x on_y agree =
    absurd (on_x.2 (same ∙ sym (agree.at x.0 on_x.1 (lt-le from x.0 on_x.0)) ∙ segment_at-passed v x xs x.0 (le-self x.0) ∙ at_start x.0 x.1 xs on_x.3))
go_alike from v w (x ∷ xs) (y ∷ ys) same on_x on_y agree = elim (compared x.0 y.0) [
  | inl lt ↦ absurd (differs v w x xs (y ∷ ys) same on_x.2 on_x.3 (segment_at-ahead w y ys x.0 lt) (agree.at x.0 on_x.1 (lt-le from x.0 on_x.0)))
  | inr rest ↦ elim rest [
    | inl here ↦
        let y_le : cut_le y.0 x.0 ≡ true = subst (λ c. cut_le c x.0 ≡ true) here (le-self x.0) in
        let on_y' : GoOn x.0 y.1 ys = subst (λ c. GoOn c y.1 ys) (sym here) on_y.3 in
        let behind : AgreeFrom x.0 x.1 y.1 xs ys = record {
          at = λ q place le.
              sym (segment_at-passed v x xs q le) ∙ agree.at q place (le_trans from x.0 q (lt-le from x.0 on_x.0) le)
              ∙ segment_at-passed w y ys q (le_trans y.0 x.0 q y_le le);
        } in
        let values : x.1 ≡ y.1 =
        sym (at_start x.0 x.1 xs on_x.3) ∙ behind.at x.0 on_x.1 (le-self x.0) ∙ at_start x.0 y.1 ys on_y' in
        let tails : xs ≡ ys = go_alike x.0 x.1 y.1 xs ys values on_x.3 on_y' behind in
        let heads : x ≡ y = pair x.0 y.0 x.1 y.1 here values in
        cc
    | inr lt ↦ absurd (differs w v y ys (x ∷ xs) (sym same) on_y.2 on_y.3 (segment_at-ahead v x xs y.0 lt) (sym (agree.at y.0 on_y.1 (lt-le from y.0 on_y.0))))
  ]
]

pub one_form : {A : Type 0} (xs ys : List (Cut × A)) → AreSegments xs → AreSegments ys → AgreeEverywhere xs ys → xs ≡ ys
one_form [] ys form_x form_y agree = absurd form_x
one_form (x ∷ xs) [] form_x form_y agree = absurd form_y
one_form (x ∷ xs) (y ∷ ys) form_x form_y agree =
    let on_x : GoOn Start x.1 xs = subst (λ c. GoOn c x.1 xs) form_x.0 form_x.1 in
    let on_y : GoOn Start y.1 ys = subst (λ c. GoOn c y.1 ys) form_y.0 form_y.1 in
    let alike : AgreeFrom Start x.1 y.1 xs ys = record {
      at = λ q place le.
          some_same _ _ (sym (value_at-first x xs q form_x.0) ∙ agree q place ∙ value_at-first y ys q form_y.0);
    } in
    let values : x.1 ≡ y.1 = sym (at_start Start x.1 xs on_x) ∙ alike.at Start tt (le-self Start) ∙ at_start Start y.1 ys on_y in
    let tails : xs ≡ ys = go_alike Start x.1 y.1 xs ys values on_x on_y alike in
    let heads : x ≡ y = pair x.0 y.0 x.1 y.1 (form_x.0 ∙ sym form_y.0) values in
    cc
