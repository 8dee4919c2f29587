use Rattle.std.proofs.Common.{◌≡◌, ◌≢◌, ℕ, ◌≤◌, max, inl, inr, ◌∙◌, sym, ap, refl, subst, Bool, true, false, not, ◌&&◌, if◌then◌else◌, nat_eq, List, [], ◌∷◌, ◌++◌, arith, le_refl, le_trans}
use Rattle.std.proofs.lemmas.Bool.{cases_lt, eq-eqb}
use Rattle.sfx_ids.specs.declared.cut.Cut.{Cut}
use Rattle.sfx_ids.specs.declared.cut.Cut.TheVariants.{At}
use Rattle.sfx_ids.specs.declared.item_id.ItemId.{ItemId}
use Rattle.sfx_ids.specs.declared.version.Version.{Version}
use Rattle.sfx_ids.specs.Cut.{is_between}
use Rattle.sfx_ids.specs.ItemId.{creation_of}
use Rattle.sfx_model.specs.world.Sets.{Has, IsPart}
use Rattle.sfx_model.specs.world.World.{Record, Site, Snapshot, World, Holding, holding, AreDistinct, IsContained, IsForgotten, IsSound, IsSoundItem, WellFormed}
use Rattle.sfx_model.specs.world.Events.{is_in, new_site, forgotten_with, forgotten_joined, site_cleaned, site_forgot, is_learned, site_learned, with_new_site, UnitsLegal, JoinLegal, CleanLegal, LearnLegal}
use Rattle.sfx_model.proofs.world.Step.{AreSame, Follows, Step}
use Rattle.sfx_model.proofs.world.SetsLemmas.{has_left, has_right, has_either, same_self, joined_left}
use Rattle.sfx_model.proofs.world.WorldLemmas.{grows_self, item_stays, closed_union, above}
use Rattle.sfx_model.proofs.world.StepKeepsWorld.{items_sound, items_more}

-- a step with which no record comes
pub quiet_step :
    (w : World) (old new : Site) → WellFormed w → Follows old new
    → ((i : ItemId) (u : ℕ) → IsPart (old.known i u) (new.known i u)) → IsSound w new → Step w old new w.records
quiet_step w old new ok follows more sound = record {
  follows = follows;
  grows = grows_self w.records;
  history = ok.history;
  news = λ r has. inr has;
  more = more;
  sound = sound;
}

-- a cleanup

pub forgotten_with_up :
    (forgotten : Cut → ℕ → ℕ) (v : Version) (lo hi place : Cut) (r : ℕ) → forgotten place r ≤ forgotten_with forgotten v lo hi place r
forgotten_with_up forgotten v lo hi place r = by_test (is_between lo hi place && nat_eq r v.replica)
  where
    by_test : (b : Bool) → forgotten place r ≤ (if b then max (forgotten place r) v.tick else forgotten place r)
    by_test true = omega arith
    by_test false = le_refl (forgotten place r)

pub forgotten_with_has :
    (forgotten : Cut → ℕ → ℕ) (v : Version) (lo hi place : Cut)
    → is_between lo hi place ≡ true → IsContained (forgotten_with forgotten v lo hi place) v
forgotten_with_has forgotten v lo hi place covered =
    rw (covered, eq-eqb v.replica v.replica refl) (omega arith)

pub clean_step :
    (w : World) (s : Site) (i : ItemId) (v : Version) (lo hi : Cut)
    → WellFormed w → Has s w.sites → CleanLegal w s i v lo hi → Step w s (site_cleaned s i v lo hi) w.records
clean_step w s i v lo hi ok there legal =
    quiet_step w s (site_cleaned s i v lo hi) ok (record { id = refl; clock = le_refl s.clock })
    (λ j u. items_more s i (s.known i) (λ x y has. has) j u)
    (items_sound w.units w.records w.records s i (s.known i) false (forgotten_with s.forgotten v lo hi) (grows_self w.records)
    (ok.sound s there) (λ j r. forgotten_with_up s.forgotten v lo hi (At j) r)
    (record {
      cells = (ok.sound s there i).cells;
      held = λ is. absurd (cc);
      cleaned = λ is u x has. elim (cases_lt u w.units) [
        | inl small ↦
            let dead = legal.dead u small in
            (v, dead.0.0, dead.0.1 x has, dead.1, forgotten_with_has s.forgotten v lo hi (At i) legal.covered)
        | inr big ↦ absurd (above w i u (s.known i u) x ok ((ok.sound s there i).cells u) big has)
      ];
      creation = (ok.sound s there i).creation;
    }))

-- forgotten deletions with_new_site

pub forgotten_joined_up :
    (forgotten seen : Cut → ℕ → ℕ) (lo hi place : Cut) (r : ℕ) → forgotten place r ≤ forgotten_joined forgotten seen lo hi place r
forgotten_joined_up forgotten seen lo hi place r = by_test (is_between lo hi place)
  where
    by_test : (b : Bool) → forgotten place r ≤ (if b then max (forgotten place r) (seen place r) else forgotten place r)
    by_test true = omega arith
    by_test false = le_refl (forgotten place r)

pub forget_step :
    (w : World) (s : Site) (snapshot : Snapshot) (lo hi : Cut)
    → WellFormed w → Has s w.sites → Step w s (site_forgot s snapshot lo hi) w.records
forget_step w s snapshot lo hi ok there =
    quiet_step w s (site_forgot s snapshot lo hi) ok (record { id = refl; clock = le_refl s.clock })
    (λ j u x has. has)
    (λ j.
    item_stays w.units w.records w.records j (holding s j) (holding (site_forgot s snapshot lo hi) j) (grows_self w.records)
    (λ u. same_self (s.known j u)) refl (λ r. forgotten_joined_up s.forgotten snapshot.forgotten lo hi (At j) r)
    (ok.sound s there j))

-- a learned range

pub forgotten_more :
    (rs : List Record) (i : ItemId) (u : ℕ) (vs ws : List Version) (clocks now : ℕ → ℕ) (v : Version)
    → IsPart vs ws → ((r : ℕ) → clocks r ≤ now r) → IsForgotten rs i u vs clocks v → IsForgotten rs i u ws now v
forgotten_more rs i u vs ws clocks now v part up is =
    (is.0, part is.0 is.1, is.2, is.3, le_trans is.4 (up is.0.replica))

-- an item that is absent in two sound holdings is sound with what both know of it
pub union_absent :
    (units : ℕ) (rs : List Record) (i : ItemId) (h k : Holding)
    → IsSoundItem units rs i h → IsSoundItem units rs i k → h.present ≡ false → k.present ≡ false
    → ((r : ℕ) → k.forgotten r ≤ h.forgotten r)
    → IsSoundItem units rs i (record { known = λ u. h.known u ++ k.known u; present = h.present; forgotten = h.forgotten })
union_absent units rs i h k a b here there up = record {
  cells = λ u. closed_union rs i u (h.known u) (k.known u) (a.cells u) (b.cells u);
  held = λ is. let bad : true ≡ false = sym is ∙ here in absurd (cc);
  cleaned = λ is u v has. elim (has_either v (h.known u) (k.known u) has) [
    | inl l ↦
        forgotten_more rs i u (h.known u) (h.known u ++ k.known u) h.forgotten h.forgotten v
        (λ x t. has_left x (h.known u) (k.known u) t) (λ r. le_refl (h.forgotten r)) (a.cleaned here u v l)
    | inr t ↦
        forgotten_more rs i u (k.known u) (h.known u ++ k.known u) k.forgotten h.forgotten v
        (λ x y. has_right x (h.known u) (k.known u) y) up (b.cleaned there u v t)
  ];
  creation = λ u v has x small. elim (has_either v (h.known u) (k.known u) has) [
    | inl l ↦ has_left (creation_of i) (h.known x) (k.known x) (a.creation u v l x small)
    | inr t ↦ has_right (creation_of i) (h.known x) (k.known x) (b.creation u v t x small)
  ];
}

pub learned_same :
    {A : Type 0} (here seen : List A) (covered left : Bool) → (covered ≡ true → left ≡ false → IsPart seen here)
    → AreSame here (if covered && not left then here ++ seen else here)
learned_same here seen true false part = joined_left here seen (part refl refl)
learned_same here seen true true part = same_self here
learned_same here seen false left part = same_self here

pub learned_union :
    {A : Type 0} (here seen : List A) (covered left : Bool) → covered ≡ true → left ≡ false
    → AreSame (here ++ seen) (if covered && not left then here ++ seen else here)
learned_union here seen true false c l = same_self (here ++ seen)
learned_union here seen true true c l = absurd (cc)
learned_union here seen false left c l = absurd (cc)

pub learned_more :
    {A : Type 0} (here seen : List A) (b : Bool) → IsPart here (if b then here ++ seen else here)
learned_more here seen true = λ x has. has_left x here seen has
learned_more here seen false = λ x has. has

pub learn_item :
    (w : World) (s : Site) (snapshot : Snapshot) (lo hi : Cut) (left : ItemId → ℕ → Bool) (i : ItemId)
    → IsSound w s → LearnLegal w s snapshot lo hi left
    → IsSoundItem w.units w.records i (holding (site_learned s snapshot lo hi left) i)
learn_item w s snapshot lo hi left i sound legal = by_test (is_in lo hi i) refl
  where
    by_test : (b : Bool) → is_in lo hi i ≡ b → IsSoundItem w.units w.records i (holding (site_learned s snapshot lo hi left) i)
    by_test true e = elim (legal.items i e) [
      | inl known ↦
          item_stays w.units w.records w.records i (holding s i) (holding (site_learned s snapshot lo hi left) i)
          (grows_self w.records)
          (λ u. learned_same (s.known i u) (snapshot.known i u) (is_in lo hi i) (left i u) (λ c l. known u l)) refl
          (λ r. le_refl (s.forgotten (At i) r)) (sound i)
      | inr absent ↦
          item_stays w.units w.records w.records i
          (record {
            known = λ u. s.known i u ++ snapshot.known i u;
            present = s.present i;
            forgotten = s.forgotten (At i);
          })
          (holding (site_learned s snapshot lo hi left) i) (grows_self w.records)
          (λ u. learned_union (s.known i u) (snapshot.known i u) (is_in lo hi i) (left i u) e (absent.whole u)) refl
          (λ r. le_refl (s.forgotten (At i) r))
          (union_absent w.units w.records i (holding s i) (holding snapshot i) (sound i) (legal.sound i) absent.here
          absent.there absent.forgotten)
    ]
    by_test false e =
        item_stays w.units w.records w.records i (holding s i) (holding (site_learned s snapshot lo hi left) i)
        (grows_self w.records)
        (λ u. learned_same (s.known i u) (snapshot.known i u) (is_in lo hi i) (left i u)
        (λ c. let bad : true ≡ false = sym c ∙ e in absurd (cc)))
        refl (λ r. le_refl (s.forgotten (At i) r)) (sound i)

pub learn_step :
    (w : World) (s : Site) (snapshot : Snapshot) (lo hi : Cut) (left : ItemId → ℕ → Bool)
    → WellFormed w → Has s w.sites → LearnLegal w s snapshot lo hi left → Step w s (site_learned s snapshot lo hi left) w.records
learn_step w s snapshot lo hi left ok there legal =
    quiet_step w s (site_learned s snapshot lo hi left) ok (record { id = refl; clock = le_refl s.clock })
    (λ i u. learned_more (s.known i u) (snapshot.known i u) (is_learned lo hi left i u))
    (λ i. learn_item w s snapshot lo hi left i (ok.sound s there) legal)

-- a replica that joins

pub distinct_more :
    (ss : List Site) (new : Site) → AreDistinct ss → ((s : Site) → Has s ss → s.id ≢ new.id) → AreDistinct (ss ++ new ∷ [])
distinct_more [] new d other = (λ x has. absurd has, tt)
distinct_more (s ∷ ss) new d other = (
  λ x has same. elim (has_either x ss (new ∷ []) has) [
    | inl old ↦ d.0 x old same
    | inr here ↦ elim here [
      | inl e ↦ other s (inl refl) (sym same ∙ ap (λ (y : Site). y.id) e)
      | inr none ↦ none
    ]
  ],
  distinct_more ss new d.1 (λ x has. other x (inr has)),
)

-- a site that knows nothing is sound
pub new_sound : (w : World) (id : ℕ) → IsSound w (new_site id)
new_sound w id i = record {
  cells = λ u. record { made = λ v has. absurd has; closed = λ v r has. absurd has };
  held = λ is. absurd (cc);
  cleaned = λ is u v has. absurd has;
  creation = λ u v has. absurd has;
}

pub join_keeps : (w : World) (id : ℕ) → WellFormed w → JoinLegal w id → WellFormed (with_new_site w id)
join_keeps w id ok legal = record {
  counted = λ s has. legal.said;
  distinct = distinct_more w.sites (new_site id) ok.distinct legal.new_id;
  history = ok.history;
  records = λ r has.
      let is = ok.records r has in
      record {
        maker = (is.maker.0, has_left is.maker.0 w.sites (new_site id ∷ []) is.maker.1, is.maker.2);
        unit = is.unit;
        one_item = is.one_item;
        creation = is.creation;
      };
  sound = λ s has. elim (has_either s w.sites (new_site id ∷ []) has) [
    | inl old ↦ ok.sound s old
    | inr here ↦ elim here [
      | inl e ↦ subst (λ (x : Site). IsSound w x) (sym e) (new_sound w id)
      | inr none ↦ absurd none
    ]
  ];
  own = λ r s has here is_own. elim (has_either s w.sites (new_site id ∷ []) here) [
    | inl old ↦ ok.own r s has old is_own
    | inr there ↦ elim there [
      | inl e ↦
          let maker = (ok.records r has).maker in
          absurd (legal.new_id maker.0 maker.1 (maker.2.replica ∙ sym is_own ∙ ap (λ (x : Site). x.id) e))
      | inr none ↦ absurd none
    ]
  ];
}

-- units

pub units_keeps : (w : World) (units : ℕ) → WellFormed w → UnitsLegal w units → WellFormed (record w { units = units })
units_keeps w units ok legal = elim legal.said [
  | inl unsaid ↦
      let nowhere : (s : Site) → Has s w.sites → ⊥ = λ s has. subst (λ (ss : List Site). Has s ss) unsaid.1 has in
      record {
        counted = λ s has. absurd (nowhere s has);
        distinct = ok.distinct;
        history = ok.history;
        records = λ r has. absurd (nowhere (ok.records r has).maker.0 (ok.records r has).maker.1);
        sound = λ s has. absurd (nowhere s has);
        own = λ r s has here. absurd (nowhere s here);
      }
  | inr same ↦ subst (λ (n : ℕ). WellFormed (record w { units = n })) same ok
]
