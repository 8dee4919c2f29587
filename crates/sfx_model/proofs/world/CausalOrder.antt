-- Causal order at a cell goes one way in a history, so a cell has one latest version at most.
use Rattle.std.proofs.Common.{◌≡◌, ℕ, List, [], ◌∷◌, inl, inr, sym, ◌∙◌, subst}
use Rattle.sfx_ids.specs.declared.item_id.ItemId.{ItemId}
use Rattle.sfx_ids.specs.declared.version.Version.{Version}
use Rattle.sfx_model.specs.world.Sets.{Has}
use Rattle.sfx_model.specs.world.World.{Record, IsAt, Made, Precedes, IsClosed, IsHistory}

-- A version of a cell has one record
pub one_record :
    (rs : List Record) (p q : Record) (i : ItemId) (u : ℕ) (v : Version)
    → IsHistory rs → Has p rs → Has q rs → IsAt p i u v → IsAt q i u v → p ≡ q
one_record [] p q i u v ok has_p has_q at_p at_q = absurd has_p
one_record (r ∷ rs) p q i u v ok has_p has_q at_p at_q =
    elim has_p [
      | inl p_is ↦ elim has_q [
        | inl q_is ↦ p_is ∙ sym q_is
        | inr q_in ↦ absurd (ok.0.first (q, q_in, record { item = cc; unit = cc; version = cc }))
      ]
      | inr p_in ↦ elim has_q [
        | inl q_is ↦ absurd (ok.0.first (p, p_in, record { item = cc; unit = cc; version = cc }))
        | inr q_in ↦ one_record rs p q i u v ok.1 p_in q_in at_p at_q
      ]
    ]

-- What was made stays made when a record comes
pub made_with_one :
    (r : Record) (rs : List Record) (i : ItemId) (u : ℕ) (v : Version)
    → Made rs i u v → Made (r ∷ rs) i u v
made_with_one r rs i u v made = (made.0, inr made.1, made.2)

-- What the maker of a record knew was made at the record's cell
pub knew_made :
    (rs : List Record) (r : Record) (v : Version)
    → IsHistory rs → Has r rs → Has v r.made_knowing → Made rs r.item r.unit v
knew_made [] r v ok has knew = absurd has
knew_made (q ∷ rs) r v ok has knew =
    elim has [
      | inl is ↦ made_with_one q rs r.item r.unit v
          (subst (λ (x : Record). Made rs x.item x.unit v) (sym is)
          (ok.0.knew.made v (subst (λ (x : Record). Has v x.made_knowing) is knew)))
      | inr there ↦ made_with_one q rs r.item r.unit v (knew_made rs r v ok.1 there knew)
    ]

-- Of two records of a cell, not each was made knowing the other
pub one_way :
    (rs : List Record) (p q : Record) (i : ItemId) (u : ℕ) (a b : Version)
    → IsHistory rs → Has p rs → Has q rs → IsAt p i u a → IsAt q i u b → Has b p.made_knowing → Has a q.made_knowing
    → ⊥
one_way [] p q i u a b ok has_p has_q at_p at_q p_knew q_knew = has_p
one_way (r ∷ rs) p q i u a b ok has_p has_q at_p at_q p_knew q_knew =
    elim has_p [
      | inl p_is ↦ elim has_q [
        | inl q_is ↦
            let made : Made rs r.item r.unit b =
            ok.0.knew.made b (subst (λ (x : Record). Has b x.made_knowing) p_is p_knew) in
            ok.0.first (made.0, made.1, record { item = made.2.item; unit = made.2.unit; version = cc })
        | inr q_in ↦
            let made : Made rs q.item q.unit a = knew_made rs q a ok.1 q_in q_knew in
            ok.0.first (made.0, made.1, record { item = cc; unit = cc; version = cc })
      ]
      | inr p_in ↦ elim has_q [
        | inl q_is ↦
            let made : Made rs p.item p.unit b = knew_made rs p b ok.1 p_in p_knew in
            ok.0.first (made.0, made.1, record { item = cc; unit = cc; version = cc })
        | inr q_in ↦ one_way rs p q i u a b ok.1 p_in q_in at_p at_q p_knew q_knew
      ]
    ]

-- Causal order is antisymmetric
pub one_of_both :
    (rs : List Record) (i : ItemId) (u : ℕ) (a b : Version)
    → IsHistory rs → Precedes rs i u a b → Precedes rs i u b a → a ≡ b
one_of_both rs i u a b ok before after =
    elim before [
      | inl same ↦ same
      | inr (q, has_q, at_q, knew_a) ↦ elim after [
        | inl same ↦ sym same
        | inr (p, has_p, at_p, knew_b) ↦ absurd (one_way rs p q i u a b ok has_p has_q at_p at_q knew_b knew_a)
      ]
    ]

-- What precedes a known version is known
pub before_known :
    (rs : List Record) (i : ItemId) (u : ℕ) (vs : List Version) (v t : Version)
    → IsClosed rs i u vs → Has t vs → Precedes rs i u v t → Has v vs
before_known rs i u vs v t ok has before =
    elim before [
      | inl same ↦ subst (λ (x : Version). Has x vs) (sym same) has
      | inr (r, has_r, at_r, knew) ↦ ok.closed t r has has_r at_r v knew
    ]
