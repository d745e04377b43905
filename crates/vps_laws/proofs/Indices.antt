-- What each section keeps, as its layout finds it: rising layer ids, and indices inside their tables.
use Rattle.std.specs.Prelude.{ℕ, zero, suc, ◌+◌, ◌*◌, ◌-◌, ◌≤◌, ◌<◌, ◌≡◌, refl, Bool, cond, ltb, leb, eqb, length}
use Rattle.std.proofs.Math.Path.{sym, ap, subst⁻¹}
use Rattle.std.proofs.Common.{◌∙◌, subst, add_comm, suc-mul, arith, leb-true, ltb-true, length-append}
use mathlib.Core.List.{List, [], ◌∷◌, ◌++◌, append_assoc, append-nil}
use Rattle.std.proofs.Math.ListN.{get_or, drop}
use Rattle.std.proofs.Math.Seq.{drop_at}
use Rattle.std.proofs.lemmas.List.{get_or_at}
use Rattle.vps_definition.specs.Syntax.{Syntax, ◌>>=◌, Token, numbers}
use Rattle.vps_definition.specs.Syntax.Syntax.{test, done}
use Rattle.vps_definition.specs.Syntax.Token.{number}
use Rattle.vps_definition.specs.Words.{u, u_minus1, u_if, inferred, loop, repeat}
use Rattle.vps_definition.specs.DpbParameters.{dpb_sublayer, sublayers, per_sublayer, index_coded, index_inferred, index, ols_dpb, dpb_section}
use Rattle.vps_definition.specs.TimingHrd.{general_timing_hrd, timing_section}
use Rattle.vps_definition.specs.Vps.{Header, Layers, direct_reference, dependent_layer, independent_layer, layer, layers_section, ptl_section, ols_section}
use Rattle.vps_definition.specs.Layout.{entry_length, ids_from, behind_slots, fifths}
use Rattle.vps_laws.specs.Keeps.{Keeps, Below, numbers_append, keeps_any, keeps_so, keeps_test, keeps_done, keeps_u, keeps_ue, keeps_ue_if, keeps_ue_minus1, keeps_inferred, keeps_check, keeps_general_if, keeps_u_minus1}
use Rattle.vps_laws.proofs.Keeps.{keeps_bind, keeps_u_if}
use Rattle.vps_laws.specs.Indices.{Long, long_append, long_one, long_done, long_ue_if, long_ue, long_inferred, long_check, long_nothing, RisingFrom, Entry, Inside, Buffers, Timing}

pub long_bind : {A B : Type 0} {a b : ℕ} {m : Syntax A} {f : A → Syntax B} → Long a m → ((x : A) → Long b (f x)) → Long (a + b) (m >>= f)
long_bind {a = a} {b = b} M F = record { long = keeps_bind M.long (λ x t e. keeps_so (F x).long (λ y l g. long_append t l a b e g)) }

pub long_u : (w : ℕ) → Long 1 (u w)
long_u w = long_one (keeps_so (keeps_u w) (λ a t h. h.0))

pub long_u_if : (b : Bool) (w v : ℕ) → Long 1 (u_if b w v)
long_u_if b w v = long_one (keeps_so (keeps_u_if b w v) (λ a t h. h.0))

pub long_loop : {A : Type 0} {f : ℕ → A → Syntax A} (k n i : ℕ) (x : A) → ((i : ℕ) (x : A) → Long k (f i x)) → Long (n * k) (loop f n i x)
unfolding loop
long_loop k zero i x F = subst (λ (n : ℕ). Long n (done x)) (omega arith) long_done
long_loop {f = f} k (suc n) i x F = subst (λ (m : ℕ). Long m (loop f (suc n) i x)) (add_comm k (n * k) ∙ sym (suc-mul n k)) (long_bind (F i x) (λ y. long_loop k n (i + 1) y F))

long_references : (top i : ℕ) → Long (1 + (i * 2 + 0)) (dependent_layer top i)
unfolding dependent_layer direct_reference
long_references top i =
    long_bind (long_u 1) λ p.
    long_bind (long_loop 2 i 0 [] (λ j l. long_bind (long_u 1) λ d. long_bind (long_u_if _ 3 _) λ t. long_done)) λ l.
    long_bind (long_check _ _) λ c. long_done

pub long_rest : (top i independent : ℕ) → Long (1 + cond (eqb independent 0) (2 * i) 0) (test (eqb independent 0) (dependent_layer top i) independent_layer)
unfolding independent_layer
long_rest top i independent = record {
  long = keeps_test (eqb independent 0)
      (λ e. keeps_so (long_references top i).long (λ a t h. rw e (h ∙ omega arith)))
      (λ e. keeps_so (long_bind (long_inferred 0) (λ v. long_done)).long (λ a t h. rw e h));
}

keeps_entry : (h : Header) (i : ℕ) (x : Layers) → Keeps (λ y t. Entry i x y t) (layer h i x)
unfolding layer numbers
keeps_entry h i x =
    keeps_bind (keeps_u 6) λ id t₁ e₁.
    keeps_bind (keeps_check (leb x.least id) _) λ c t₂ e₂.
    keeps_bind (keeps_u_if _ 1 1) λ independent t₃ e₃.
    keeps_bind (long_rest h.max_sublayers_minus1 i independent).long λ flags t₄ e₄.
    keeps_done (entry id independent t₁ t₂ t₃ t₄ e₁.0 e₂.0 e₃.0 e₄ (leb-true x.least id e₂.1))
  where
    entry : (id independent : ℕ) (t₁ t₂ t₃ t₄ : List Token) {f : List (List ℕ)} → t₁ ≡ number id ∷ [] → t₂ ≡ [] → t₃ ≡ number independent ∷ [] → length (numbers t₄) ≡ 1 + cond (eqb independent 0) (2 * i) 0
        → x.least ≤ id → Entry i x (record { least = id + 1; refs = f }) (t₁ ++ (t₂ ++ (t₃ ++ (t₄ ++ []))))
    entry id independent t₁ t₂ t₃ t₄ a b c d l =
        let q : numbers (t₁ ++ (t₂ ++ (t₃ ++ (t₄ ++ [])))) ≡ id ∷ independent ∷ numbers t₄ = simp (a, b, c, append-nil) in
        record { id = id; independent = independent; rest = numbers t₄; is = q; size = ap length q ∙ omega arith; least = l; next = refl }

-- the ids of the layers from the i-th on
ids_rise : (h : Header) (n i : ℕ) (x : Layers) → Keeps (λ y t. (z : List ℕ) → RisingFrom x.least (ids_from n i (numbers t ++ z))) (loop (layer h) n i x)
unfolding loop ids_from
ids_rise h zero i x = keeps_done (λ z. tt)
ids_rise h (suc n) i x = keeps_bind (keeps_entry h i x) (λ y t E. keeps_so (ids_rise h n (i + 1) y) (λ b u R z. next y t u E R z))
  where
    next : (y : Layers) (t u : List Token) → Entry i x y t → ((z : List ℕ) → RisingFrom y.least (ids_from n (i + 1) (numbers u ++ z))) → (z : List ℕ) → RisingFrom x.least (ids_from (suc n) i (numbers (t ++ u) ++ z))
    next y t u E R z =
        let w : List ℕ = numbers u ++ z in
        let q : numbers (t ++ u) ++ z ≡ numbers t ++ w = ap (λ (l : List ℕ). l ++ z) (numbers_append t u) ∙ append_assoc (numbers t) (numbers u) z in
        let g : numbers t ++ w ≡ E.id ∷ E.independent ∷ (E.rest ++ w) = ap (λ (l : List ℕ). l ++ w) E.is in
        let l : entry_length i (numbers t ++ w) ≡ length (numbers t) = ap (entry_length i) g ∙ (unfold entry_length in sym E.size) in
        let d : drop (entry_length i (numbers t ++ w)) (numbers t ++ w) ≡ w = drop_at (numbers t) w _ (sym l) in
        let f : get_or (numbers t ++ w) 0 0 ≡ E.id = ap (λ (l : List ℕ). get_or l 0 0) g in
        subst⁻¹ (λ (l : List ℕ). RisingFrom x.least (ids_from (suc n) i l)) q
        (rw (f, d) (E.least, rw (← E.next) (R z)))

pub layers_rise : (h : Header) → Keeps (λ y t. (z : List ℕ) → RisingFrom 0 (ids_from h.layers 0 (numbers t ++ z))) (layers_section h)
unfolding layers_section
layers_rise h = ids_rise h h.layers 0 _

-- ── Indices ───────────────────────────────────────────────────────────
keeps_index : (size count n i : ℕ) → Keeps (λ a t. (v : ℕ) × (numbers t ≡ v ∷ []) × (v < size)) (index size count n i)
unfolding index numbers
keeps_index size count n i =
    keeps_bind (keeps_ue_if (index_coded size count) (index_inferred size i)) λ v t₁ e₁.
    keeps_so (keeps_check (ltb v size) n) λ c t₂ e₂. (v, simp (e₁.0, e₂.0), ltb-true v size e₂.1)

pub keeps_indices : (size count m n i : ℕ) (o : Unit {0}) → Keeps (λ a t. Inside size n (numbers t)) (loop (λ i x. index size count m i) n i o)
unfolding loop numbers
keeps_indices size count m zero i o = keeps_done (record { below = tt; many = refl })
keeps_indices size count m (suc n) i o =
    keeps_bind (keeps_index size count m i) (λ a t e. keeps_so (keeps_indices size count m n (i + 1) a)
    (λ b u I. subst⁻¹ (Inside size (suc n)) (numbers_append t u ∙ ap (λ (l : List ℕ). l ++ numbers u) e.1) (record { below = (e.2, I.below); many = ap suc I.many })))

-- the OLS section: the number of sets, and their PTL indices
pub keeps_ols : (ptls total : ℕ) → Keeps (λ a t. (x : List ℕ) × (numbers t ≡ total ∷ x) × Inside ptls total x) (ols_section ptls total)
unfolding ols_section numbers
keeps_ols ptls total =
    keeps_bind (keeps_inferred total) λ v t₁ e₁.
    keeps_so (keeps_indices ptls total _ total 0 tt) λ a t₂ I.
    (numbers t₂, numbers_append t₁ t₂ ∙ ap (λ (l : List Token). numbers l ++ numbers t₂) e₁.0 ∙ ap (λ (n : ℕ). n ∷ numbers t₂) e₁.1, I)

-- the PTL section begins with the number of PTLs
pub keeps_ptls : (h : Header) (total : ℕ) → Keeps (λ a t. (x : List ℕ) × (numbers t ≡ a ∷ x)) (ptl_section h total)
unfolding ptl_section numbers
keeps_ptls h total =
    keeps_bind count λ n t₁ e₁.
    keeps_bind (keeps_any (λ a t. tt {0})) λ c t₂ e₂.
    keeps_bind (keeps_any (λ a t. tt {0})) λ heads t₃ e₃.
    keeps_bind (keeps_any (λ a t. tt {0})) λ z t₄ e₄.
    keeps_bind (keeps_any (λ a t. tt {0})) λ s t₅ e₅.
    keeps_done (numbers (t₂ ++ (t₃ ++ (t₄ ++ (t₅ ++ [])))), numbers_append t₁ _ ∙ ap (λ (l : List Token). numbers l ++ numbers (t₂ ++ (t₃ ++ (t₄ ++ (t₅ ++ []))))) e₁)
  where
    count : Keeps (λ a t. t ≡ number a ∷ []) (test (eqb h.layers 1) (inferred 1) (u_minus1 8))
    count = keeps_test (eqb h.layers 1) (λ e. keeps_so (keeps_inferred 1) (λ a t h. h.0)) (λ e. keeps_so (keeps_u_minus1 8) (λ a t h. h.0))

-- ── Buffers ───────────────────────────────────────────────────────────
long_dpb_sublayer : Long 3 dpb_sublayer
unfolding dpb_sublayer
long_dpb_sublayer = long_bind long_ue λ a. long_bind (long_check _ _) λ c. long_bind long_ue λ b. long_bind (long_check _ _) λ d. long_bind long_ue λ e. long_nothing

-- a slot: its max tid, and three numbers for each sublayer
keeps_slot : (d top n flag : ℕ) → Keeps (λ a t. (v : ℕ) × (x : List ℕ) × (numbers t ≡ v ∷ x) × (length x ≡ 3 * sublayers flag v)) (per_sublayer d top n flag dpb_sublayer)
unfolding per_sublayer numbers repeat
keeps_slot d top n flag =
    keeps_bind (keeps_u_if (eqb d 0) 3 top) λ v t₁ e₁.
    keeps_bind (keeps_check (leb v top) n) λ c t₂ e₂.
    keeps_so (long_loop 3 (sublayers flag v) 0 tt (λ i x. long_dpb_sublayer)).long λ a t₃ e₃.
    (v, numbers t₃, simp (e₁.0, e₂.0), e₃ ∙ omega arith)

slots_passed : (d top m flag n i : ℕ) (o : Unit {0}) → Keeps (λ a t. (z : List ℕ) → behind_slots flag n (numbers t ++ z) ≡ z) (loop (λ i x. per_sublayer d top m flag dpb_sublayer) n i o)
unfolding loop behind_slots numbers
slots_passed d top m flag zero i o = keeps_done (λ z. refl)
slots_passed d top m flag (suc n) i o = keeps_bind (keeps_slot d top m flag) (λ a t e. keeps_so (slots_passed d top m flag n (i + 1) a) (λ b u R z. next t u e.0 e.1 e.2 e.3 R z))
  where
    next : (t u : List Token) (v : ℕ) (x : List ℕ) → numbers t ≡ v ∷ x → length x ≡ 3 * sublayers flag v → ((z : List ℕ) → behind_slots flag n (numbers u ++ z) ≡ z) → (z : List ℕ) → behind_slots flag (suc n) (numbers (t ++ u) ++ z) ≡ z
    next t u v x e l R z =
        let w : List ℕ = numbers u ++ z in
        let q : numbers (t ++ u) ++ z ≡ v ∷ (x ++ w) = ap (λ (l : List ℕ). l ++ z) (numbers_append t u ∙ ap (λ (l : List ℕ). l ++ numbers u) e) ∙ append_assoc (v ∷ x) (numbers u) z in
        let d : drop (1 + 3 * sublayers flag v) (v ∷ (x ++ w)) ≡ w = drop_at (v ∷ x) w (1 + 3 * sublayers flag v) (ap suc l ∙ omega arith) in
        ap (behind_slots flag (suc n)) q ∙ ap (behind_slots flag n) d ∙ R z

-- an entry: four numbers and an index
keeps_five : (slots multi i : ℕ) → Keeps (λ t x. (a b c d v : ℕ) × (numbers x ≡ a ∷ b ∷ c ∷ d ∷ v ∷ []) × (v < slots)) (ols_dpb slots multi i)
unfolding ols_dpb numbers
keeps_five slots multi i =
    keeps_bind keeps_ue λ a t₁ e₁.
    keeps_bind keeps_ue λ b t₂ e₂.
    keeps_bind (keeps_u 2) λ c t₃ e₃.
    keeps_bind keeps_ue λ d t₄ e₄.
    keeps_bind (keeps_check _ _) λ k t₅ e₅.
    keeps_so (keeps_index slots multi _ i) λ z t₆ e₆.
    (a, b, c, d, e₆.0, simp (e₁, e₂, e₃.0, e₄, e₅.0, e₆.1), e₆.2)

entries_inside : (slots multi n i : ℕ) (o : Unit {0}) → Keeps (λ a t. (z : List ℕ) → Below slots (fifths n (numbers t ++ z))) (loop (λ i x. ols_dpb slots multi i) n i o)
unfolding loop fifths
entries_inside slots multi zero i o = keeps_done (λ z. tt)
entries_inside slots multi (suc n) i o = keeps_bind (keeps_five slots multi i) (λ a t e. keeps_so (entries_inside slots multi n (i + 1) a) (λ b u R z. next t u e.0 e.1 e.2 e.3 e.4 e.5 e.6 R z))
  where
    next : (t u : List Token) (a b c d v : ℕ) → numbers t ≡ a ∷ b ∷ c ∷ d ∷ v ∷ [] → v < slots → ((z : List ℕ) → Below slots (fifths n (numbers u ++ z))) → (z : List ℕ) → Below slots (fifths (suc n) (numbers (t ++ u) ++ z))
    next t u a b c d v e l R z =
        let q : numbers (t ++ u) ++ z ≡ a ∷ b ∷ c ∷ d ∷ v ∷ (numbers u ++ z) = ap (λ (l : List ℕ). l ++ z) (numbers_append t u ∙ ap (λ (l : List ℕ). l ++ numbers u) e) in
        subst⁻¹ (λ (l : List ℕ). Below slots (fifths (suc n) l)) q (l, R z)

pub keeps_dpb : (d top multi : ℕ) → Keeps (λ flag t. Buffers flag multi (numbers t)) (dpb_section d top multi)
unfolding dpb_section numbers repeat
keeps_dpb d top multi =
    keeps_bind keeps_ue_minus1 λ slots t₁ e₁.
    keeps_bind (keeps_check _ _) λ c t₂ e₂.
    keeps_bind (keeps_general_if _ 7 1 0) λ flag t₃ e₃.
    keeps_bind (slots_passed d top _ flag slots 0 tt) λ s t₄ P.
    keeps_bind (keeps_inferred multi) λ m t₅ e₅.
    keeps_bind (entries_inside slots multi multi 0 tt) λ e t₆ I.
    keeps_done (buffers slots flag m t₁ t₂ t₃ t₄ t₅ t₆ e₁.0 e₂.0 e₃.0 P e₅.0 e₅.1 I)
  where
    buffers : (slots flag m : ℕ) (t₁ t₂ t₃ t₄ t₅ t₆ : List Token) → t₁ ≡ number slots ∷ [] → t₂ ≡ [] → t₃ ≡ [] → ((z : List ℕ) → behind_slots flag slots (numbers t₄ ++ z) ≡ z)
        → t₅ ≡ number m ∷ [] → m ≡ multi → ((z : List ℕ) → Below slots (fifths multi (numbers t₆ ++ z)))
        → Buffers flag multi (numbers (t₁ ++ (t₂ ++ (t₃ ++ (t₄ ++ (t₅ ++ (t₆ ++ [])))))))
    buffers slots flag m t₁ t₂ t₃ t₄ t₅ t₆ a b c P d f I =
        let w : List ℕ = multi ∷ numbers t₆ in
        let q : numbers (t₁ ++ (t₂ ++ (t₃ ++ (t₄ ++ (t₅ ++ (t₆ ++ [])))))) ≡ slots ∷ (numbers t₄ ++ w) = simp (a, b, c, d, f, append-nil, numbers_append) in
        record {
          slots = slots;
          rest = numbers t₄ ++ w;
          is = q;
          entries = numbers t₆;
          behind = λ z. ap (behind_slots flag slots) (append_assoc (numbers t₄) w z) ∙ P (w ++ z);
          inside = I;
        }

-- ── Timing ────────────────────────────────────────────────────────────
pub long_general_timing_hrd : Long 11 general_timing_hrd
unfolding general_timing_hrd
long_general_timing_hrd =
    long_bind (long_u 32) λ a. long_bind (long_u 32) λ b. long_bind (long_u 1) λ c. long_bind (long_u 1) λ d. long_bind (long_check _ _) λ e. long_bind (long_u_if _ 1 0) λ f.
    long_bind (long_u_if _ 1 0) λ g. long_bind (long_u_if _ 8 0) λ h. long_bind (long_u_if _ 4 0) λ i. long_bind (long_u_if _ 4 0) λ j. long_bind (long_u_if _ 4 0) λ k.
    long_bind (long_ue_if _ 0) λ l. long_bind (long_check _ _) λ m. long_done

pub keeps_timing : (d top multi : ℕ) → Keeps (λ a t. Timing multi (numbers t)) (timing_section d top multi)
unfolding timing_section numbers
keeps_timing d top multi =
    keeps_bind long_general_timing_hrd.long λ hrd t₁ e₁.
    keeps_bind (keeps_u_if _ 1 0) λ flag t₂ e₂.
    keeps_bind keeps_ue_minus1 λ entries t₃ e₃.
    keeps_bind (keeps_check _ _) λ c t₄ e₄.
    keeps_bind (keeps_any (λ a t. tt {0})) λ e t₅ e₅.
    keeps_so (keeps_indices entries multi _ multi 0 tt) λ a t₆ I.
    timing flag entries t₁ t₂ t₃ t₄ t₅ t₆ e₁ e₂.0 e₃.0 e₄.0 I
  where
    timing : (flag entries : ℕ) (t₁ t₂ t₃ t₄ t₅ t₆ : List Token) → length (numbers t₁) ≡ 11 → t₂ ≡ number flag ∷ [] → t₃ ≡ number entries ∷ [] → t₄ ≡ [] → Inside entries multi (numbers t₆)
        → Timing multi (numbers (t₁ ++ (t₂ ++ (t₃ ++ (t₄ ++ (t₅ ++ t₆))))))
    timing flag entries t₁ t₂ t₃ t₄ t₅ t₆ l a b c I =
        let g : List ℕ = numbers t₁ ++ (flag ∷ []) in
        let n : length g ≡ 12 = length-append (numbers t₁) (flag ∷ []) ∙ omega arith in
        let q : numbers (t₁ ++ (t₂ ++ (t₃ ++ (t₄ ++ (t₅ ++ t₆))))) ≡ (g ++ (entries ∷ numbers t₅)) ++ numbers t₆ = simp (a, b, c, numbers_append, append_assoc) in
        record {
          entries = entries;
          front = g ++ (entries ∷ numbers t₅);
          indices = numbers t₆;
          is = q;
          count = λ z. ap (λ (l : List ℕ). get_or l 12 0) (append_assoc g (entries ∷ numbers t₅) z) ∙ get_or_at g entries (numbers t₅ ++ z) 0 12 n;
          inside = I;
        }
