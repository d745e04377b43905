-- References and sets by number: the flags that the tables end in stand at fixed places of their sections.
use Rattle.std.specs.Prelude.{ℕ, zero, suc, ◌+◌, ◌*◌, ◌≡◌, refl, cond, leb, eqb, length, get_or, take, drop}
use Rattle.std.proofs.Common.{sym, ◌∙◌, arith, take_at, drop_at}
use Rattle.std.proofs.Math.Path.{ap}
use mathlib.Core.List.{List, [], ◌∷◌, ◌++◌, append_assoc, append-nil}
use Rattle.vps_definition.specs.Syntax.{Token, numbers}
use Rattle.vps_definition.specs.Syntax.Syntax.{mark, test}
use Rattle.vps_definition.specs.Syntax.Token.{number}
use Rattle.vps_definition.specs.Words.{u, loop}
use Rattle.vps_definition.specs.OutputLayerSets.{Sets}
use Rattle.vps_definition.specs.OutputLayerSets.Sets.{each_layer, up_to, chosen}
use Rattle.vps_definition.specs.Vps.{Header, Layers, direct_reference, dependent_layer, independent_layer, layer, layers_section, output_flag, row, rows_section, no_rows, sets_section}
use Rattle.vps_definition.specs.Layout.{entry_length, firsts, flags_in, flags_from, rows_from, sets_in}
use Rattle.vps_laws.specs.Keeps.{Keeps, numbers_append, keeps_so, keeps_both, keeps_test, keeps_mark, keeps_keep, keeps_done, keeps_u, keeps_u_minus1, keeps_check, keeps_general_if, keeps_inferred}
use Rattle.vps_laws.proofs.Keeps.{keeps_bind, keeps_u_if}
use Rattle.vps_laws.proofs.Indices.{long_rest}
use Rattle.vps_laws.specs.ByNumber.{apart, LayerKept}

-- ── References ────────────────────────────────────────────────────────
keeps_direct : (p top j : ℕ) (flags : List ℕ) → Keeps (λ l t. (v w : ℕ) × (numbers t ≡ v ∷ w ∷ []) × (l ≡ flags ++ (v ∷ []))) (direct_reference p top j flags)
unfolding direct_reference numbers
keeps_direct p top j flags = keeps_bind (keeps_u 1) λ v t₁ e₁. keeps_bind (keeps_u_if _ 3 _) λ w t₂ e₂. keeps_done (v, w, simp (e₁.0, e₂.0), refl)

firsts_kept : (p top n j : ℕ) (flags : List ℕ) → Keeps (λ l t. (z : List ℕ) → l ≡ flags ++ firsts n (numbers t ++ z)) (loop (direct_reference p top) n j flags)
unfolding loop firsts
firsts_kept p top zero j flags = keeps_done (λ z. sym (append-nil flags))
firsts_kept p top (suc n) j flags = keeps_bind (keeps_direct p top j flags) (λ l t e. keeps_so (firsts_kept p top n (j + 1) l) (λ b u R z. next l b t u e.0 e.1 e.2 e.3 R z))
  where
    next : (l b : List ℕ) (t u : List Token) (v w : ℕ) → numbers t ≡ v ∷ w ∷ [] → l ≡ flags ++ (v ∷ []) → ((z : List ℕ) → b ≡ l ++ firsts n (numbers u ++ z)) → (z : List ℕ) → b ≡ flags ++ firsts (suc n) (numbers (t ++ u) ++ z)
    next l b t u v w e f R z =
        let y : List ℕ = numbers u ++ z in
        let q : numbers (t ++ u) ++ z ≡ v ∷ w ∷ y = apart t u z ∙ ap (λ (x : List ℕ). x ++ y) e in
        R z ∙ ap (λ (x : List ℕ). x ++ firsts n y) f ∙ append_assoc flags (v ∷ []) (firsts n y) ∙ ap (λ (x : List ℕ). flags ++ firsts (suc n) x) (sym q)

dependent_kept : (top i : ℕ) → Keeps (λ l t. (z : List ℕ) → l ≡ firsts i (drop 1 (numbers t ++ z))) (dependent_layer top i)
unfolding dependent_layer
dependent_kept top i =
    keeps_bind (keeps_u 1) λ p t₁ e₁.
    keeps_bind (firsts_kept p top i 0 []) λ l t₂ R.
    keeps_bind (keeps_check _ _) λ c t₃ e₃.
    keeps_done (λ z. R z ∙ ap (λ (x : List ℕ). firsts i (drop 1 x)) (sym (front p t₁ t₂ t₃ z e₁.0 e₃.0)))
  where
    front : (p : ℕ) (t₁ t₂ t₃ : List Token) (z : List ℕ) → t₁ ≡ number p ∷ [] → t₃ ≡ [] → numbers (t₁ ++ (t₂ ++ (t₃ ++ []))) ++ z ≡ p ∷ (numbers t₂ ++ z)
    front p t₁ t₂ t₃ z a b = unfold numbers in simp (a, b, append-nil)

rest_kept : (top i independent : ℕ) → Keeps (λ l t. (z : List ℕ) → l ≡ cond (eqb independent 0) (firsts i (drop 1 (numbers t ++ z))) []) (test (eqb independent 0) (dependent_layer top i) independent_layer)
unfolding independent_layer
rest_kept top i independent = keeps_test (eqb independent 0)
    (λ e. keeps_so (dependent_kept top i) (λ l t R z. R z ∙ rw e refl))
    (λ e. keeps_bind (keeps_inferred 0) (λ v t h. keeps_done (λ z. rw e refl)))

layer_kept : (h : Header) (i : ℕ) (x : Layers) → Keeps (λ y t. (z : List ℕ) → LayerKept i x y t z) (layer h i x)
unfolding layer numbers flags_in entry_length
layer_kept h i x =
    keeps_bind (keeps_u 6) λ id t₁ e₁.
    keeps_bind (keeps_check (leb x.least id) _) λ c t₂ e₂.
    keeps_bind (keeps_u_if _ 1 1) λ independent t₃ e₃.
    keeps_bind (keeps_both (rest_kept h.max_sublayers_minus1 i independent) (long_rest h.max_sublayers_minus1 i independent).long) λ flags t₄ e₄.
    keeps_done (kept id independent flags t₁ t₂ t₃ t₄ e₁.0 e₂.0 e₃.0 e₄.0 e₄.1)
  where
    kept : (id independent : ℕ) (flags : List ℕ) (t₁ t₂ t₃ t₄ : List Token) → t₁ ≡ number id ∷ [] → t₂ ≡ [] → t₃ ≡ number independent ∷ []
        → ((z : List ℕ) → flags ≡ cond (eqb independent 0) (firsts i (drop 1 (numbers t₄ ++ z))) []) → length (numbers t₄) ≡ 1 + cond (eqb independent 0) (2 * i) 0
        → (z : List ℕ) → LayerKept i x (record { least = id + 1; refs = x.refs ++ (flags ∷ []) }) (t₁ ++ (t₂ ++ (t₃ ++ (t₄ ++ [])))) z
    kept id independent flags t₁ t₂ t₃ t₄ a b c R l z =
        let q : numbers (t₁ ++ (t₂ ++ (t₃ ++ (t₄ ++ [])))) ++ z ≡ id ∷ independent ∷ (numbers t₄ ++ z) = simp (a, b, c, append-nil) in
        record {
          refs = ap (λ (f : List ℕ). x.refs ++ (f ∷ [])) (R z ∙ ap (flags_in i) (sym q));
          behind = ap (λ (y : List ℕ). drop (entry_length i y) y) q ∙ drop_at (id ∷ independent ∷ numbers t₄) z (3 + cond (eqb independent 0) (2 * i) 0) (omega (arith, l));
        }

flags_kept : (h : Header) (n i : ℕ) (x : Layers) → Keeps (λ y t. (z : List ℕ) → y.refs ≡ x.refs ++ flags_from n i (numbers t ++ z)) (loop (layer h) n i x)
unfolding loop flags_from
flags_kept h zero i x = keeps_done (λ z. sym (append-nil x.refs))
flags_kept h (suc n) i x = keeps_bind (layer_kept h i x) (λ y t e. keeps_so (flags_kept h n (i + 1) y) (λ b u R z. next y b t u z (e (numbers u ++ z)) (R z)))
  where
    next : (y b : Layers) (t u : List Token) (z : List ℕ) → LayerKept i x y t (numbers u ++ z) → b.refs ≡ y.refs ++ flags_from n (i + 1) (numbers u ++ z)
        → b.refs ≡ x.refs ++ flags_from (suc n) i (numbers (t ++ u) ++ z)
    next y b t u z E R =
        let w : List ℕ = numbers u ++ z in
        R ∙ ap (λ (l : List (List ℕ)). l ++ flags_from n (i + 1) w) E.refs ∙ append_assoc x.refs (flags_in i (numbers t ++ w) ∷ []) (flags_from n (i + 1) w)
        ∙ ap (λ (l : List ℕ). x.refs ++ (flags_in i (numbers t ++ w) ∷ flags_from n (i + 1) l)) (sym E.behind)
        ∙ ap (λ (l : List ℕ). x.refs ++ flags_from (suc n) i l) (sym (apart t u z))

pub layers_flags : (h : Header) → Keeps (λ y t. (z : List ℕ) → y.refs ≡ flags_from h.layers 0 (numbers t ++ z)) (layers_section h)
unfolding layers_section
layers_flags h = flags_kept h h.layers 0 _

-- ── Rows ──────────────────────────────────────────────────────────────
-- flags behind those before them
flags_row : (n j : ℕ) (flags : List ℕ) → Keeps (λ l t. (l ≡ flags ++ numbers t) × (length (numbers t) ≡ n)) (loop output_flag n j flags)
unfolding loop output_flag numbers
flags_row zero j flags = keeps_done (sym (append-nil flags), refl)
flags_row (suc n) j flags =
    keeps_bind one λ l t e.
    keeps_so (flags_row n (j + 1) l) λ b u R. next e.0 l b t u e.1 e.2 R.0 R.1
  where
    one : Keeps (λ l t. (v : ℕ) × (l ≡ flags ++ (v ∷ [])) × (numbers t ≡ v ∷ [])) (output_flag j flags)
    one = keeps_bind (keeps_u 1) λ v t₁ e₁. keeps_done (v, refl, simp e₁.0)

    next : (v : ℕ) (l b : List ℕ) (t u : List Token) → l ≡ flags ++ (v ∷ []) → numbers t ≡ v ∷ [] → b ≡ l ++ numbers u → length (numbers u) ≡ n → (b ≡ flags ++ numbers (t ++ u)) × (length (numbers (t ++ u)) ≡ suc n)
    next v l b t u a e f g =
        let q : numbers (t ++ u) ≡ v ∷ numbers u = numbers_append t u ∙ ap (λ (x : List ℕ). x ++ numbers u) e in
        (f ∙ ap (λ (x : List ℕ). x ++ numbers u) a ∙ append_assoc flags (v ∷ []) (numbers u) ∙ ap (λ (x : List ℕ). flags ++ x) (sym q), ap length q ∙ ap suc g)

row_kept : (n i : ℕ) (rows : List (List ℕ)) → Keeps (λ l t. (l ≡ rows ++ (numbers t ∷ [])) × (length (numbers t) ≡ n)) (row n i rows)
unfolding row
row_kept n i rows =
    keeps_bind (flags_row n 0 []) λ flags t₁ e₁.
    keeps_bind (keeps_check _ _) λ c t₂ e₂.
    keeps_done (kept flags t₁ t₂ e₁.0 e₁.1 e₂.0)
  where
    kept : (flags : List ℕ) (t₁ t₂ : List Token) → flags ≡ numbers t₁ → length (numbers t₁) ≡ n → t₂ ≡ [] → (rows ++ (flags ∷ []) ≡ rows ++ (numbers (t₁ ++ (t₂ ++ [])) ∷ [])) × (length (numbers (t₁ ++ (t₂ ++ []))) ≡ n)
    kept flags t₁ t₂ a l e =
        let q : t₁ ++ (t₂ ++ []) ≡ t₁ = simp (e, append-nil) in
        (ap (λ (f : List ℕ). rows ++ (f ∷ [])) (a ∙ sym (ap numbers q)), ap (λ (t : List Token). length (numbers t)) q ∙ l)

rows_kept : (n k i : ℕ) (rows : List (List ℕ)) → Keeps (λ l t. (z : List ℕ) → l ≡ rows ++ rows_from n k (numbers t ++ z)) (loop (row n) k i rows)
unfolding loop rows_from
rows_kept n zero i rows = keeps_done (λ z. sym (append-nil rows))
rows_kept n (suc k) i rows = keeps_bind (row_kept n i rows) (λ l t e. keeps_so (rows_kept n k (i + 1) l) (λ b u R z. next l b t u z e.0 e.1 (R z)))
  where
    next : (l b : List (List ℕ)) (t u : List Token) (z : List ℕ) → l ≡ rows ++ (numbers t ∷ []) → length (numbers t) ≡ n → b ≡ l ++ rows_from n k (numbers u ++ z) → b ≡ rows ++ rows_from n (suc k) (numbers (t ++ u) ++ z)
    next l b t u z a e R =
        let w : List ℕ = numbers u ++ z in
        R ∙ ap (λ (x : List (List ℕ)). x ++ rows_from n k w) a ∙ append_assoc rows (numbers t ∷ []) (rows_from n k w)
        ∙ ap (λ (x : List ℕ). rows ++ (x ∷ rows_from n k w)) (sym (take_at (numbers t) w n e))
        ∙ ap (λ (x : List ℕ). rows ++ (take n (numbers t ++ w) ∷ rows_from n k x)) (sym (drop_at (numbers t) w n e))
        ∙ ap (λ (x : List ℕ). rows ++ rows_from n (suc k) x) (sym (apart t u z))

chosen_kept : (n : ℕ) → Keeps (λ s t. (z : List ℕ) → s ≡ chosen (rows_from n (get_or (numbers t ++ z) 0 0) (drop 1 (numbers t ++ z)))) (rows_section n)
unfolding rows_section
chosen_kept n =
    keeps_bind (keeps_u_minus1 8) λ count t₁ e₁.
    keeps_bind (rows_kept n count 0 []) λ rows t₂ R.
    keeps_done (λ z. kept count rows t₁ t₂ z e₁.0 (R z))
  where
    kept : (count : ℕ) (rows : List (List ℕ)) (t₁ t₂ : List Token) (z : List ℕ) → t₁ ≡ number count ∷ [] → rows ≡ rows_from n count (numbers t₂ ++ z)
        → chosen rows ≡ chosen (rows_from n (get_or (numbers (t₁ ++ (t₂ ++ [])) ++ z) 0 0) (drop 1 (numbers (t₁ ++ (t₂ ++ [])) ++ z)))
    kept count rows t₁ t₂ z e R =
        let q : numbers (t₁ ++ (t₂ ++ [])) ++ z ≡ count ∷ (numbers t₂ ++ z) = unfold numbers in simp (e, append-nil) in
        ap chosen R ∙ ap (λ (x : List ℕ). chosen (rows_from n (get_or x 0 0) (drop 1 x))) (sym q)

pub sets_numbers : (h : Header) → Keeps (λ s t. (z : List ℕ) → s.sets ≡ sets_in h.layers s.each_layer_flag s.mode_idc (numbers t ++ z)) (sets_section h)
unfolding sets_section
sets_numbers h =
    keeps_bind (keeps_general_if _ 5 1 _) λ e t₁ e₁.
    keeps_bind (keeps_general_if _ 6 2 2) λ m t₂ e₂.
    keeps_bind (keeps_check _ _) λ c t₃ e₃.
    keeps_bind (marked e m) λ s t₄ R.
    keeps_done (λ z. R z ∙ ap (λ (x : List ℕ). sets_in h.layers e m x) (sym (joined t₁ t₂ t₃ t₄ z e₁.0 e₂.0 e₃.0)))
  where
    joined : (t₁ t₂ t₃ t₄ : List Token) (z : List ℕ) → t₁ ≡ [] → t₂ ≡ [] → t₃ ≡ [] → numbers (t₁ ++ (t₂ ++ (t₃ ++ (t₄ ++ [])))) ++ z ≡ numbers t₄ ++ z
    joined t₁ t₂ t₃ t₄ z a b c = ap (λ (t : List Token). numbers t ++ z) (simp (a, b, c, append-nil))

    none : (sets : Sets) → Keeps (λ s t. s ≡ sets) (no_rows sets)
    none sets = unfold no_rows in keeps_keep (keeps_done refl)

    given : (e m : ℕ) → Keeps (λ s t. (z : List ℕ) → s ≡ sets_in h.layers e m (numbers t ++ z)) (test (eqb e 0) (test (eqb m 2) (rows_section h.layers) (no_rows up_to)) (no_rows each_layer))
    given e m = unfold sets_in in keeps_test (eqb e 0)
        (λ q. keeps_test (eqb m 2) (λ p. keeps_so (chosen_kept h.layers) (λ s t R z. R z ∙ rw (q, p) refl)) (λ p. keeps_so (none up_to) (λ s t i z. i ∙ rw (q, p) refl)))
        (λ q. keeps_so (none each_layer) (λ s t i z. i ∙ rw q refl))

    marked : (e m : ℕ) → Keeps (λ s t. (z : List ℕ) → s ≡ sets_in h.layers e m (numbers t ++ z)) (mark (test (eqb e 0) (test (eqb m 2) (rows_section h.layers) (no_rows up_to)) (no_rows each_layer)))
    marked e m = unfold numbers in keeps_mark (given e m)
