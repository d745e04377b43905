-- What `reaches` computes is reachability through direct references, both ways; and M in the modes without rows.
use Rattle.std.specs.Prelude.{ℕ, zero, suc, ◌+◌, ◌<◌, ◌≤◌, ltb, leb, eqb, length, get_or, List, [], ◌⊎◌, ◌≡◌, Bool, true, false, ◌&&◌, ◌||◌}
use Rattle.std.proofs.Common.{suc-le-suc, arith, eq-or-lt_of_le, le_of_suc-le-suc, add_comm, add-one, lt-ltb, inl, inr, ⊎_elim, sym, ap, ap₂, ◌∙◌}
use Rattle.std.proofs.Math.Nat.{zero-add}
use Rattle.std.proofs.Math.Dec.{leb-zero, leb-suc-zero, leb-suc-suc, eqb-zero-suc, eqb-suc-zero, eqb-suc-suc}
use Rattle.std.proofs.Math.Path.{refl}
use Rattle.std.proofs.lemmas.Bool.{false≢true}
use Rattle.lists.specs.Table.{and_both}
use Rattle.vps_definition.specs.OutputLayerSets.{any_below, digit, count_below, with_reached, reaches_in, reaches, included, Reaches, flagged, refers_by, in_set, total_num_olss, num_layers_in_ols, num_multi_layer_olss}
use Rattle.vps_definition.specs.OutputLayerSets.Reaches.{direct, through}
use Rattle.vps_definition.specs.OutputLayerSets.Sets.{each_layer, up_to, chosen}

pub any_ext : (n : ℕ) (p q : ℕ → Bool) → ((k : ℕ) → k < n → p k ≡ q k) → any_below n p ≡ any_below n q
unfolding any_below
any_ext zero p q h = refl
any_ext (suc n) p q h = ap₂ ◌||◌ (any_ext n p q (λ k l. h k (omega arith))) (h n (omega arith))

-- the two sets may differ from n on, and the rows from column m on
pub with_ext : (n : ℕ) (r s : ℕ → ℕ → Bool) (p q : ℕ → Bool) (j : ℕ)
    → p j ≡ q j → ((k : ℕ) → k < n → p k ≡ q k) → ((k : ℕ) → k < n → r k j ≡ s k j)
    → with_reached n r p j ≡ with_reached n s q j
unfolding with_reached
with_ext n r s p q j e hp hr = ap₂ ◌||◌ e (any_ext n _ _ (λ k l. ap₂ ◌&&◌ (hp k l) (hr k l)))

-- steps beyond the layer's own number change nothing
steps_same : (a b : ℕ) (d : ℕ → ℕ → Bool) (i j : ℕ) → i < a → i < b → reaches_in a d i j ≡ reaches_in b d i j
unfolding reaches_in
steps_same zero b d i j ha hb = absurd (omega arith)
steps_same (suc a) zero d i j ha hb = absurd (omega arith)
steps_same (suc a) (suc b) d i j ha hb =
    with_ext i _ _ (d i) (d i) j refl (λ k l. refl) (λ k l. steps_same a b d k j (omega arith) (omega arith))

-- the law of `reaches`: the direct layers of i, and what they reach
pub reaches_law : (d : ℕ → ℕ → Bool) (i j : ℕ) → reaches d i j ≡ with_reached i (reaches d) (d i) j
unfolding reaches reaches_in
reaches_law d i j = with_ext i _ _ (d i) (d i) j refl (λ k l. refl) (λ k l. steps_same i (suc k) d k j l (omega arith))

-- ── Against the relation itself ───────────────────────────────────────

pub or_cases : (a b : Bool) → (a || b) ≡ true → (a ≡ true) ⊎ (b ≡ true)
or_cases true b e = inl refl
or_cases false b e = inr e

or_left : (a b : Bool) → a ≡ true → (a || b) ≡ true
or_left a b e = simp e

or_right : (a b : Bool) → b ≡ true → (a || b) ≡ true
or_right true b e = refl
or_right false b e = e

pub any_some : (n : ℕ) (p : ℕ → Bool) → any_below n p ≡ true → (k : ℕ) × (k < n) × (p k ≡ true)
unfolding any_below
any_some zero p e = absurd (false≢true e)
any_some (suc n) p e = ⊎_elim
    (λ l. let r = any_some n p l in (r.0, omega (arith, r.1), r.2))
    (λ l. (n, omega arith, l))
    (or_cases (any_below n p) (p n) e)

pub any_of : (n : ℕ) (p : ℕ → Bool) (k : ℕ) → k < n → p k ≡ true → any_below n p ≡ true
unfolding any_below
any_of zero p k h e = absurd (omega arith)
any_of (suc n) p k h e = ⊎_elim
    (λ (l : k ≡ n). or_right (any_below n p) (p n) (ap p (sym l) ∙ e))
    (λ (l : k < n). or_left (any_below n p) (p n) (any_of n p k l e))
    (eq-or-lt_of_le (le_of_suc-le-suc h))

sound_in : (f : ℕ) (d : ℕ → ℕ → Bool) (i j : ℕ) → reaches_in f d i j ≡ true → Reaches d i j
unfolding reaches_in with_reached
sound_in zero d i j e = absurd (false≢true e)
sound_in (suc f) d i j e = ⊎_elim
    (λ l. direct l)
    (λ l. let r = any_some i _ l in
    let b = and_both (d i r.0) (reaches_in f d r.0 j) r.2 in
    through r.1 b.0 (sound_in f d r.0 j b.1))
    (or_cases (d i j) _ e)

pub reaches_sound : (d : ℕ → ℕ → Bool) (i j : ℕ) → reaches d i j ≡ true → Reaches d i j
unfolding reaches
reaches_sound d i j e = sound_in (suc i) d i j e

pub reaches_complete : {d : ℕ → ℕ → Bool} {i j : ℕ} → Reaches d i j → reaches d i j ≡ true
unfolding with_reached
reaches_complete {d} {i} {j} (direct e) = reaches_law d i j ∙ or_left (d i j) _ e
reaches_complete {d} {i} {j} (through {k = k} l e r) =
    reaches_law d i j ∙ or_right (d i j) _ (any_of i _ k l (ap₂ ◌&&◌ e (reaches_complete r)))

-- ── Relations that agree on the layers up to i reach the same ─────────

steps_ext : (f : ℕ) (d e : ℕ → ℕ → Bool) (i j : ℕ) → ((k : ℕ) → k ≤ i → (l : ℕ) → d k l ≡ e k l) → reaches_in f d i j ≡ reaches_in f e i j
unfolding reaches_in
steps_ext zero d e i j h = refl
steps_ext (suc f) d e i j h =
    with_ext i _ _ (d i) (e i) j (h i (omega arith) j) (λ k l. h i (omega arith) k)
    (λ k l. steps_ext f d e k j (λ m u. h m (omega arith)))

pub reaches_ext : (d e : ℕ → ℕ → Bool) (i j : ℕ) → ((k : ℕ) → k ≤ i → (l : ℕ) → d k l ≡ e k l) → reaches d i j ≡ reaches e i j
unfolding reaches
reaches_ext d e i j h = steps_ext (suc i) d e i j h

pub included_ext : (n : ℕ) (d e : ℕ → ℕ → Bool) (p q : ℕ → Bool) (j : ℕ)
    → ((k : ℕ) → k < n → (l : ℕ) → d k l ≡ e k l) → ((l : ℕ) → p l ≡ q l) → included n d p j ≡ included n e q j
unfolding included
included_ext n d e p q j h g = with_ext n _ _ p q j (g j) (λ k l. g k) (λ k l. reaches_ext d e k j (λ m u. h m (omega arith)))

-- ── What `included` means ─────────────────────────────────────────────

pub included_sound : (n : ℕ) (d : ℕ → ℕ → Bool) (p : ℕ → Bool) (j : ℕ) → included n d p j ≡ true
    → (p j ≡ true) ⊎ ((k : ℕ) × (k < n) × (p k ≡ true) × Reaches d k j)
unfolding included with_reached
included_sound n d p j e = ⊎_elim
    (λ l. inl l)
    (λ l. let r = any_some n _ l in
    let b = and_both (p r.0) (reaches d r.0 j) r.2 in
    inr (r.0, r.1, b.0, reaches_sound d r.0 j b.1))
    (or_cases (p j) _ e)

pub included_complete : (n : ℕ) (d : ℕ → ℕ → Bool) (p : ℕ → Bool) (j : ℕ)
    → (p j ≡ true) ⊎ ((k : ℕ) × (k < n) × (p k ≡ true) × Reaches d k j) → included n d p j ≡ true
unfolding included with_reached
included_complete n d p j (inl e) = or_left (p j) _ e
included_complete n d p j (inr (k, l, e, r)) = or_right (p j) _ (any_of n _ k l (ap₂ ◌&&◌ e (reaches_complete r)))

-- ── Counting ──────────────────────────────────────────────────────────
pub count_ext : (n : ℕ) (p q : ℕ → Bool) → ((j : ℕ) → j < n → p j ≡ q j) → count_below n p ≡ count_below n q
unfolding count_below
count_ext zero p q h = refl
count_ext (suc n) p q h =
    ap₂ (λ (b : Bool) (x : ℕ). digit b + x) (h 0 (omega arith)) (count_ext n _ _ (λ j l. h (suc j) (suc-le-suc l)))

pub count_none : (n : ℕ) (p : ℕ → Bool) → ((j : ℕ) → j < n → p j ≡ false) → count_below n p ≡ 0
unfolding count_below
count_none zero p h = refl
count_none (suc n) p h =
    ap₂ (λ (b : Bool) (x : ℕ). digit b + x) (h 0 (omega arith)) (count_none n _ (λ j l. h (suc j) (suc-le-suc l)))

pub count_all : (n : ℕ) (p : ℕ → Bool) → ((j : ℕ) → j < n → p j ≡ true) → count_below n p ≡ n
unfolding count_below
count_all zero p h = refl
count_all (suc n) p h =
    ap₂ (λ (b : Bool) (x : ℕ). digit b + x) (h 0 (omega arith)) (count_all n _ (λ j l. h (suc j) (suc-le-suc l)))
    ∙ add_comm 1 n ∙ add-one n

pub count_single : (n k : ℕ) → k < n → count_below n (eqb k) ≡ 1
unfolding count_below
count_single zero k h = absurd (omega arith)
count_single (suc n) zero h = ap (λ (x : ℕ). 1 + x) (count_none n _ (λ j l. eqb-zero-suc j))
count_single (suc n) (suc k) h =
    ap₂ (λ (b : Bool) (x : ℕ). digit b + x) (eqb-suc-zero k) (count_ext n _ _ (λ j l. eqb-suc-suc k j) ∙ count_single n k (le_of_suc-le-suc h))

pub count_up_to : (n i : ℕ) → i < n → count_below n (λ j. leb j i) ≡ suc i
unfolding count_below
count_up_to zero i h = absurd (omega arith)
count_up_to (suc n) zero h = ap (λ (x : ℕ). 1 + x) (count_none n _ (λ j l. leb-suc-zero j))
count_up_to (suc n) (suc i) h =
    ap₂ (λ (b : Bool) (x : ℕ). digit b + x) (leb-zero (suc i)) (count_ext n _ _ (λ j l. leb-suc-suc j i) ∙ count_up_to n i (le_of_suc-le-suc h))
    ∙ add_comm 1 (suc i) ∙ add-one (suc i)

-- ── T and M by mode ───────────────────────────────────────────────────
pub total_each_layer : (n : ℕ) → total_num_olss n each_layer ≡ n
unfolding total_num_olss
total_each_layer n = refl

pub total_up_to : (n : ℕ) → total_num_olss n up_to ≡ n
unfolding total_num_olss
total_up_to n = refl

pub total_chosen : (n : ℕ) (rows : List (List ℕ)) → total_num_olss n (chosen rows) ≡ length rows + 1
unfolding total_num_olss
total_chosen n rows = refl

-- each layer is a set: no set has several layers
pub multi_each_layer : (n : ℕ) (refs : List (List ℕ)) → num_multi_layer_olss n refs each_layer ≡ 0
unfolding num_multi_layer_olss num_layers_in_ols total_num_olss in_set
multi_each_layer n refs = count_none n _ (λ i l. ap (ltb 1) (count_single n i l))

-- modes 0 and 1: all sets but the first have several
pub multi_up_to : (n : ℕ) (refs : List (List ℕ)) → num_multi_layer_olss (suc n) refs up_to ≡ n
unfolding num_multi_layer_olss num_layers_in_ols total_num_olss in_set count_below
multi_up_to n refs =
    ap₂ (λ (b : Bool) (x : ℕ). digit b + x) (ap (ltb 1) (count_up_to (suc n) 0 (omega arith)))
    (count_all n _ (λ i l. ap (ltb 1) (count_up_to (suc n) (suc i) (omega arith)) ∙ lt-ltb 1 (suc (suc i)) (omega arith)))
    ∙ zero-add n

-- mode 2: the rows whose output layers, with all that these reach, are more than one
pub multi_chosen : (n : ℕ) (refs : List (List ℕ)) (rows : List (List ℕ))
    → num_multi_layer_olss (suc n) refs (chosen rows)
    ≡ count_below (length rows) (λ i. ltb 1 (count_below (suc n) (included (suc n) (refers_by refs) (flagged (get_or rows i [])))))
unfolding num_multi_layer_olss num_layers_in_ols total_num_olss in_set
multi_chosen n refs rows = rw (add-one (length rows)) (unfold count_below in
    (ap₂ (λ (b : Bool) (x : ℕ). digit b + x) (ap (ltb 1) (count_single (suc n) 0 (omega arith))) refl ∙ zero-add _))
