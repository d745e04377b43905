-- Stuffing of bytes behind which more may follow: no 03 stands at the end yet.
use Rattle.std.specs.Prelude.{ℕ, ◌+◌, ◌*◌, ◌/◌, ◌≤◌, List, [], ◌∷◌, ◌++◌, ◌≡◌, refl, Bool, true, false, cond, length}
use Rattle.std.proofs.Common.{append_assoc, append-nil, sym, ap, ◌∙◌, add-zero, arith, length-append}
use Rattle.std.proofs.lemmas.List.Edits.{sets}
use Rattle.lists.specs.Stored.{sets_append}
use Rattle.stuffing.specs.Stuffing.{guarded, added, zeros_added, stuff_behind, stuff}
use Rattle.stuffing.specs.Laws.{stuff_length}

-- bytes behind z zeros, without the end
unfoldable pub stuffing_so_far : ℕ → List ℕ → List ℕ
stuffing_so_far z [] = []
stuffing_so_far z (b ∷ s) = added z b ++ stuffing_so_far (zeros_added z b) s

-- the zeros that they end in
unfoldable pub zeros_so_far : ℕ → List ℕ → ℕ
zeros_so_far z [] = z
zeros_so_far z (b ∷ s) = zeros_so_far (zeros_added z b) s

-- whatever follows is stuffed behind those zeros
pub so_far_append : (z : ℕ) (x y : List ℕ) → stuffing_so_far z (x ++ y) ≡ stuffing_so_far z x ++ stuffing_so_far (zeros_so_far z x) y
unfolding stuffing_so_far zeros_so_far
so_far_append z [] y = refl
so_far_append z (b ∷ x) y =
    rw (so_far_append (zeros_added z b) x y)
    (sym (append_assoc (added z b) (stuffing_so_far (zeros_added z b) x) (stuffing_so_far (zeros_so_far (zeros_added z b) x) y)))

pub zeros_append : (z : ℕ) (x y : List ℕ) → zeros_so_far z (x ++ y) ≡ zeros_so_far (zeros_so_far z x) y
unfolding zeros_so_far
zeros_append z [] y = refl
zeros_append z (b ∷ x) y = zeros_append (zeros_added z b) x y

stuff_append : (z : ℕ) (x y : List ℕ) → stuff_behind z (x ++ y) ≡ stuffing_so_far z x ++ stuff_behind (zeros_so_far z x) y
unfolding stuff_behind stuffing_so_far zeros_so_far
stuff_append z [] y = refl
stuff_append z (b ∷ x) y =
    rw (stuff_append (zeros_added z b) x y)
    (sym (append_assoc (added z b) (stuffing_so_far (zeros_added z b) x) (stuff_behind (zeros_so_far (zeros_added z b) x) y)))

-- the whole is that and the end
pub stuff_ends : (x : List ℕ) → stuff x ≡ stuffing_so_far 0 x ++ stuff_behind (zeros_so_far 0 x) []
unfolding stuff
stuff_ends x = ap (stuff_behind 0) (sym (append-nil x)) ∙ stuff_append 0 x []

pub so_far_length : (x : List ℕ) → length (stuffing_so_far 0 x) ≤ length x + length x / 2
so_far_length x = omega (arith, stuff_length x, ap length (stuff_ends x), length-append (stuffing_so_far 0 x) (stuff_behind (zeros_so_far 0 x) []))

-- each byte stands there with at most one 03
added_short : (z b : ℕ) → length (added z b) ≤ 2
added_short z b = go (guarded z b) where
  go : (t : Bool) → length {A = ℕ} (cond t (3 ∷ b ∷ []) (b ∷ [])) ≤ 2
  go true = omega arith
  go false = omega arith

pub so_far_short : (z : ℕ) (x : List ℕ) → length (stuffing_so_far z x) ≤ 2 * length x
unfolding stuffing_so_far
so_far_short z [] = omega arith
so_far_short z (b ∷ x) = omega (arith, added_short z b, so_far_short (zeros_added z b) x, length-append (added z b) (stuffing_so_far (zeros_added z b) x))

-- ── Stored in an output ───────────────────────────────────────────────
-- the bytes x were stored where they fit, behind z zeros and from place n on; now z' zeros and place n' are reached
pub record Stuffed (z n : ℕ) (out x : List ℕ) (z' n' : ℕ) (out' : List ℕ) : Type 0 where
  pub ends : z' ≡ zeros_so_far z x
  pub long : n' ≡ n + length (stuffing_so_far z x)
  pub stored : out' ≡ sets out n (stuffing_so_far z x)

-- what is stored behind other bytes is stored with them
pub sets_behind : (l : List ℕ) (i : ℕ) (vs ws : List ℕ) {l' : List ℕ} {i' : ℕ} → l' ≡ sets l i vs → i' ≡ i + length vs → sets l' i' ws ≡ sets l i (vs ++ ws)
sets_behind l i vs ws {l'} {i'} e f = ap (λ (x : List ℕ). sets x i' ws) e ∙ ap (λ (k : ℕ). sets (sets l i vs) k ws) f ∙ sym (sets_append l i vs ws)

pub stuffed_none : (z n : ℕ) (out : List ℕ) → Stuffed z n out [] z n out
unfolding stuffing_so_far zeros_so_far
stuffed_none z n out = record { ends = refl; long = sym (add-zero n); stored = refl }

-- bytes behind others
pub stuffed_then : {z n z₁ n₁ z₂ n₂ : ℕ} {out x out₁ y out₂ : List ℕ} → Stuffed z n out x z₁ n₁ out₁ → Stuffed z₁ n₁ out₁ y z₂ n₂ out₂ → Stuffed z n out (x ++ y) z₂ n₂ out₂
stuffed_then {z} {n} {z₁} {n₁} {z₂} {n₂} {out} {x} {out₁} {y} {out₂} p q =
    let f : List ℕ = stuffing_so_far z x in
    let g : List ℕ = stuffing_so_far (zeros_so_far z x) y in
    let e : stuffing_so_far z₁ y ≡ g = ap (λ (k : ℕ). stuffing_so_far k y) p.ends in
    let a : stuffing_so_far z (x ++ y) ≡ f ++ g = so_far_append z x y in
    record {
      ends = q.ends ∙ ap (λ (k : ℕ). zeros_so_far k y) p.ends ∙ sym (zeros_append z x y);
      long = omega (arith, p.long, q.long, ap length e, ap length a, length-append f g);
      stored = q.stored ∙ ap (sets out₁ n₁) e ∙ sets_behind out n f g p.stored p.long ∙ ap (sets out n) (sym a);
    }
