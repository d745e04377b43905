-- What a table keeps, and what it ends in: facts of every reading that is accepted.
use Rattle.std.specs.Prelude.{ℕ, zero, suc, ◌+◌, ◌^◌, ◌<◌, ◌≡◌, refl, List, [], ◌∷◌, ◌++◌, Bool, true, false}
use Rattle.std.proofs.Common.{sym, subst, subst₂, append_assoc, append-nil, zero-add, arith}
use Rattle.std.proofs.Math.Path.{subst⁻¹}
use Rattle.vps_definition.specs.Syntax.{Syntax, ◌>>=◌, Token}
use Rattle.vps_definition.specs.Syntax.Token.{number}
use Rattle.vps_definition.specs.Words.{u_if, loop, repeat}
use Rattle.vps_laws.proofs.Bind.{run_bound}
use Rattle.vps_laws.specs.Keeps.{Keeps, Returns, keeps_so, keeps_mark, keeps_test, keeps_done, keeps_u, keeps_inferred, clash}

-- ── Tables in a row ───────────────────────────────────────────────────
-- what the first keeps, and then what the second does
pub keeps_bind : {A B : Type 0} {Q : A → List Token → Type 0} {P : B → List Token → Type 0} {m : Syntax A} {f : A → Syntax B}
    → Keeps Q m → ((a : A) (x : List Token) → Q a x → Keeps (λ b y. P b (x ++ y)) (f a)) → Keeps P (m >>= f)
keeps_bind {P} {m} {f} M F = record {
  holds = λ s at e.
      let B = run_bound m f s at e in
      subst⁻¹ (P _) B.both ((F B.result B.before (M.holds s at B.first)).holds s B.middle B.second);
}

-- the result is that of the second
pub returns_bind : {A B : Type 0} {Q : B → Type 0} (m : Syntax A) {f : A → Syntax B} → ((a : A) → Returns Q (f a)) → Returns Q (m >>= f)
returns_bind m {f} F = record { holds = λ s at e. let B = run_bound m f s at e in (F B.result).holds s B.middle B.second }

-- what a table ends in, where its last step shows it, by `search results depth 40`
pub ruleset results = (returns_bind, keeps_mark, keeps_done)

-- coded or inferred
pub keeps_u_if : (b : Bool) (w v : ℕ) → Keeps (λ a t. (t ≡ number a ∷ []) × (b ≡ true → a < 2 ^ w) × (b ≡ false → a ≡ v)) (u_if b w v)
unfolding u_if
keeps_u_if b w v = keeps_test b (λ e. keeps_so (keeps_u w) (λ a t h. (h.0, λ f. h.1, λ f. clash e f))) (λ e. keeps_so (keeps_inferred v) (λ a t h. (h.0, λ f. clash f e, λ f. h.1)))

-- ── Loops ─────────────────────────────────────────────────────────────
-- I, of the index, the state and the tokens kept so far, holds at first, and each turn below the last keeps it
pub keeps_loop : {A : Type 0} {f : ℕ → A → Syntax A} (I : ℕ → A → List Token → Type 0) (n i : ℕ) (x : A) → I i x []
    → ((j : ℕ) (y : A) (t : List Token) → j < i + n → I j y t → Keeps (λ z l. I (j + 1) z (t ++ l)) (f j y)) → Keeps (I (i + n)) (loop f n i x)
unfolding loop
keeps_loop {A} {f} I n i x h F = go n i x [] refl h
  where
    go : (k j : ℕ) (y : A) (t : List Token) → j + k ≡ i + n → I j y t → Keeps (λ z l. I (i + n) z (t ++ l)) (loop f k j y)
    go zero j y t e h = keeps_done (let q : j ≡ i + n = omega arith in subst₂ (λ (j : ℕ) (t : List Token). I j y t) q (sym (append-nil t)) h)
    go (suc k) j y t e h =
        keeps_bind (F j y t (omega arith) h) (λ z x g. keeps_so (go k (j + 1) z (t ++ x) (omega arith) g) (λ b l g. subst (I (i + n) b) (append_assoc t x l) g))

pub keeps_repeat : {m : Syntax (Unit {0})} (I : ℕ → List Token → Type 0) (n : ℕ) → I 0 [] → ((j : ℕ) (t : List Token) → j < n → I j t → Keeps (λ z l. I (j + 1) (t ++ l)) m)
    → Keeps (λ z t. I n t) (repeat n m)
unfolding repeat
keeps_repeat I n h F = keeps_so (keeps_loop {A = Unit {0}} (λ i x t. I i t) n 0 tt h (λ j y t l g. F j t (omega arith) g)) (λ a t g. subst (λ (n : ℕ). I n t) (zero-add n) g)
