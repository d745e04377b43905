-- Where a table's numbers stand in a list: a table that was read, its parts, and the turns of its loops.
use Rattle.std.specs.Prelude.{ℕ, zero, suc, ◌+◌, ◌*◌, ◌≡◌, refl, List, [], ◌∷◌, ◌++◌, Bool, true, false, get_or, drop}
use Rattle.std.proofs.Common.{sym, ap, ◌∙◌, append_assoc, add-zero, suc-mul, arith, drop_at, drop-drop, get_or-drop}
use Rattle.vps_definition.specs.Syntax.{Syntax, Token, numbers, run}
use Rattle.vps_definition.specs.Syntax.Syntax.{test, done}
use Rattle.vps_definition.specs.Syntax.Token.{number}
use Rattle.vps_definition.specs.Syntax.Outcome.{accepted}
use Rattle.vps_definition.specs.Views.{again}
use Rattle.vps_laws.specs.Keeps.{Keeps, numbers_append, keeps_so, keeps_done}
use Rattle.vps_laws.specs.Indices.{Long}

-- the numbers that a reading of m with result a kept stand at the front of y, and z behind them
pub record ReadAt {A : Type 0} (m : Syntax A) (a : A) (y z : List ℕ) : Type 0 where
  pub source : List ℕ
  pub at : ℕ
  pub tokens : List Token
  pub next : ℕ
  pub read : run m source at ≡ accepted a tokens next
  pub is : y ≡ numbers tokens ++ z

-- what a reading keeps stands before whatever comes behind
pub keeps_read : {A : Type 0} {m : Syntax A} → Keeps (λ a t. (z : List ℕ) → ReadAt m a (numbers t ++ z) z) m
keeps_read = record { holds = λ s at e z. record { source = s; at = at; tokens = _; next = _; read = e; is = refl } }

-- ── What follows of a table that was read ─────────────────────────────
-- each fact of its result and its tokens
pub read_keeps : {A : Type 0} {Q : A → List Token → Type 0} {m : Syntax A} {a : A} {y z : List ℕ} → Keeps Q m → (R : ReadAt m a y z) → Q a R.tokens
read_keeps K R = K.holds R.source R.at R.read

-- of a table that keeps its result alone, the result is the first number
pub read_first : {m : Syntax ℕ} {a : ℕ} {y z : List ℕ} → Keeps (λ v t. t ≡ number v ∷ []) m → ReadAt m a y z → get_or y 0 0 ≡ a
unfolding numbers
read_first {z} M R = ap (λ (x : List ℕ). get_or x 0 0) (R.is ∙ ap (λ (t : List Token). numbers t ++ z) (read_keeps M R))

pub read_test : {A : Type 0} (b : Bool) {m n : Syntax A} {a : A} {y z : List ℕ} → b ≡ true → ReadAt (test b m n) a y z → ReadAt m a y z
unfolding run
read_test true e R = record { source = R.source; at = R.at; tokens = R.tokens; next = R.next; read = R.read; is = R.is }
read_test false e R = absurd (let n : ◌≡◌ {A = ℕ} 0 1 = cc in omega arith)

pub read_else : {A : Type 0} (b : Bool) {m n : Syntax A} {a : A} {y z : List ℕ} → b ≡ false → ReadAt (test b m n) a y z → ReadAt n a y z
unfolding run
read_else true e R = absurd (let n : ◌≡◌ {A = ℕ} 0 1 = cc in omega arith)
read_else false e R = record { source = R.source; at = R.at; tokens = R.tokens; next = R.next; read = R.read; is = R.is }

pub read_done : {A : Type 0} {a b : A} {y z : List ℕ} → ReadAt (done a) b y z → (a ≡ b) × (y ≡ z)
unfolding numbers
read_done {a} {z} R =
    let K : (a ≡ _) × (R.tokens ≡ []) = read_keeps (keeps_done {Q = λ b t. (a ≡ b) × (t ≡ [])} (refl, refl)) R in
    (K.0, R.is ∙ ap (λ (t : List Token). numbers t ++ z) K.1)

-- ── Past a table ──────────────────────────────────────────────────────
-- `step` goes from a table's numbers to what stands behind them
pub record Passes {A : Type 0} (step : List ℕ → List ℕ) (m : Syntax A) : Type 0 where
  pub pass : Keeps (λ a t. (z : List ℕ) → step (numbers t ++ z) ≡ z) m

pub long_passes : {A : Type 0} {k : ℕ} {m : Syntax A} → Long k m → Passes (drop k) m
long_passes {k = k} M = record { pass = keeps_so M.long (λ a t e z. drop_at (numbers t) z k e) }

pub apart : (t u : List Token) (z : List ℕ) → numbers (t ++ u) ++ z ≡ numbers t ++ (numbers u ++ z)
apart t u z = ap (λ (x : List ℕ). x ++ z) (numbers_append t u) ∙ append_assoc (numbers t) (numbers u) z

pub again_next : (step : List ℕ → List ℕ) (n : ℕ) (y : List ℕ) → again step (suc n) y ≡ step (again step n y)
unfolding again
again_next step zero y = refl
again_next step (suc n) y = again_next step n (step y)

-- steps of one length
pub again_drop : (k n : ℕ) (y : List ℕ) → again (drop k) n y ≡ drop (n * k) y
unfolding again
again_drop k zero y = let e : 0 * k ≡ 0 = omega arith in rw e refl
again_drop k (suc n) y =
    let e : k + n * k ≡ suc n * k = omega (arith, suc-mul n k) in
    again_drop k n (drop k y) ∙ drop-drop (n * k) k y ∙ ap (λ (i : ℕ). drop i y) e

pub get_drop : (k : ℕ) (y : List ℕ) → get_or (drop k y) 0 0 ≡ get_or y k 0
get_drop k y = get_or-drop k y 0 0 ∙ ap (λ (n : ℕ). get_or y n 0) (add-zero k)

-- ── The ends of a list ────────────────────────────────────────────────
-- z is what y ends in
pub record Ends (y z : List ℕ) : Type 0 where
  pub front : List ℕ
  pub is : y ≡ front ++ z

pub read_ends : {A : Type 0} {m : Syntax A} {a : A} {y z : List ℕ} → ReadAt m a y z → Ends y z
read_ends R = record { front = numbers R.tokens; is = R.is }

pub ends_on : {x y z : List ℕ} → Ends x y → Ends y z → Ends x z
ends_on {z = z} P Q = record { front = P.front ++ Q.front; is = P.is ∙ ap (λ (l : List ℕ). P.front ++ l) Q.is ∙ sym (append_assoc P.front Q.front z) }
