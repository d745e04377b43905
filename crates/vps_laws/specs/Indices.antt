-- What each section keeps, as its layout finds it: rising layer ids, and indices inside their tables.
use Rattle.std.specs.Prelude.{ℕ, ◌+◌, ◌*◌, ◌-◌, ◌≤◌, ◌≡◌, refl, Bool, cond, eqb, length}
use Rattle.std.proofs.Math.Path.{ap}
use Rattle.std.proofs.Common.{◌∙◌, arith, length-append}
use mathlib.Core.List.{List, [], ◌∷◌, ◌++◌}
use Rattle.std.proofs.Math.ListN.{get_or}
use Rattle.vps_definition.specs.Syntax.{Syntax, Token, numbers}
use Rattle.vps_definition.specs.Syntax.Syntax.{done}
use Rattle.vps_definition.specs.Syntax.Token.{number}
use Rattle.vps_definition.specs.Words.{ue, ue_if, inferred, check, nothing}
use Rattle.vps_definition.specs.Vps.{Layers}
use Rattle.vps_definition.specs.Layout.{behind_slots, fifths}
use Rattle.vps_laws.specs.Keeps.{Keeps, Below, numbers_append, keeps_so, keeps_done, keeps_ue, keeps_ue_if, keeps_inferred, keeps_check, keeps_nothing}

-- ── Lengths ───────────────────────────────────────────────────────────
-- so many numbers are kept
pub record Long {A : Type 0} (n : ℕ) (m : Syntax A) : Type 0 where
  pub long : Keeps (λ a t. length (numbers t) ≡ n) m

pub long_append : (t l : List Token) (a b : ℕ) → length (numbers t) ≡ a → length (numbers l) ≡ b → length (numbers (t ++ l)) ≡ a + b
long_append t l a b e f = ap length (numbers_append t l) ∙ length-append (numbers t) (numbers l) ∙ omega arith

pub long_one : {m : Syntax ℕ} → Keeps (λ a t. t ≡ number a ∷ []) m → Long 1 m
unfolding numbers
long_one M = record { long = keeps_so M (λ a t e. ap (λ (l : List Token). length (numbers l)) e) }

pub long_none : {A : Type 0} {m : Syntax A} → Keeps (λ a t. t ≡ []) m → Long 0 m
unfolding numbers
long_none M = record { long = keeps_so M (λ a t e. ap (λ (l : List Token). length (numbers l)) e) }

pub long_done : {A : Type 0} {a : A} → Long 0 (done a)
long_done = long_none (keeps_done refl)

pub long_ue_if : (b : Bool) (v : ℕ) → Long 1 (ue_if b v)
long_ue_if b v = long_one (keeps_so (keeps_ue_if b v) (λ a t h. h.0))

pub long_ue : Long 1 ue
long_ue = long_one keeps_ue

pub long_inferred : (v : ℕ) → Long 1 (inferred v)
long_inferred v = long_one (keeps_so (keeps_inferred v) (λ a t h. h.0))

pub long_check : (b : Bool) (n : ℕ) → Long 0 (check b n)
long_check b n = long_none (keeps_so (keeps_check b n) (λ a t h. h.0))

pub long_nothing : Long 0 nothing
long_nothing = long_none (keeps_nothing refl)

-- ── Layers ────────────────────────────────────────────────────────────
-- each is above the one before, the first at least n
abbrev pub RisingFrom : ℕ → List ℕ → Type 0
RisingFrom n [] = Unit {0}
RisingFrom n (a ∷ l) = (n ≤ a) × RisingFrom (a + 1) l

-- a layer's numbers: an id that is large enough, the independent flag, and as many as its entry has
pub record Entry (i : ℕ) (x y : Layers) (t : List Token) : Type 0 where
  pub id : ℕ
  pub independent : ℕ
  pub rest : List ℕ
  pub is : numbers t ≡ id ∷ independent ∷ rest
  pub size : length (numbers t) ≡ 3 + cond (eqb independent 0) (2 * i) 0
  pub least : x.least ≤ id
  pub next : y.least ≡ id + 1

-- so many indices, all inside
pub record Inside (size count : ℕ) (x : List ℕ) : Type 0 where
  pub below : Below size x
  pub many : length x ≡ count

-- the DPB section: the number of slots, the slots, the number of entries, and the entries
pub record Buffers (flag multi : ℕ) (x : List ℕ) : Type 0 where
  pub slots : ℕ
  pub rest : List ℕ
  pub is : x ≡ slots ∷ rest
  pub entries : List ℕ
  pub behind : (z : List ℕ) → behind_slots flag slots (rest ++ z) ≡ multi ∷ (entries ++ z)
  pub inside : (z : List ℕ) → Below slots (fifths multi (entries ++ z))

-- behind twelve numbers the number of entries, and last the indices
pub record Timing (multi : ℕ) (x : List ℕ) : Type 0 where
  pub entries : ℕ
  pub front : List ℕ
  pub indices : List ℕ
  pub is : x ≡ front ++ indices
  pub count : (z : List ℕ) → get_or (front ++ z) 12 0 ≡ entries
  pub inside : Inside entries multi indices
