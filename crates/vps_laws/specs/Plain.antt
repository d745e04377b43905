-- Tables without marks: only the VPS's own sections start one.
use Rattle.std.specs.Prelude.{ℕ, ◌≡◌, refl, List, [], ◌∷◌, Bool}
use Rattle.vps_definition.specs.Syntax.{Syntax}
use Rattle.vps_definition.specs.Syntax.Syntax.{field, code, late, keep, align, test, refuse, done}
use Rattle.vps_definition.specs.Words.{ruled, nothing, keeps}
use Rattle.vps_laws.specs.Keeps.{Keeps, keeps_field, keeps_code, keeps_late, keeps_keep, keeps_align, keeps_test, keeps_ruled, keeps_refuse, keeps_done}
use Rattle.vps_laws.specs.Marks.{marks}

pub record Plain {A : Type 0} (m : Syntax A) : Type 0 where
  pub plain : Keeps (λ a t. marks t ≡ 0) m

-- ── The steps of a table ──────────────────────────────────────────────
pub plain_done : {A : Type 0} {a : A} → Plain (done a)
unfolding marks
plain_done = record { plain = keeps_done refl }

pub plain_refuse : {A : Type 0} {n : ℕ} → Plain {A = A} (refuse n)
plain_refuse = record { plain = keeps_refuse }

pub plain_field : {A : Type 0} {w plus : ℕ} {k : ℕ → Syntax A} → ((v : ℕ) → Plain (k v)) → Plain (field w plus k)
unfolding marks
plain_field K = record { plain = keeps_field (λ v l. (K _).plain) }

pub plain_code : {A : Type 0} {plus : ℕ} {k : ℕ → Syntax A} → ((v : ℕ) → Plain (k v)) → Plain (code plus k)
unfolding marks
plain_code K = record { plain = keeps_code (λ v. (K _).plain) }

pub plain_late : {A : Type 0} {w : ℕ} {find : List ℕ → List ℕ → ℕ} {k : ℕ → Syntax A} → ((v : ℕ) → Plain (k v)) → Plain (late w find k)
plain_late K = record { plain = keeps_late (λ v l. (K v).plain) }

pub plain_keep : {A : Type 0} {v : ℕ} {m : Syntax A} → Plain m → Plain (keep v m)
unfolding marks
plain_keep M = record { plain = keeps_keep M.plain }

pub plain_align : {A : Type 0} {n : ℕ} {m : Syntax A} → Plain m → Plain (align n m)
plain_align {n = n} M = record { plain = keeps_align n M.plain }

pub plain_test : {A : Type 0} {b : Bool} {m n : Syntax A} → Plain m → Plain n → Plain (test b m n)
plain_test {b = b} M N = record { plain = keeps_test b (λ e. M.plain) (λ e. N.plain) }

pub plain_keeps : (l : List ℕ) → Plain (keeps l)
unfolding keeps nothing
plain_keeps [] = plain_done
plain_keeps (v ∷ l) = plain_keep (plain_keeps l)

pub plain_ruled : {A : Type 0} (rule b : Bool) (n : ℕ) {m : Syntax A} → Plain m → Plain (ruled rule b n m)
plain_ruled rule b n M = record { plain = keeps_ruled rule b n M.plain }
