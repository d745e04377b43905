-- A whole reading, section by section.
use Rattle.std.specs.Prelude.{ℕ, ◌+◌, ◌≡◌, refl, List, [], ◌∷◌, ◌++◌, Bool}
use Rattle.vps_definition.specs.Rules.{Rules}
use Rattle.vps_definition.specs.Syntax.{Syntax, Token, run}
use Rattle.vps_definition.specs.Syntax.Syntax.{late, mark, done}
use Rattle.vps_definition.specs.Syntax.Token.{section}
use Rattle.vps_definition.specs.Syntax.Outcome.{accepted}
use Rattle.vps_definition.specs.Words.{general, general_if, check}
use Rattle.vps_definition.specs.OutputLayerSets.{total_num_olss, num_multi_layer_olss}
use Rattle.vps_definition.specs.Vps.{Header, Layers, SetsRead, header_under, layers_section, sets_section, ptl_section, ols_section, buffer_sections, general_of}
use Rattle.vps_laws.specs.Inversion.{keeping_accepted}
use Rattle.vps_laws.specs.Keeps.{Silent, keeps_so, keeps_late, keeps_done, keeps_general, keeps_general_if, keeps_check}

-- ── The header keeps nothing ──────────────────────────────────────────
pub silent_late : {A : Type 0} {w : ℕ} {find : List ℕ → List ℕ → ℕ} {k : ℕ → Syntax A} → ((v : ℕ) → Silent (k v)) → Silent (late w find k)
silent_late K = keeps_late (λ v l. K v)

pub silent_done : {A : Type 0} {a : A} → Silent (done a)
silent_done = keeps_done refl

pub silent_general : (i w : ℕ) → Silent (general i w)
silent_general i w = keeps_so (keeps_general i w) (λ a t h. h.0)

pub silent_general_if : (b : Bool) (i w v : ℕ) → Silent (general_if b i w v)
silent_general_if b i w v = keeps_so (keeps_general_if b i w v) (λ a t h. h.0)

pub silent_check : (b : Bool) (n : ℕ) → Silent (check b n)
silent_check b n = keeps_so (keeps_check b n) (λ a t h. h.0)

-- ── The sections ──────────────────────────────────────────────────────
pub record Sections (rules : Rules) (s g : List ℕ) (t : List Token) (next : ℕ) : Type 0 where
  pub h : Header
  pub l : Layers
  pub sets : SetsRead
  pub ptls : ℕ
  pub flag : ℕ
  pub extension_flag : ℕ
  pub at₁ : ℕ
  pub at₂ : ℕ
  pub at₃ : ℕ
  pub at₄ : ℕ
  pub at₅ : ℕ
  pub at₆ : ℕ
  pub layers_kept : List Token
  pub sets_kept : List Token
  pub ptls_kept : List Token
  pub ols_kept : List Token
  pub buffers_kept : List Token
  pub o : Unit {0}
  pub header_read : run (header_under rules) s 0 ≡ accepted h [] at₁
  pub layers_read : run (layers_section h) s at₁ ≡ accepted l layers_kept at₂
  pub sets_read : run (sets_section h) s at₂ ≡ accepted sets sets_kept at₃
  pub ptls_read : run (ptl_section h (total_num_olss h.layers sets.sets)) s at₃ ≡ accepted ptls ptls_kept at₄
  pub ols_read : run (ols_section ptls (total_num_olss h.layers sets.sets)) s at₄ ≡ accepted o ols_kept at₅
  pub buffers_read : run (buffer_sections h sets.each_layer_flag (num_multi_layer_olss h.layers l.refs sets.sets)) s at₅ ≡ accepted flag buffers_kept at₆
  pub extension_read : run (general 8 1) s at₆ ≡ accepted extension_flag [] next
  pub general_is : g ≡ general_of h sets flag extension_flag
  pub tokens_are : t ≡ section ∷ (layers_kept ++ (sets_kept ++ (section ∷ (ptls_kept ++ (section ∷ (ols_kept ++ (buffers_kept ++ (section ∷ []))))))))

-- a marked table keeps the mark first
pub in_section : {A X : Type 0} {a : A} {t : List Token} {next : ℕ} (m : Syntax A) (s : List ℕ) (at : ℕ) → run (mark m) s at ≡ accepted a t next
    → ((u : List Token) → run m s at ≡ accepted a u next → t ≡ section ∷ u → X) → X
unfolding run
in_section m s at e k = let K = keeping_accepted section (run m s at) e in k K.rest K.inner K.all

pub ended : {A : Type 0} (a b : A) (s : List ℕ) (at : ℕ) (t : List Token) (next : ℕ) → run (done a) s at ≡ accepted b t next → (a ≡ b) × (t ≡ []) × (at ≡ next)
unfolding run
ended a b s at t next e = (cc, cc, cc)

pub joined : (t u₁ v₁ u₂ v₂ u₃ v₃ u₄ v₄ u₅ v₅ u₆ v₆ u₇ v₇ w₂ w₄ w₅ w₇ : List Token)
    → t ≡ u₁ ++ v₁ → u₁ ≡ [] → v₁ ≡ u₂ ++ v₂ → u₂ ≡ section ∷ w₂ → v₂ ≡ u₃ ++ v₃ → v₃ ≡ u₄ ++ v₄ → u₄ ≡ section ∷ w₄ → v₄ ≡ u₅ ++ v₅ → u₅ ≡ section ∷ w₅
    → v₅ ≡ u₆ ++ v₆ → v₆ ≡ u₇ ++ v₇ → u₇ ≡ [] → v₇ ≡ section ∷ w₇ → w₇ ≡ []
    → t ≡ section ∷ (w₂ ++ (u₃ ++ (section ∷ (w₄ ++ (section ∷ (w₅ ++ (u₆ ++ (section ∷ []))))))))
joined t u₁ v₁ u₂ v₂ u₃ v₃ u₄ v₄ u₅ v₅ u₆ v₆ u₇ v₇ w₂ w₄ w₅ w₇ a b c d e f g h i j k l m n = simp (a, b, c, d, e, f, g, h, i, j, k, l, m, n)
