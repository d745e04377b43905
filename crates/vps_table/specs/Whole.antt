-- What the whole owes to the table: the numbers of the General section, and where the other sections start.
use Rattle.std.specs.Prelude.{ℕ, ◌≡◌, List, [], ◌∷◌, ◌++◌, Result, Ok, Err}
use Rattle.std.proofs.Common.{sym, ap, subst, append_assoc, refl}
use Rattle.refusals.specs.declared.refusal.Refusal.{Refusal}
use Rattle.vps_definition.specs.Syntax.{Syntax, ◌>>=◌}
use Rattle.vps_definition.specs.Syntax.Syntax.{mark, done}
use Rattle.vps_definition.specs.Rules.{today}
use Rattle.vps_definition.specs.Words.{ruled, general}
use Rattle.vps_definition.specs.OutputLayerSets.{total_num_olss, num_multi_layer_olss}
use Rattle.vps_definition.specs.Vps.{Header, Layers, SetsRead, header, layers_section, sets_section, ptl_section, ols_section, buffer_sections, general_of, vps_under, vps}
use Rattle.vps_laws.specs.Plain.{plain_done}
use Rattle.vps_laws.proofs.Plain.{plain_header, plain_general, plain_layers_section, plain_ptl_section, plain_ols_section}
use Rattle.table_steps.specs.Laws.{StepsLaws, goes_as, marked_any}
use Rattle.vps_table.specs.declared.whole.Whole.{Whole}

abbrev pub WholeMet : {S : Type 0} (marked : (A : Type 0) → Syntax A → S → Result A Refusal → S → List ℕ → Type 0) → S → Result Whole Refusal → S → Type 0
WholeMet marked s (Ok w) s' = marked (List ℕ) vps s (Ok w.general) s' w.starts
WholeMet marked s (Err e) s' = marked (List ℕ) vps s (Err e) s' []

-- ── The table from each section on ────────────────────────────────────
abbrev pub from_end : Header → SetsRead → (flag extension : ℕ) → Syntax (List ℕ)
from_end h s flag extension = mark (done (general_of h s flag extension))

abbrev pub from_flag : Header → SetsRead → (flag : ℕ) → Syntax (List ℕ)
from_flag h s flag = general 8 1 >>= from_end h s flag

abbrev pub from_buffers : Header → Layers → SetsRead → Syntax (List ℕ)
from_buffers h l s = buffer_sections h s.each_layer_flag (num_multi_layer_olss h.layers l.refs s.sets) >>= from_flag h s

abbrev pub from_olss : Header → Layers → SetsRead → (ptls : ℕ) → Syntax (List ℕ)
from_olss h l s ptls = mark (ols_section ptls (total_num_olss h.layers s.sets)) >>= λ o. from_buffers h l s

abbrev pub from_ptls : Header → Layers → SetsRead → Syntax (List ℕ)
from_ptls h l s = mark (ptl_section h (total_num_olss h.layers s.sets)) >>= from_olss h l s

abbrev pub from_sets : Header → Layers → Syntax (List ℕ)
from_sets h l = sets_section h >>= from_ptls h l

abbrev pub from_layers : Header → Syntax (List ℕ)
from_layers h = mark (layers_section h) >>= from_sets h

-- the whole, from the header on
pub vps_is : vps ≡ header >>= from_layers
unfolding vps_under ruled
vps_is = refl

-- ── So far ────────────────────────────────────────────────────────────
module _ {S : Type 0} {place : S → ℕ} {goes : (A : Type 0) → Syntax A → S → Result A Refusal → S → Type 0}
    {marked : (A : Type 0) → Syntax A → S → Result A Refusal → S → List ℕ → Type 0} (L : StepsLaws place goes marked) (s : S) where
  -- of the whole, m is left, and the sections before it start at these numbers
  pub record SoFar (m : Syntax (List ℕ)) (s₁ : S) (l : List ℕ) : Type 0 where
    pub rest : {r : Result (List ℕ) Refusal} {s₂ : S} {k : List ℕ} → marked (List ℕ) m s₁ r s₂ k → marked (List ℕ) vps s r s₂ (l ++ k)

  pub so_begins : (f : Header → Syntax (List ℕ)) → vps ≡ header >>= f → SoFar (header >>= f) s []
  so_begins f e = record { rest = λ {r} {s₂} {k} R. subst (λ (m : Syntax (List ℕ)). marked (List ℕ) m s r s₂ k) (sym e) R }

  pub so_on : {A : Type 0} (m : Syntax A) (f : A → Syntax (List ℕ)) {s₁ s₂ : S} {a : A} {l k : List ℕ} → SoFar (m >>= f) s₁ l → marked A m s₁ (Ok a) s₂ k → SoFar (f a) s₂ (l ++ k)
  so_on m f {l = l} {k = k} F M = record { rest = λ {r = r} {s₂ = s₃} {k = j} R. subst (λ (x : List ℕ). marked (List ℕ) vps s r s₃ x) (sym (append_assoc l k j)) (F.rest (L.marked_then m f M R)) }

  pub so_refused : {A : Type 0} (m : Syntax A) (f : A → Syntax (List ℕ)) {s₁ s₂ : S} {e : Refusal} {l k : List ℕ} → SoFar (m >>= f) s₁ l → marked A m s₁ (Err e) s₂ k → marked (List ℕ) vps s (Err e) s₂ []
  so_refused m f F M = marked_any L vps (F.rest (L.marked_stop {k = []} m f M))

  -- ── Section by section ──────────────────────────────────────────────
  pub so_none : SoFar (header >>= from_layers) s []
  so_none = so_begins from_layers vps_is

  pub so_header : {h : Header} {s₁ : S} → goes Header header s (Ok h) s₁ → SoFar (from_layers h) s₁ []
  so_header G = so_on header from_layers so_none (L.marked_plain (plain_header today) G)

  pub no_header : {e : Refusal} {s₁ : S} → goes Header header s (Err e) s₁ → marked (List ℕ) vps s (Err e) s₁ []
  no_header G = so_refused header from_layers so_none (L.marked_plain (plain_header today) G)

  module _ (h : Header) {s₁ s₂ : S} {k : List ℕ} where
    pub so_layers : {l : Layers} → SoFar (from_layers h) s₁ k → goes Layers (layers_section h) s₁ (Ok l) s₂ → SoFar (from_sets h l) s₂ (k ++ (place s₁ ∷ []))
    so_layers F G = so_on (mark (layers_section h)) (from_sets h) F (L.marked_mark (L.marked_plain (plain_layers_section h) G))

    pub no_layers : {e : Refusal} → SoFar (from_layers h) s₁ k → goes Layers (layers_section h) s₁ (Err e) s₂ → marked (List ℕ) vps s (Err e) s₂ []
    no_layers F G = so_refused (mark (layers_section h)) (from_sets h) F (L.marked_mark (L.marked_plain (plain_layers_section h) G))

    module _ (l : Layers) where
      pub so_sets : {x : SetsRead} {j : List ℕ} → SoFar (from_sets h l) s₁ k → marked SetsRead (sets_section h) s₁ (Ok x) s₂ j → SoFar (from_ptls h l x) s₂ (k ++ j)
      so_sets F M = so_on (sets_section h) (from_ptls h l) F M

      pub no_sets : {e : Refusal} {j : List ℕ} → SoFar (from_sets h l) s₁ k → marked SetsRead (sets_section h) s₁ (Err e) s₂ j → marked (List ℕ) vps s (Err e) s₂ []
      no_sets F M = so_refused (sets_section h) (from_ptls h l) F M

      module _ (x : SetsRead) {total : ℕ} (t : total ≡ total_num_olss h.layers x.sets) where
        pub so_ptls : {count : ℕ} → SoFar (from_ptls h l x) s₁ k → goes ℕ (ptl_section h total) s₁ (Ok count) s₂ → SoFar (from_olss h l x count) s₂ (k ++ (place s₁ ∷ []))
        so_ptls F G = so_on (mark (ptl_section h (total_num_olss h.layers x.sets))) (from_olss h l x) F (L.marked_mark (L.marked_plain (plain_ptl_section _ _) (goes_as L (ap (ptl_section h) t) G)))

        pub no_ptls : {e : Refusal} → SoFar (from_ptls h l x) s₁ k → goes ℕ (ptl_section h total) s₁ (Err e) s₂ → marked (List ℕ) vps s (Err e) s₂ []
        no_ptls F G = so_refused (mark (ptl_section h (total_num_olss h.layers x.sets))) (from_olss h l x) F (L.marked_mark (L.marked_plain (plain_ptl_section _ _) (goes_as L (ap (ptl_section h) t) G)))

        pub so_olss : (count : ℕ) → SoFar (from_olss h l x count) s₁ k → goes (Unit {0}) (ols_section count total) s₁ (Ok tt) s₂ → SoFar (from_buffers h l x) s₂ (k ++ (place s₁ ∷ []))
        so_olss count F G =
            so_on (mark (ols_section count (total_num_olss h.layers x.sets))) (λ o. from_buffers h l x) F (L.marked_mark (L.marked_plain (plain_ols_section _ _) (goes_as L (ap (ols_section count) t) G)))

        pub no_olss : {e : Refusal} (count : ℕ) → SoFar (from_olss h l x count) s₁ k → goes (Unit {0}) (ols_section count total) s₁ (Err e) s₂ → marked (List ℕ) vps s (Err e) s₂ []
        no_olss count F G =
            so_refused (mark (ols_section count (total_num_olss h.layers x.sets))) (λ o. from_buffers h l x) F (L.marked_mark (L.marked_plain (plain_ols_section _ _) (goes_as L (ap (ols_section count) t) G)))

      module _ (x : SetsRead) {multi : ℕ} (m : multi ≡ num_multi_layer_olss h.layers l.refs x.sets) where
        pub so_buffers : {flag : ℕ} {j : List ℕ} → SoFar (from_buffers h l x) s₁ k → marked ℕ (buffer_sections h x.each_layer_flag multi) s₁ (Ok flag) s₂ j → SoFar (from_flag h x flag) s₂ (k ++ j)
        so_buffers {flag} {j} F M =
            so_on (buffer_sections h x.each_layer_flag (num_multi_layer_olss h.layers l.refs x.sets)) (from_flag h x) F
            (subst (λ (n : ℕ). marked ℕ (buffer_sections h x.each_layer_flag n) s₁ (Ok flag) s₂ j) m M)

        pub no_buffers : {e : Refusal} {j : List ℕ} → SoFar (from_buffers h l x) s₁ k → marked ℕ (buffer_sections h x.each_layer_flag multi) s₁ (Err e) s₂ j → marked (List ℕ) vps s (Err e) s₂ []
        no_buffers {e} {j} F M =
            so_refused (buffer_sections h x.each_layer_flag (num_multi_layer_olss h.layers l.refs x.sets)) (from_flag h x) F
            (subst (λ (n : ℕ). marked ℕ (buffer_sections h x.each_layer_flag n) s₁ (Err e) s₂ j) m M)

    module _ (x : SetsRead) (flag : ℕ) where
      pub so_done : {extension : ℕ} → SoFar (from_flag h x flag) s₁ k → goes ℕ (general 8 1) s₁ (Ok extension) s₂ → marked (List ℕ) vps s (Ok (general_of h x flag extension)) s₂ (k ++ (place s₂ ∷ []))
      so_done F G = F.rest (L.marked_then _ _ (L.marked_plain (plain_general 8 1) G) (L.marked_mark (L.marked_plain plain_done L.goes_done)))

      pub no_flag : {e : Refusal} → SoFar (from_flag h x flag) s₁ k → goes ℕ (general 8 1) s₁ (Err e) s₂ → marked (List ℕ) vps s (Err e) s₂ []
      no_flag F G = so_refused (general 8 1) (from_end h x flag) F (L.marked_plain (plain_general 8 1) G)
