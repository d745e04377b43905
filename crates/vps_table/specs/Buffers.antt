-- What the DPB and the timing section owe to the table, with where each starts.
use Rattle.std.specs.Prelude.{ℕ, ◌≡◌, List, [], ◌∷◌, Bool, true, false, Result, Ok, Err}
use Rattle.refusals.specs.declared.refusal.Refusal.{Refusal}
use Rattle.vps_definition.specs.Syntax.{Syntax, ◌>>=◌}
use Rattle.vps_definition.specs.Syntax.Syntax.{keep, mark, test, done}
use Rattle.vps_definition.specs.Words.{u, inferred, when}
use Rattle.vps_definition.specs.DpbParameters.{dpb_section}
use Rattle.vps_definition.specs.TimingHrd.{timing_section}
use Rattle.vps_definition.specs.Vps.{Header, multi_layer_sections, single_layer_sections}
use Rattle.vps_laws.specs.Plain.{plain_done}
use Rattle.vps_laws.proofs.Plain.{plain_u, plain_inferred, plain_when, plain_dpb_section, plain_timing_section}
use Rattle.table_steps.specs.Laws.{StepsLaws, marked_any}
use Rattle.vps_table.specs.declared.buffers.Buffers.{Buffers}

abbrev pub BuffersMet : {S : Type 0} (marked : (A : Type 0) → Syntax A → S → Result A Refusal → S → List ℕ → Type 0) → Syntax ℕ → S → Result Buffers Refusal → S → Type 0
BuffersMet marked m s (Ok x) s' = marked ℕ m s (Ok x.flag) s' (x.dpb ∷ x.timing ∷ [])
BuffersMet marked m s (Err e) s' = marked ℕ m s (Err e) s' []

-- the two sections of sets that have several layers
abbrev pub dpb_of : Header → (multi : ℕ) → Syntax ℕ
dpb_of h multi = dpb_section h.default_max_tid_flag h.max_sublayers_minus1 multi

abbrev pub timing_of : Header → (multi flag : ℕ) → Syntax (Unit {0})
timing_of h multi flag = when flag (timing_section h.default_max_tid_flag h.max_sublayers_minus1 multi)

-- those of single layers, from the entries' count on and from the flag on
abbrev pub single_from_entries : Syntax ℕ
single_from_entries = keep 0 (mark (keep 0 (done 0)))

abbrev pub single_from_flag : Syntax ℕ
single_from_flag = mark (keep 0 (done 0))

module _ {S : Type 0} {place : S → ℕ} {goes : (A : Type 0) → Syntax A → S → Result A Refusal → S → Type 0}
    {marked : (A : Type 0) → Syntax A → S → Result A Refusal → S → List ℕ → Type 0} (L : StepsLaws place goes marked) where
  -- ── Sets that have several layers ───────────────────────────────────
  module _ (h : Header) (multi : ℕ) {s s₁ : S} where
    pub multi_dpb : {e : Refusal} → goes ℕ (dpb_of h multi) s (Err e) s₁ → marked ℕ (multi_layer_sections h multi) s (Err e) s₁ []
    unfolding multi_layer_sections
    multi_dpb D = L.marked_stop _ _ (L.marked_mark (L.marked_plain (plain_dpb_section _ _ _) D))

    module _ {flag : ℕ} (D : goes ℕ (dpb_of h multi) s (Ok flag) s₁) {s₂ : S} where
      pub multi_present : {e : Refusal} → goes ℕ (u 1) s₁ (Err e) s₂ → marked ℕ (multi_layer_sections h multi) s (Err e) s₂ []
      unfolding multi_layer_sections
      multi_present P =
          marked_any L (multi_layer_sections h multi)
          (L.marked_then _ _ (L.marked_mark (L.marked_plain (plain_dpb_section _ _ _) D))
          (L.marked_stop {k = []} _ _ (L.marked_mark (L.marked_plain (plain_u 1) P))))

      module _ {present : ℕ} (P : goes ℕ (u 1) s₁ (Ok present) s₂) {s₃ : S} where
        pub multi_timing : {e : Refusal} → goes (Unit {0}) (timing_of h multi present) s₂ (Err e) s₃ → marked ℕ (multi_layer_sections h multi) s (Err e) s₃ []
        unfolding multi_layer_sections
        multi_timing T =
            marked_any L (multi_layer_sections h multi)
            (L.marked_then _ _ (L.marked_mark (L.marked_plain (plain_dpb_section _ _ _) D))
            (L.marked_then _ _ (L.marked_mark (L.marked_plain (plain_u 1) P))
            (L.marked_stop {k = []} _ _ (L.marked_plain (plain_when _ (plain_timing_section _ _ _)) T))))

        pub multi_done : {a b : ℕ} → a ≡ place s → b ≡ place s₁ → goes (Unit {0}) (timing_of h multi present) s₂ (Ok tt) s₃ → marked ℕ (multi_layer_sections h multi) s (Ok flag) s₃ (a ∷ b ∷ [])
        unfolding multi_layer_sections
        multi_done i j T =
            rw (i, j) (L.marked_then _ _ (L.marked_mark (L.marked_plain (plain_dpb_section _ _ _) D))
            (L.marked_then _ _ (L.marked_mark (L.marked_plain (plain_u 1) P))
            (L.marked_then _ _ (L.marked_plain (plain_when _ (plain_timing_section _ _ _)) T)
            (L.marked_plain plain_done L.goes_done))))

  -- ── Single layers ───────────────────────────────────────────────────
  module _ {s s₁ : S} where
    pub single_slots : {e : Refusal} → goes ℕ (inferred 0) s (Err e) s₁ → marked ℕ single_layer_sections s (Err e) s₁ []
    unfolding single_layer_sections inferred ◌>>=◌
    single_slots A = marked_any L single_layer_sections (L.marked_mark (L.marked_stop {k = []} (inferred 0) (λ v. single_from_entries) (L.marked_plain (plain_inferred 0) A)))

    module _ {v : ℕ} (A : goes ℕ (inferred 0) s (Ok v) s₁) {s₂ : S} where
      pub single_entries : {e : Refusal} → goes ℕ (inferred 0) s₁ (Err e) s₂ → marked ℕ single_layer_sections s (Err e) s₂ []
      unfolding single_layer_sections inferred ◌>>=◌
      single_entries B =
          marked_any L single_layer_sections
          (L.marked_mark (L.marked_then (inferred 0) (λ v. single_from_entries) (L.marked_plain (plain_inferred 0) A)
          (L.marked_stop {k = []} (inferred 0) (λ v. single_from_flag) (L.marked_plain (plain_inferred 0) B))))

      module _ {w : ℕ} (B : goes ℕ (inferred 0) s₁ (Ok w) s₂) {s₃ : S} where
        pub single_flag : {e : Refusal} → goes ℕ (inferred 0) s₂ (Err e) s₃ → marked ℕ single_layer_sections s (Err e) s₃ []
        unfolding single_layer_sections inferred ◌>>=◌
        single_flag C =
            marked_any L single_layer_sections
            (L.marked_mark (L.marked_then (inferred 0) (λ v. single_from_entries) (L.marked_plain (plain_inferred 0) A)
            (L.marked_then (inferred 0) (λ v. single_from_flag) (L.marked_plain (plain_inferred 0) B)
            (L.marked_mark (L.marked_stop {k = []} (inferred 0) (λ v. done 0) (L.marked_plain (plain_inferred 0) C))))))

        pub single_done : {a b x : ℕ} → a ≡ place s → b ≡ place s₂ → goes ℕ (inferred 0) s₂ (Ok x) s₃ → marked ℕ single_layer_sections s (Ok 0) s₃ (a ∷ b ∷ [])
        unfolding single_layer_sections inferred ◌>>=◌
        single_done i j C =
            rw (i, j) (L.marked_mark (L.marked_then (inferred 0) (λ v. single_from_entries) (L.marked_plain (plain_inferred 0) A)
            (L.marked_then (inferred 0) (λ v. single_from_flag) (L.marked_plain (plain_inferred 0) B)
            (L.marked_mark (L.marked_then (inferred 0) (λ v. done 0) (L.marked_plain (plain_inferred 0) C) (L.marked_plain plain_done L.goes_done))))))

  -- ── Either ──────────────────────────────────────────────────────────
  pub either_first : (m n : Syntax ℕ) {b : Bool} (r : Result Buffers Refusal) (s s' : S) → b ≡ true → BuffersMet marked m s r s' → BuffersMet marked (test b m n) s r s'
  either_first m n (Ok x) s s' e M = rw e (L.marked_first M)
  either_first m n (Err x) s s' e M = rw e (L.marked_first M)

  pub either_second : (m n : Syntax ℕ) {b : Bool} (r : Result Buffers Refusal) (s s' : S) → b ≡ false → BuffersMet marked n s r s' → BuffersMet marked (test b m n) s r s'
  either_second m n (Ok x) s s' e M = rw e (L.marked_second M)
  either_second m n (Err x) s s' e M = rw e (L.marked_second M)
