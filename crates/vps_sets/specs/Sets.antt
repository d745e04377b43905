-- The output layer sets that are gone along: how many there are, and how many have more than one layer.
use Rattle.std.specs.Prelude.{ℕ, ◌≡◌, refl, List, [], ◌∷◌, Bool, true, false, ◌&&◌, cond, ltb, leb, eqb, Result, Ok, Err}
use Rattle.std.proofs.Common.{sym, subst}
use Rattle.refusals.specs.Number.{mode_reserved}
use Rattle.refusals.specs.declared.refusal.Refusal.{Refusal}
use Rattle.vps_definition.specs.Syntax.{Syntax, ◌>>=◌}
use Rattle.vps_definition.specs.Syntax.Syntax.{test, done}
use Rattle.vps_definition.specs.Words.{inferred, u_minus1, general_if, check, loop}
use Rattle.vps_definition.specs.OutputLayerSets as OutputLayerSets
use Rattle.vps_definition.specs.OutputLayerSets.Sets.{each_layer, up_to, chosen}
use Rattle.vps_definition.specs.Vps as Vps
use Rattle.vps_definition.specs.Vps.{row, rows_section}
use Rattle.vps_laws.specs.Plain.{Plain, plain_done, plain_test}
use Rattle.vps_laws.proofs.Plain.{plain_check, plain_general_if, plain_rows_section, plain_no_rows}
use Rattle.layer_sets.specs.Counted.{Known, Counted, counted_chosen}
use Rattle.table_steps.specs.Laws.{StepsLaws, goes_yes, goes_no}
use Rattle.table_steps.specs.Answers.{Gives}
use Rattle.vps_sets.specs.declared.Counts.{Counts}
use Rattle.vps_sets.specs.declared.Sets.{Sets}
use Rattle.vps_sets.specs.Rows.{RowsMet}

-- the numbers in hand are those of the table's sets
abbrev pub SetsMet : (n : ℕ) (refs : List (List ℕ)) → Counts → OutputLayerSets.Sets → Type 0
SetsMet n refs x sets = Counted n refs sets x.total x.multi

-- the table's sets are rows, and the numbers in hand are theirs
pub record ChosenMet (n : ℕ) (closed : List ℕ) (x : Counts) (sets : OutputLayerSets.Sets) : Type 0 where
  pub rows : List (List ℕ)
  pub is : sets ≡ chosen rows
  pub met : RowsMet n closed x rows

-- by the masks of the layers they are those of the sets
chosen_met : {refs : List (List ℕ)} {closed : List ℕ} {n : ℕ} {x : Counts} {sets : OutputLayerSets.Sets} → Known refs closed n → ChosenMet n closed x sets → SetsMet n refs x sets
chosen_met {refs} {n = n} {x = x} K C = subst (SetsMet n refs x) (sym C.is) (counted_chosen _ K C.met)

-- the whole section, with its two fields, and where it starts in the record
abbrev pub SectionMet : {S : Type 0} (marked : (A : Type 0) → Syntax A → S → Result A Refusal → S → List ℕ → Type 0) (h : Vps.Header) (refs : List (List ℕ)) → S → Result Sets Refusal → S → Type 0
SectionMet marked h refs s (Ok x) s' =
    (sets : OutputLayerSets.Sets) × SetsMet h.layers refs x.counts sets
    × marked Vps.SetsRead (Vps.sets_section h) s (Ok (record { each_layer_flag = x.each_layer_flag; mode_idc = x.mode_idc; sets = sets })) s' (x.start ∷ [])
SectionMet marked h refs s (Err e) s' = marked Vps.SetsRead (Vps.sets_section h) s (Err e) s' []

module _ {S : Type 0} {place : S → ℕ} {goes : (A : Type 0) → Syntax A → S → Result A Refusal → S → Type 0}
    {marked : (A : Type 0) → Syntax A → S → Result A Refusal → S → List ℕ → Type 0} (L : StepsLaws place goes marked) where
  -- a 0 stands for the count of rows
  pub goes_no_rows : (sets : OutputLayerSets.Sets) {a : ℕ} {s s' : S} → goes ℕ (inferred 0) s (Ok a) s' → goes OutputLayerSets.Sets (Vps.no_rows sets) s (Ok sets) s'
  unfolding Vps.no_rows inferred ◌>>=◌
  goes_no_rows sets G = L.goes_then (inferred 0) (λ v. done sets) G L.goes_done

  -- so it is refused where its 0 is
  pub goes_no_rows_stop : (sets : OutputLayerSets.Sets) {e : Refusal} {s s' : S} → goes ℕ (inferred 0) s (Err e) s' → goes OutputLayerSets.Sets (Vps.no_rows sets) s (Err e) s'
  unfolding Vps.no_rows inferred ◌>>=◌
  goes_no_rows_stop sets G = L.goes_stop (inferred 0) (λ v. done sets) G

  -- the rows behind their count
  pub goes_chosen : (closed : List ℕ) (n : ℕ) {count : ℕ} (r : Result Counts Refusal) {s s₁ : S} (s₂ : S)
      → goes ℕ (u_minus1 8) s (Ok count) s₁ → Gives goes (RowsMet n closed) (loop (row n) count 0 []) s₁ r s₂ → Gives goes (ChosenMet n closed) (rows_section n) s r s₂
  unfolding rows_section
  goes_chosen closed n (Ok x) s₂ G R = (chosen R.0, record { rows = R.0; is = refl; met = R.1 }, L.goes_then _ _ G (L.goes_then _ _ R.2 L.goes_done))
  goes_chosen closed n (Err e) s₂ G R = L.goes_then _ _ G (L.goes_stop _ _ R)

  -- counted by the masks of the layers
  pub chosen_counted : {refs : List (List ℕ)} {closed : List ℕ} {n : ℕ} (r : Result Counts Refusal) (s s₁ : S) → Known refs closed n
      → Gives goes (ChosenMet n closed) (rows_section n) s r s₁ → Gives goes (SetsMet n refs) (rows_section n) s r s₁
  chosen_counted (Ok x) s s₁ K G = (G.0, chosen_met K G.1, G.2)
  chosen_counted (Err e) s s₁ K G = G

  -- a table that a known condition chooses
  pub gives_yes : {A B : Type 0} (R : A → B → Type 0) {b : Bool} (m n : Syntax B) (r : Result A Refusal) (s s' : S) → b ≡ true → Gives goes R m s r s' → Gives goes R (test b m n) s r s'
  gives_yes R m n (Ok a) s s' e G = (G.0, G.1, goes_yes L e G.2)
  gives_yes R m n (Err x) s s' e G = goes_yes L e G

  pub gives_no : {A B : Type 0} (R : A → B → Type 0) {b : Bool} (m n : Syntax B) (r : Result A Refusal) (s s' : S) → b ≡ false → Gives goes R n s r s' → Gives goes R (test b m n) s r s'
  gives_no R m n (Ok a) s s' e G = (G.0, G.1, goes_no L e G.2)
  gives_no R m n (Err x) s s' e G = goes_no L e G

-- ── The words of the section, one after the other ─────────────────────
abbrev pub each_flag : Vps.Header → Syntax ℕ
each_flag h = general_if (ltb 1 h.layers && eqb h.all_independent_flag 1) 5 1 (cond (eqb h.layers 1) 1 0)

abbrev pub mode_of : Vps.Header → ℕ → Syntax ℕ
mode_of h each = general_if (eqb each 0 && eqb h.all_independent_flag 0) 6 2 2

abbrev pub sets_of : ℕ → (each mode : ℕ) → Syntax OutputLayerSets.Sets
sets_of n each mode = test (eqb each 0) (test (eqb mode 2) (rows_section n) (Vps.no_rows up_to)) (Vps.no_rows each_layer)

plain_sets : (n each mode : ℕ) → Plain (sets_of n each mode)
plain_sets n each mode = plain_test (plain_test (plain_rows_section n) (plain_no_rows _)) (plain_no_rows _)

module _ {S : Type 0} {place : S → ℕ} {goes : (A : Type 0) → Syntax A → S → Result A Refusal → S → Type 0}
    {marked : (A : Type 0) → Syntax A → S → Result A Refusal → S → List ℕ → Type 0} (L : StepsLaws place goes marked) (h : Vps.Header) {s s₁ : S} where
  pub section_each : {e : Refusal} → goes ℕ (each_flag h) s (Err e) s₁ → marked Vps.SetsRead (Vps.sets_section h) s (Err e) s₁ []
  unfolding Vps.sets_section
  section_each E = L.marked_stop _ _ (L.marked_plain (plain_general_if _ 5 1 _) E)

  module _ {each : ℕ} (E : goes ℕ (each_flag h) s (Ok each) s₁) {s₂ : S} where
    pub section_mode : {e : Refusal} → goes ℕ (mode_of h each) s₁ (Err e) s₂ → marked Vps.SetsRead (Vps.sets_section h) s (Err e) s₂ []
    unfolding Vps.sets_section
    section_mode M = L.marked_then _ _ (L.marked_plain (plain_general_if _ 5 1 _) E) (L.marked_stop _ _ (L.marked_plain (plain_general_if _ 6 2 2) M))

    module _ {mode : ℕ} (M : goes ℕ (mode_of h each) s₁ (Ok mode) s₂) where
      pub section_check : {e : Refusal} → goes (Unit {0}) (check (leb mode 2) mode_reserved) s₂ (Err e) s₂ → marked Vps.SetsRead (Vps.sets_section h) s (Err e) s₂ []
      unfolding Vps.sets_section
      section_check C =
          L.marked_then _ _ (L.marked_plain (plain_general_if _ 5 1 _) E)
          (L.marked_then _ _ (L.marked_plain (plain_general_if _ 6 2 2) M)
          (L.marked_stop _ _ (L.marked_plain (plain_check _ _) C)))

      module _ (C : goes (Unit {0}) (check (leb mode 2) mode_reserved) s₂ (Ok tt) s₂) {s₃ : S} where
        pub section_rows : {e : Refusal} → goes OutputLayerSets.Sets (sets_of h.layers each mode) s₂ (Err e) s₃ → marked Vps.SetsRead (Vps.sets_section h) s (Err e) s₃ []
        unfolding Vps.sets_section
        section_rows R =
            L.marked_then _ _ (L.marked_plain (plain_general_if _ 5 1 _) E)
            (L.marked_then _ _ (L.marked_plain (plain_general_if _ 6 2 2) M)
            (L.marked_then _ _ (L.marked_plain (plain_check _ _) C)
            (L.marked_stop _ _ (L.marked_mark (L.marked_plain (plain_sets _ _ _) R)))))

        pub section_done : {sets : OutputLayerSets.Sets} {start : ℕ} → start ≡ place s₂ → goes OutputLayerSets.Sets (sets_of h.layers each mode) s₂ (Ok sets) s₃
            → marked Vps.SetsRead (Vps.sets_section h) s (Ok (record { each_layer_flag = each; mode_idc = mode; sets = sets })) s₃ (start ∷ [])
        unfolding Vps.sets_section
        section_done e R =
            rw e (L.marked_then _ _ (L.marked_plain (plain_general_if _ 5 1 _) E)
            (L.marked_then _ _ (L.marked_plain (plain_general_if _ 6 2 2) M)
            (L.marked_then _ _ (L.marked_plain (plain_check _ _) C)
            (L.marked_then _ _ (L.marked_mark (L.marked_plain (plain_sets _ _ _) R))
            (L.marked_plain plain_done L.goes_done)))))
