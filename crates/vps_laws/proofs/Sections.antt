-- A whole reading, section by section.
use Rattle.std.specs.Prelude.{ℕ, ◌+◌, ◌≡◌, List, [], ◌++◌}
use Rattle.std.proofs.Common.{sym, ap, ◌∙◌}
use Rattle.vps_definition.specs.Rules.{Rules}
use Rattle.vps_definition.specs.Syntax.{Syntax, ◌>>=◌, Token, run}
use Rattle.vps_definition.specs.Syntax.Syntax.{mark, done}
use Rattle.vps_definition.specs.Syntax.Outcome.{accepted}
use Rattle.vps_definition.specs.Words.{general}
use Rattle.vps_definition.specs.OutputLayerSets.{total_num_olss, num_multi_layer_olss}
use Rattle.vps_definition.specs.Vps.{header_under, layers_section, sets_section, ptl_section, ols_section, buffer_sections, general_of, vps_under}
use Rattle.vps_laws.specs.Inversion.{ruled_accepted}
use Rattle.vps_laws.proofs.Bind.{run_bound}
use Rattle.vps_laws.specs.Keeps.{Silent, keeps_so, keeps_ruled}
use Rattle.vps_laws.proofs.Keeps.{keeps_bind}
use Rattle.vps_laws.specs.Sections.{silent_late, silent_done, silent_general, silent_general_if, silent_check, Sections, in_section, ended, joined}

silent_bind : {A B : Type 0} {m : Syntax A} {f : A → Syntax B} → Silent m → ((a : A) → Silent (f a)) → Silent (m >>= f)
silent_bind M F = keeps_bind M (λ a x e. keeps_so (F a) (λ b y h. ap (λ (l : List Token). l ++ y) e ∙ h))

silent_header : (rules : Rules) → Silent (header_under rules)
unfolding header_under
silent_header rules = search (silent_bind, silent_late, silent_general, silent_general_if, keeps_ruled, silent_check, silent_done) depth 30

-- what two tables in a row gave, handed on by name
in_turn : {A B X : Type 0} {b : B} {t : List Token} {next : ℕ} (m : Syntax A) (f : A → Syntax B) (s : List ℕ) (at : ℕ) → run (m >>= f) s at ≡ accepted b t next
    → ((a : A) (u v : List Token) (middle : ℕ) → run m s at ≡ accepted a u middle → run (f a) s middle ≡ accepted b v next → t ≡ u ++ v → X) → X
in_turn m f s at e k = let B = run_bound m f s at e in k B.result B.before B.behind B.middle B.first B.second B.both

pub sections : (rules : Rules) (s g : List ℕ) (t : List Token) (next : ℕ) → run (vps_under rules) s 0 ≡ accepted g t next → Sections rules s g t next
unfolding vps_under
sections rules s g t next e =
    in_turn (header_under rules) _ s 0 e λ h u₁ v₁ at₁ r₁ e₁ k₁.
    in_turn (mark (layers_section h)) _ s at₁ e₁ λ l u₂ v₂ at₂ r₂ e₂ k₂.
    in_section (layers_section h) s at₁ r₂ λ w₂ q₂ m₂.
    in_turn (sets_section h) _ s at₂ e₂ λ sets u₃ v₃ at₃ r₃ e₃ k₃.
    in_turn _ _ s at₃ e₃ λ ptls u₄ v₄ at₄ r₄ e₄ k₄.
    in_section (ptl_section h (total_num_olss h.layers sets.sets)) s at₃ (ruled_accepted _ _ _ _ s at₃ r₄) λ w₄ q₄ m₄.
    in_turn (mark (ols_section ptls (total_num_olss h.layers sets.sets))) _ s at₄ e₄ λ o u₅ v₅ at₅ r₅ e₅ k₅.
    in_section (ols_section ptls (total_num_olss h.layers sets.sets)) s at₄ r₅ λ w₅ q₅ m₅.
    in_turn (buffer_sections h sets.each_layer_flag (num_multi_layer_olss h.layers l.refs sets.sets)) _ s at₅ e₅ λ flag u₆ v₆ at₆ r₆ e₆ k₆.
    in_turn (general 8 1) _ s at₆ e₆ λ ext u₇ v₇ at₇ r₇ e₇ k₇.
    in_section (done (general_of h sets flag ext)) s at₇ e₇ λ w₇ q₇ m₇.
    (let n₁ : u₁ ≡ [] = (silent_header rules).holds s 0 r₁ in
    let n₇ : u₇ ≡ [] = (silent_general 8 1).holds s at₆ r₇ in
    let E = ended (general_of h sets flag ext) g s at₇ w₇ next q₇ in
    record {
      h = h;
      l = l;
      sets = sets;
      ptls = ptls;
      flag = flag;
      extension_flag = ext;
      at₁ = at₁;
      at₂ = at₂;
      at₃ = at₃;
      at₄ = at₄;
      at₅ = at₅;
      at₆ = at₆;
      layers_kept = w₂;
      sets_kept = u₃;
      ptls_kept = w₄;
      ols_kept = w₅;
      buffers_kept = u₆;
      o = o;
      header_read = r₁ ∙ ap (λ (l : List Token). accepted h l at₁) n₁;
      layers_read = q₂;
      sets_read = r₃;
      ptls_read = q₄;
      ols_read = q₅;
      buffers_read = r₆;
      extension_read = r₇ ∙ ap (λ (l : List Token). accepted ext l at₇) n₇ ∙ ap (accepted ext []) E.2;
      general_is = sym E.0;
      tokens_are = joined t u₁ v₁ u₂ v₂ u₃ v₃ u₄ v₄ u₅ v₅ u₆ v₆ u₇ v₇ w₂ w₄ w₅ w₇ k₁ n₁ k₂ m₂ k₃ k₄ m₄ k₅ m₅ k₆ k₇ n₇ m₇ E.1;
    })
