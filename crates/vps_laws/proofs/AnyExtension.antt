-- The extension bits of a well-formed record may be any: with others in their place it is well formed.
use Rattle.std.specs.Prelude.{ℕ, ◌+◌, ◌*◌, ◌≤◌, ◌≡◌, refl, List, [], ◌∷◌, ◌++◌, true, ◌||◌, length, get_or, take, drop}
use Rattle.std.proofs.Common.{sym, ap, ◌∙◌, subst, append_assoc, arith, lit≤, take_at, drop_at, drop-drop}
use Rattle.std.proofs.Math.Dec.{eqb}
use Rattle.std.proofs.Math.ListN.{length-append}
use Rattle.std.proofs.lemmas.List.Edits.{sets, sets-eq}
use Rattle.lists.specs.Table.{and_both}
use Rattle.bits.specs.ByteLaws.{AllBits}
use Rattle.bits.specs.FieldLaws.{BitsAt, bits_left}
use Rattle.bits.specs.Writing.{trailing_bits}
use Rattle.vps_definition.specs.Rules.{Rules}
use Rattle.vps_definition.specs.Syntax.{Token, numbers, starts, run}
use Rattle.vps_definition.specs.Syntax.Outcome.{accepted}
use Rattle.vps_definition.specs.Vps.{vps_under}
use Rattle.vps_definition.specs.Record.{body_of, record_of, start_of}
use Rattle.vps_definition.specs.Layout.{extension_in}
use Rattle.vps_definition.specs.Reading.{most_rbsp_bytes}
use Rattle.vps_definition.specs.Writing.{all_flags, extension_good, extension_of, rbsp_of, unit_of, well_formed_under}
use Rattle.vps_laws.specs.Writing.{emit_run, emit_bits}
use Rattle.vps_laws.specs.Extension.{good_bits}
use Rattle.vps_laws.specs.Accepted.{record_parts}
use Rattle.vps_laws.specs.Units.{Made, written_made, rbsp_size, packed, read_packed, unit_reads}
use Rattle.vps_laws.proofs.Laid.{record_from_extension, record_extension}
use Rattle.vps_laws.specs.Claims.{written_well_formed, well_formed_written}
use Rattle.vps_laws.proofs.Claims.{accepted_written}
use Rattle.vps_laws.proofs.Lookup.{section_inside}
use Rattle.vps_laws.specs.AnyExtension.{starts_behind}

-- ── In the record ─────────────────────────────────────────────────────
module _ (g : List ℕ) (t : List Token) where
  -- all before the bits: General, the table's numbers, and so many bits
  abbrev front : ℕ → List ℕ
  front n = g ++ (numbers t ++ (n ∷ []))

  -- all behind them: the trailer
  abbrev back : ℕ → List ℕ
  back n = starts 9 t ++ ((length g + length (numbers t) + 1 + n + 8) ∷ [])

  body_length : (e : List ℕ) → length (body_of g t e) ≡ length g + length (numbers t) + 1 + length e
  unfolding body_of
  body_length e = omega (arith, length-append (g ++ numbers t) (length e ∷ e), length-append g (numbers t))

  parted : (e : List ℕ) → record_of g t e ≡ front (length e) ++ (e ++ back (length e))
  parted e =
      record_parts g t e
      ∙ ap (λ (n : ℕ). g ++ (numbers t ++ ((length e ∷ e) ++ (starts 9 t ++ ((n + 8) ∷ []))))) (body_length e)
      ∙ sym (append_assoc g (numbers t ++ (length e ∷ [])) (e ++ back (length e)) ∙ ap (λ (l : List ℕ). g ++ l) (append_assoc (numbers t) (length e ∷ []) (e ++ back (length e))))

  front_length : (n : ℕ) → length (front n) ≡ length g + length (numbers t) + 1
  front_length n = omega (arith, length-append g (numbers t ++ (n ∷ [])), length-append (numbers t) (n ∷ []))

  -- other bits in their place
  replaced : (e y : List ℕ) → length e ≡ length y → sets (record_of g t y) (length g + length (numbers t) + 1) e ≡ record_of g t e
  replaced e y l =
      let n : ℕ = length y in
      let r : List ℕ = front n ++ (y ++ back n) in
      let k : length g + length (numbers t) + 1 ≡ length (front n) = sym (front_length n) in
      let T : take (length (front n)) r ≡ front n = take_at (front n) (y ++ back n) _ refl in
      let D : drop (length (front n) + length e) r ≡ back n =
      ap (λ (i : ℕ). drop (length (front n) + i) r) l ∙ sym (drop-drop n (length (front n)) r) ∙ ap (drop n) (drop_at (front n) (y ++ back n) _ refl) ∙ drop_at y (back n) _ refl in
      ap (λ (x : List ℕ). sets x (length g + length (numbers t) + 1) e) (parted y)
      ∙ ap (λ (i : ℕ). sets r i e) k
      ∙ sets-eq e r (length (front n)) (omega (arith, l, length-append (front n) (y ++ back n), length-append y (back n)))
      ∙ ap (λ (x : List ℕ). x ++ e ++ drop (length (front n) + length e) r) T
      ∙ ap (λ (x : List ℕ). front n ++ e ++ x) D
      ∙ append_assoc (front n) e (back n)
      ∙ ap (λ (i : ℕ). front i ++ (e ++ back i)) (sym l)
      ∙ sym (parted e)

-- ── In the unit ───────────────────────────────────────────────────────
module _ (rules : Rules) (r u : List ℕ) (M : Made rules r u) where
  abbrev y : List ℕ
  y = extension_of M.rest

  table_bits : AllBits M.bits
  table_bits = emit_bits (vps_under rules) r (drop 9 r) 0 M.emits

  -- the table is read wherever its bits stand
  table_reads : (s : List ℕ) → BitsAt s 0 M.bits → 0 + length M.bits ≤ 8 * length s → run (vps_under rules) s 0 ≡ accepted M.general M.tokens (0 + length M.bits)
  table_reads s H l = emit_run (vps_under rules) r (drop 9 r) 0 M.emits s H l

  unit_table : run (vps_under rules) (rbsp_of M.bits y) 0 ≡ accepted M.general M.tokens (0 + length M.bits)
  unit_table =
      let P = packed M.bits y table_bits (good_bits (get_or M.general 8 0) y M.extension) in
      let s : List ℕ = rbsp_of M.bits y in
      table_reads s (bits_left s 0 M.bits y (bits_left s 0 (M.bits ++ y) (trailing_bits (length (M.bits ++ y))) P.stands)) (omega (arith, P.size))

  good : (e : List ℕ) → all_flags e ≡ true → length e ≡ length y → extension_good (get_or M.general 8 0) e ≡ true
  unfolding extension_good
  good e f l = rw (f, l) (and_both (all_flags y) (eqb (get_or M.general 8 0) 1 || eqb (length y) 0) M.extension).1

  others_formed : (e : List ℕ) → all_flags e ≡ true → length e ≡ length y → well_formed_under rules (record_of M.general M.tokens e) ≡ true
  others_formed e f l =
      let s : List ℕ = rbsp_of M.bits e in
      let k : length s ≤ most_rbsp_bytes = omega (arith, M.short, rbsp_size M.bits e, rbsp_size M.bits y, l) in
      let W = accepted_written rules (unit_of s) _ _ (unit_reads rules s _ _ k (read_packed rules M.general M.tokens M.bits e table_bits (good e f l) table_reads)) in
      written_well_formed rules _ W.0 W.1

  others_in_place : (e : List ℕ) → well_formed_under rules r ≡ true → length e ≡ length y → sets r (start_of r 7 + 1) e ≡ record_of M.general M.tokens e
  others_in_place e w l =
      let q : List ℕ = record_of M.general M.tokens y in
      let I = subst (λ (x : List ℕ). start_of x 7 ≤ length x) (sym M.is) (start_inside w) in
      let b = starts_behind M.general M.tokens y (record_from_extension rules _ M.general M.tokens _ y unit_table) I in
      ap (λ (x : List ℕ). sets x (start_of x 7 + 1) e) (sym M.is) ∙ ap (λ (k : ℕ). sets q (k + 1) e) b ∙ replaced M.general M.tokens e y l
    where
      start_inside : well_formed_under rules r ≡ true → start_of r 7 ≤ length r
      start_inside w = let S = section_inside rules r w 7 (lit≤ tt) in omega (arith, S.rises, S.ends)

  bits_in_place : extension_in r ≡ y
  bits_in_place = ap extension_in (sym M.is) ∙ record_extension rules _ M.general M.tokens _ y unit_table

pub others_well_formed : (rules : Rules) (r e : List ℕ) → well_formed_under rules r ≡ true → all_flags e ≡ true → length e ≡ length (extension_in r) → well_formed_under rules (sets r (start_of r 7 + 1) e) ≡ true
others_well_formed rules r e w f l =
    let W = well_formed_written rules r w in
    let M = written_made rules r W.0 W.1 in
    let k : length e ≡ length (extension_of M.rest) = l ∙ ap length (bits_in_place rules r W.0 M) in
    subst (λ (x : List ℕ). well_formed_under rules x ≡ true) (sym (others_in_place rules r W.0 M e w k)) (others_formed rules r W.0 M e f k)
