-- Laws of writing, by induction over a writing that succeeds.
use Rattle.std.specs.Prelude.{ℕ, zero, suc, ◌+◌, ◌*◌, ◌-◌, ◌≤◌, ◌≡◌, refl, List, ◌∷◌, ◌++◌, length, replicate}
use Rattle.std.proofs.Common.{ap, subst, arith, lit<, length-append}
use Rattle.std.proofs.Math.Path.{subst⁻¹}
use Rattle.std.proofs.Math.Nat.{one-le-pow}
use Rattle.std.proofs.lemmas.List.{length-replicate}
use Rattle.bits.specs.Bits.{bits_of, to_boundary}
use Rattle.bits.specs.Code.{code_at, code_of}
use Rattle.bits.specs.Code.Taken.{taken}
use Rattle.bits.specs.FieldLaws.{BitsAt, bits_left, bits_right, bits_length, field_bits, bits_of_zero}
use Rattle.bits.proofs.CodeLaws.{code_bits}
use Rattle.bits.specs.ByteLaws.{AllBits, all_join, all_zeros, all_bits, all_code}
use Rattle.vps_definition.specs.Syntax.{Syntax, Token, numbers, run, emit}
use Rattle.vps_definition.specs.Syntax.Syntax.{align}
use Rattle.vps_definition.specs.Syntax.Outcome.{accepted}
use Rattle.vps_definition.specs.Syntax.Written.{wrote}
use Rattle.vps_laws.specs.Inversion.{Reads, reads_run, read_field_as, read_code_as, read_late_as, Writes, emit_writes}
use Rattle.vps_laws.specs.Inversion.Reads.{read_keep, read_mark, pass_align, read_align, read_first, read_second, read_done}
use Rattle.vps_laws.specs.Inversion.Writes.{write_field, write_code, write_late, write_keep, write_mark, write_align, write_first, write_second, write_done}

-- ── What is written reads back ────────────────────────────────────────
-- bits that stand at a place, the first of them and the others
record Parts (s : List ℕ) (at : ℕ) (c d : List ℕ) (n next : ℕ) : Type 0 where
  first : BitsAt s at c
  rest : BitsAt s (at + n) d
  ends : at + n + length d ≡ next

parts : {next : ℕ} (s : List ℕ) (at : ℕ) (c d : List ℕ) (n : ℕ) → length c ≡ n → BitsAt s at (c ++ d) → at + length (c ++ d) ≡ next → Parts s at c d n next
parts s at c d n l h e =
    record { first = bits_left s at c d h; rest = subst (λ (n : ℕ). BitsAt s (at + n) d) l (bits_right s at c d h); ends = omega (arith, length-append c d) }

-- an alignment's bits are zeros
read_zeros : {A : Type 0} {m : Syntax A} {s : List ℕ} {at : ℕ} {a : A} {t : List Token} {next : ℕ} (n : ℕ) → BitsAt s at (replicate (to_boundary at) 0)
    → Reads m s (at + to_boundary at) a t next → Reads (align n m) s at a t next
read_zeros zero h R = pass_align R
read_zeros {s} {at} (suc n) h R =
    let w : ℕ = to_boundary at in
    read_align (field_bits s at w 0 (one-le-pow w 2 (lit< tt)) (subst⁻¹ (λ (l : List ℕ). BitsAt s at l) (bits_of_zero w) h)) R

writes_reads : {A : Type 0} {m : Syntax A} {r x : List ℕ} {at : ℕ} {a : A} {t : List Token} {y b : List ℕ} → Writes m r x at a t y b
    → (s : List ℕ) (next : ℕ) → BitsAt s at b → at + length b ≡ next → next ≤ 8 * length s → Reads m s at a t next
writes_reads (write_field {w} {plus} {v} {at} {b} l f W) s next h e g =
    let P = parts s at (bits_of w (v - plus)) b w (bits_length w (v - plus)) h e in
    let i = field_bits s at w (v - plus) f P.first in
    read_field_as (omega arith) (writes_reads W s next P.rest P.ends g)
writes_reads (write_code {plus} {v} {at} {b} l f W) s next h e g =
    let n : ℕ = length (code_of (v - plus)) in
    let P = parts s at (code_of (v - plus)) b n refl h e in
    let z = P.ends in
    let i : code_at s at ≡ taken (v - plus) (at + n) = code_bits s at (v - plus) f (omega arith) P.first in
    read_code_as i (omega arith) (writes_reads W s next P.rest z g)
writes_reads (write_late {w} {find} {r} {x} {at} {b} f W) s next h e g =
    let v : ℕ = find r x in
    let P = parts s at (bits_of w v) b w (bits_length w v) h e in
    read_late_as (field_bits s at w v f P.first) (writes_reads W s next P.rest P.ends g)
writes_reads (write_keep W) s next h e g = read_keep (writes_reads W s next h e g)
writes_reads (write_mark W) s next h e g = read_mark (writes_reads W s next h e g)
writes_reads (write_align {n} {at} {b} W) s next h e g =
    let P = parts s at (replicate (to_boundary at) 0) b (to_boundary at) (length-replicate (to_boundary at) 0) h e in
    read_zeros n P.first (writes_reads W s next P.rest P.ends g)
writes_reads (write_first W) s next h e g = read_first (writes_reads W s next h e g)
writes_reads (write_second W) s next h e g = read_second (writes_reads W s next h e g)
writes_reads (write_done {at}) s next h e g = let i : at ≡ next = omega arith in rw (← i) read_done

-- the bits written read as the same result and the same tokens, and end where they end
pub emit_run : {A : Type 0} {a : A} {t : List Token} {y b : List ℕ} (m : Syntax A) (r x : List ℕ) (at : ℕ) → emit m r x at ≡ wrote a t y b
    → (s : List ℕ) → BitsAt s at b → at + length b ≤ 8 * length s → run m s at ≡ accepted a t (at + length b)
emit_run m r x at e s h g = reads_run (writes_reads (emit_writes m r x at e) s _ h refl g)

-- ── What is kept is what the record had there ─────────────────────────
writes_numbers : {A : Type 0} {m : Syntax A} {r x : List ℕ} {at : ℕ} {a : A} {t : List Token} {y b : List ℕ} → Writes m r x at a t y b → x ≡ numbers t ++ y
unfolding numbers
writes_numbers (write_field {v} l f W) = ap (λ (l : List ℕ). v ∷ l) (writes_numbers W)
writes_numbers (write_code {v} l f W) = ap (λ (l : List ℕ). v ∷ l) (writes_numbers W)
writes_numbers (write_late f W) = writes_numbers W
writes_numbers (write_keep {v} W) = ap (λ (l : List ℕ). v ∷ l) (writes_numbers W)
writes_numbers (write_mark W) = writes_numbers W
writes_numbers (write_align W) = writes_numbers W
writes_numbers (write_first W) = writes_numbers W
writes_numbers (write_second W) = writes_numbers W
writes_numbers write_done = refl

pub emit_numbers : {A : Type 0} {a : A} {t : List Token} {y b : List ℕ} (m : Syntax A) (r x : List ℕ) (at : ℕ) → emit m r x at ≡ wrote a t y b → x ≡ numbers t ++ y
emit_numbers m r x at e = writes_numbers (emit_writes m r x at e)

-- ── What is written is bits ───────────────────────────────────────────
writes_bits : {A : Type 0} {m : Syntax A} {r x : List ℕ} {at : ℕ} {a : A} {t : List Token} {y b : List ℕ} → Writes m r x at a t y b → AllBits b
writes_bits (write_field {w} {plus} {v} l f W) = all_join (bits_of w (v - plus)) _ (all_bits w (v - plus)) (writes_bits W)
writes_bits (write_code {plus} {v} l f W) = all_join (code_of (v - plus)) _ (all_code (v - plus)) (writes_bits W)
writes_bits (write_late {w} {find} {r} {x} f W) = all_join (bits_of w (find r x)) _ (all_bits w (find r x)) (writes_bits W)
writes_bits (write_keep W) = writes_bits W
writes_bits (write_mark W) = writes_bits W
writes_bits (write_align {at} W) = all_join (replicate (to_boundary at) 0) _ (all_zeros (to_boundary at)) (writes_bits W)
writes_bits (write_first W) = writes_bits W
writes_bits (write_second W) = writes_bits W
writes_bits write_done = tt

pub emit_bits : {A : Type 0} {a : A} {t : List Token} {y b : List ℕ} (m : Syntax A) (r x : List ℕ) (at : ℕ) → emit m r x at ≡ wrote a t y b → AllBits b
emit_bits m r x at e = writes_bits (emit_writes m r x at e)
