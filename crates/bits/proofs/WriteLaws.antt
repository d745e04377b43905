-- What writing a code leaves reads back as it.
use Rattle.std.specs.Prelude.{ℕ, ◌+◌, ◌*◌, ◌≤◌, ◌≡◌, refl, List, ltb, length}
use Rattle.std.proofs.Common.{⊎_elim, arith, ltb-true}
use Rattle.refusals.specs.Answer.Answer.{success}
use Rattle.bits.specs.Bits.{set_bits}
use Rattle.bits.specs.Code.{code_at, code_of}
use Rattle.bits.specs.Code.Taken.{taken}
use Rattle.bits.specs.Reading.{place_good, read_code}
use Rattle.bits.specs.Writing.{write_bits, buffer_after, code_good}
use Rattle.bits.specs.CodeLaws.{code_length}
use Rattle.bits.proofs.CodeLaws.{code_bits}
use Rattle.bits.specs.ByteLaws.{all_code}
use Rattle.bits.specs.WriteLaws.{written, length_set_bits, stand, both}

some : (v : ℕ) → length (code_of v) ≡ 0 → ⊥
some v e = omega (arith, code_length v)

-- a code that was written reads back, with its place
pub code_reads_back : (out : List ℕ) (at v next : ℕ) → write_bits (code_good at v) out at (code_of v) ≡ success next
    → read_code (buffer_after (code_good at v) out at (code_of v)) at ≡ taken v next
unfolding read_code
code_reads_back out at v next e =
    let x = written (code_good at v) out at (code_of v) next e in
    let g = both (ltb v 4294967295) (place_good at) x.valid in
    let room : at + length (code_of v) ≤ 8 * length (set_bits out at (code_of v)) = ⊎_elim (λ z. absurd (some v z)) (λ l. omega (arith, length_set_bits out at (code_of v))) x.room in
    let c : code_at (set_bits out at (code_of v)) at ≡ taken v (at + length (code_of v)) = code_bits (set_bits out at (code_of v)) at v (ltb-true v 4294967295 g.0) room (stand out at (code_of v) (all_code v) x.room) in
    rw (x.after, g.1, c, x.behind) refl
