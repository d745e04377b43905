-- Laws of codes: what they read as.
use Rattle.std.specs.Prelude.{ℕ, ◌+◌, ◌*◌, ◌-◌, ◌^◌, ◌≤◌, ◌<◌, ◌≡◌, refl, List, [], ◌∷◌, ◌++◌, length, replicate}
use Rattle.std.proofs.Common.{◌∙◌, arith, length-append}
use Rattle.std.proofs.Math.Nat.{two-pow-succ}
use Rattle.std.proofs.lemmas.List.{length-replicate}
use Rattle.bits.specs.Bits.{field_at, bits_of}
use Rattle.bits.specs.Code.{code_at, prefix_length, code_of}
use Rattle.bits.specs.Code.Taken.{taken}
use Rattle.bits.specs.FieldLaws.{BitsAt, bits_left, bits_right, field_bits}
use Rattle.bits.specs.CodeLaws.{prefix_of, code_length, code_at_lem}

-- the code of v reads as v
pub code_bits : (s : List ℕ) (at v : ℕ) → v < 4294967295 → at + length (code_of v) ≤ 8 * length s → BitsAt s at (code_of v) → code_at s at ≡ taken v (at + length (code_of v))
unfolding code_of
code_bits s at v f g h =
    let k : ℕ = prefix_length v in
    let b = prefix_of v f in
    let l = code_length v in
    let c = code_at_lem s at k b.short (omega arith) (bits_left s at (replicate k 0 ++ (1 ∷ [])) _ h) in
    let n : length {A = ℕ} (replicate k 0 ++ (1 ∷ [])) ≡ k + 1 = simp (length-append, length-replicate) refl in
    let r : BitsAt s (at + (k + 1)) (bits_of k (v + 1 - 2 ^ k)) = rw n at (bits_right s at (replicate k 0 ++ (1 ∷ [])) _ h) in
    let q : at + (k + 1) ≡ at + k + 1 = omega arith in
    let d : field_at s (at + k + 1) k ≡ v + 1 - 2 ^ k = field_bits s (at + k + 1) k (v + 1 - 2 ^ k) (omega (arith, two-pow-succ k)) (rw q at r) in
    let e : 2 ^ k - 1 + field_at s (at + k + 1) k ≡ v = omega arith in
    let o : at + k + 1 + k ≡ at + length (code_of v) = omega arith in
    c ∙ rw (e, o) refl
