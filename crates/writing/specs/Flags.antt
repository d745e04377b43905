-- Flags in a row as they stand in a record's rest.
use Rattle.std.specs.Prelude.{ℕ, zero, suc, ◌+◌, ◌-◌, ◌^◌, ◌<◌, ◌≡◌, refl, List, [], ◌∷◌, ◌++◌, true, false, length}
use Rattle.std.proofs.Common.{ap, ◌∙◌, zero-add, arith, le-leb, le-ltb}
use Rattle.std.proofs.lemmas.Bool.{lt-leb}
use Rattle.bits.specs.Bits.{bits_of}
use Rattle.vps_definition.specs.Syntax.{◌>>=◌, Written, putting, emit}
use Rattle.vps_definition.specs.Syntax.Token.{number}
use Rattle.vps_definition.specs.Syntax.Written.{wrote, bad}
use Rattle.vps_definition.specs.Words.{nothing, loop, repeat}
use Rattle.vps_definition.specs.Writing.{all_flags}
use Rattle.table_steps.specs.Words.{kept_field}
use Rattle.writing.specs.Steps.{guarded}
use Rattle.writing.specs.Kept.{tokens, putting_nothing}

-- so many of them
unfoldable pub flags_written : ℕ → List ℕ → Written (Unit {0})
flags_written zero x = wrote tt [] x []
flags_written (suc n) [] = bad
flags_written (suc n) (zero ∷ x) = putting (number 0 ∷ []) (0 ∷ []) (flags_written n x)
flags_written (suc n) (suc zero ∷ x) = putting (number 1 ∷ []) (1 ∷ []) (flags_written n x)
flags_written (suc n) (suc (suc v) ∷ x) = bad

flags_from_lem : (n i : ℕ) (r x : List ℕ) (at : ℕ) → emit (loop (λ i a. kept_field 1) n i tt) r x at ≡ flags_written n x
unfolding loop nothing ◌>>=◌ emit flags_written bits_of
flags_from_lem zero i r x at = refl
flags_from_lem (suc n) i r [] at = refl
flags_from_lem (suc n) i r (zero ∷ x) at = ap (putting (number 0 ∷ []) (0 ∷ [])) (flags_from_lem n (i + 1) r x (at + 1))
flags_from_lem (suc n) i r (suc zero ∷ x) at = ap (putting (number 1 ∷ []) (1 ∷ [])) (flags_from_lem n (i + 1) r x (at + 1))
flags_from_lem (suc n) i r (suc (suc v) ∷ x) at = rw (le-leb 0 (suc (suc v)) (omega arith), emit) (rw (le-ltb (suc (suc v) - 0) (2 ^ 1) (omega arith)) refl)

pub flags_emitted : (n : ℕ) (r x : List ℕ) (at : ℕ) → emit (repeat n (kept_field 1)) r x at ≡ flags_written n x
unfolding repeat
flags_emitted n r x at = flags_from_lem n 0 r x at

-- one of them is missing
pub flags_short : (n : ℕ) (x : List ℕ) → length x < n → flags_written n x ≡ bad
unfolding flags_written putting
flags_short zero x h = absurd (omega (arith, h))
flags_short (suc n) [] h = refl
flags_short (suc n) (zero ∷ x) h = ap (putting (number 0 ∷ []) (0 ∷ [])) (flags_short n x (omega (arith, h)))
flags_short (suc n) (suc zero ∷ x) h = ap (putting (number 1 ∷ []) (1 ∷ [])) (flags_short n x (omega (arith, h)))
flags_short (suc n) (suc (suc v) ∷ x) h = refl

-- those of a list, and then others
putting_flag : {A : Type 0} (v : ℕ) (l : List ℕ) (W : Written A) → putting (number v ∷ []) (v ∷ []) (putting (tokens l) l W) ≡ putting (tokens (v ∷ l)) (v ∷ l) W
unfolding putting tokens
putting_flag v l (wrote a t x b) = refl
putting_flag v l bad = refl

flag_first : {A : Type 0} (v : ℕ) (l : List ℕ) (b : _) (W : Written A) → putting (number v ∷ []) (v ∷ []) (guarded b (putting (tokens l) l W)) ≡ guarded b (putting (tokens (v ∷ l)) (v ∷ l) W)
unfolding putting
flag_first v l true W = putting_flag v l W
flag_first v l false W = refl

pub flags_ahead : (l z : List ℕ) (m : ℕ) → flags_written (length l + m) (l ++ z) ≡ guarded (all_flags l) (putting (tokens l) l (flags_written m z))
unfolding flags_written all_flags tokens
flags_ahead [] z m = ap (λ (k : ℕ). flags_written k z) (zero-add m) ∙ putting_nothing (flags_written m z)
flags_ahead (zero ∷ l) z m =
    let e : suc (length l) + m ≡ suc (length l + m) = omega arith in
    ap (λ (k : ℕ). flags_written k (0 ∷ (l ++ z))) e ∙ ap (putting (number 0 ∷ []) (0 ∷ [])) (flags_ahead l z m) ∙ flag_first 0 l (all_flags l) (flags_written m z)
flags_ahead (suc zero ∷ l) z m =
    let e : suc (length l) + m ≡ suc (length l + m) = omega arith in
    ap (λ (k : ℕ). flags_written k (1 ∷ (l ++ z))) e ∙ ap (putting (number 1 ∷ []) (1 ∷ [])) (flags_ahead l z m) ∙ flag_first 1 l (all_flags l) (flags_written m z)
flags_ahead (suc (suc v) ∷ l) z m =
    let e : suc (length l) + m ≡ suc (length l + m) = omega arith in
    ap (λ (k : ℕ). flags_written k (suc (suc v) ∷ (l ++ z))) e ∙ rw (lt-leb (suc (suc v)) 1 (omega arith), all_flags) refl
