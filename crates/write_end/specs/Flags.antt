-- The extension's bits as words of a table.
use Rattle.std.specs.Prelude.{ℕ, zero, suc, ◌+◌, ◌-◌, ◌^◌, ◌≤◌, ◌≡◌, refl, List, [], ◌∷◌, true, false, length, take}
use Rattle.std.proofs.Common.{sym, ap, ◌∙◌, subst, arith, le-leb, le-ltb}
use Rattle.std.proofs.lemmas.Bool.{lt-leb}
use Rattle.bits.specs.Bits.{bits_of}
use Rattle.vps_definition.specs.Syntax.{Syntax, ◌>>=◌, Token, Written, putting, emit}
use Rattle.vps_definition.specs.Syntax.Token.{number}
use Rattle.vps_definition.specs.Syntax.Written.{wrote, bad}
use Rattle.vps_definition.specs.Words.{u, nothing, loop, repeat}
use Rattle.vps_definition.specs.Writing.{all_flags}
use Rattle.table_steps.specs.Words.{kept_field}

-- vps_extension_data_flag
abbrev pub data_flag : Syntax (Unit {0})
data_flag = u 1 >>= λ v. nothing

-- so many of them, as they stand in a record's rest
unfoldable pub flags_written : ℕ → List ℕ → Written (Unit {0})
flags_written zero x = wrote tt [] x []
flags_written (suc n) [] = bad
flags_written (suc n) (zero ∷ x) = putting (number 0 ∷ []) (0 ∷ []) (flags_written n x)
flags_written (suc n) (suc zero ∷ x) = putting (number 1 ∷ []) (1 ∷ []) (flags_written n x)
flags_written (suc n) (suc (suc v) ∷ x) = bad

flags_from_lem : (n i : ℕ) (r x : List ℕ) (at : ℕ) → emit (loop (λ i a. data_flag) n i tt) r x at ≡ flags_written n x
unfolding loop u nothing ◌>>=◌ emit flags_written bits_of
flags_from_lem zero i r x at = refl
flags_from_lem (suc n) i r [] at = refl
flags_from_lem (suc n) i r (zero ∷ x) at = ap (putting (number 0 ∷ []) (0 ∷ [])) (flags_from_lem n (i + 1) r x (at + 1))
flags_from_lem (suc n) i r (suc zero ∷ x) at = ap (putting (number 1 ∷ []) (1 ∷ [])) (flags_from_lem n (i + 1) r x (at + 1))
flags_from_lem (suc n) i r (suc (suc v) ∷ x) at = rw (le-leb 0 (suc (suc v)) (omega arith), emit) (rw (le-ltb (suc (suc v) - 0) (2 ^ 1) (omega arith)) refl)

pub flags_emitted : (n : ℕ) (r x : List ℕ) (at : ℕ) → emit (repeat n data_flag) r x at ≡ flags_written n x
unfolding repeat
flags_emitted n r x at = flags_from_lem n 0 r x at

-- the flags that are written are the bits
pub record Flagged (n : ℕ) (x b : List ℕ) : Type 0 where
  pub flags : all_flags (take n x) ≡ true
  pub bits : b ≡ take n x

abbrev FlaggedBy : ℕ → List ℕ → Written (Unit {0}) → Type 0
FlaggedBy n x (wrote a t y b) = Flagged n x b
FlaggedBy n x bad = n ≤ length x → all_flags (take n x) ≡ false

flagged : (n : ℕ) (x : List ℕ) → FlaggedBy n x (flags_written n x)
unfolding flags_written all_flags putting
flagged zero x = record { flags = refl; bits = refl }
flagged (suc n) [] = λ l. absurd (omega arith)
flagged (suc n) (zero ∷ x) = go (flags_written n x) (flagged n x)
  where
    go : (w : Written (Unit {0})) → FlaggedBy n x w → FlaggedBy (suc n) (0 ∷ x) (putting (number 0 ∷ []) (0 ∷ []) w)
    go (wrote a t y b) F = record { flags = F.flags; bits = ap (λ (l : List ℕ). 0 ∷ l) F.bits }
    go bad F = λ l. F (omega arith)
flagged (suc n) (suc zero ∷ x) = go (flags_written n x) (flagged n x)
  where
    go : (w : Written (Unit {0})) → FlaggedBy n x w → FlaggedBy (suc n) (1 ∷ x) (putting (number 1 ∷ []) (1 ∷ []) w)
    go (wrote a t y b) F = record { flags = F.flags; bits = ap (λ (l : List ℕ). 1 ∷ l) F.bits }
    go bad F = λ l. F (omega arith)
flagged (suc n) (suc (suc v) ∷ x) = λ l. rw (lt-leb (suc (suc v)) 1 (omega arith), all_flags) refl

pub flags_are : {a : Unit {0}} {t : List Token} {y b : List ℕ} (n : ℕ) (r x : List ℕ) (at : ℕ) → emit (repeat n data_flag) r x at ≡ wrote a t y b → Flagged n x b
flags_are n r x at e = subst (FlaggedBy n x) (sym (flags_emitted n r x at) ∙ e) (flagged n x)

pub flags_bad : (n : ℕ) (r x : List ℕ) (at : ℕ) → emit (repeat n data_flag) r x at ≡ bad → n ≤ length x → all_flags (take n x) ≡ false
flags_bad n r x at e = subst (FlaggedBy n x) (sym (flags_emitted n r x at) ∙ e) (flagged n x)

-- they are fields that only the record keeps
pub data_flags_kept : (n : ℕ) → repeat n (kept_field 1) ≡ repeat n data_flag
unfolding u nothing ◌>>=◌
data_flags_kept n = refl
