-- How a record that the table has taken ends: what the code finds, and what that makes of the record.
use Prim.Native.Nat.{ℕ, ◌+◌, ◌*◌, ◌≤◌, ◌<◌}
use Rattle.std.specs.Prelude.{◌≡◌, Bool, true, ◌||◌, eqb, get_or, drop, Result, Ok, Err}
use Rattle.std.proofs.Math.Path.{refl, sym, ap}
use Rattle.std.proofs.Common.{◌∙◌, subst, add-zero, arith, eq-eqb, length-append, take_all, drop-drop, get_or-drop}
use mathlib.Core.List.{List, [], ◌∷◌}
use Rattle.std.proofs.Math.Bool.{false, true≢false}
use Rattle.std.proofs.lemmas.Bool.{lt-leb}
use Rattle.std.proofs.Math.ListN.{length, take, length-drop}
use Rattle.std.proofs.Math.Seq.{length-take-le}
use Rattle.std.proofs.lemmas.List.Edits.{sets}
use Rattle.refusals.specs.Answer.{Answer}
use Rattle.refusals.specs.Answer.Answer.{success, refusal}
use Rattle.refusals.specs.Number.{not_well_formed}
use Rattle.lists.specs.Table.{and_both}
use Rattle.stuffing.specs.Stuffing.{stuff}
use Rattle.vps_definition.specs.Syntax.{Syntax, ◌>>=◌, Token, starts, Written, putting, emit}
use Rattle.vps_definition.specs.Syntax.Token.{number}
use Rattle.vps_definition.specs.Syntax.Written.{wrote, bad}
use Rattle.vps_definition.specs.Words.{inferred, repeat}
use Rattle.vps_definition.specs.Reading.{most_rbsp_bytes}
use Rattle.vps_definition.specs.Writing.{all_flags, extension_good, extension_of, rbsp_of, unit_of, limited, parts_good, finished}
use Rattle.vps_laws.specs.Units.{rbsp_size}
use Rattle.vps_laws.specs.Accepted.{finished_of}
use Rattle.writing.specs.Emits.{Fails}
use Rattle.write_end.specs.Parts.{Taken, Passed, trailer_of, count_in, parts_passed, made_up}
use Rattle.write_end.specs.Flags.{data_flag, Flagged, flags_are, flags_bad}
use Rattle.write_end.specs.Numbers.{Stands}
use Rattle.refusals.specs.declared.refusal.Refusal.{Refusal}
use Rattle.refusals.specs.declared.refusal.Refusal.TheVariants.{NotWellFormed}

-- ── All but the flags ─────────────────────────────────────────────────
-- extension bits only under flag 1
abbrev pub may_extend : (flag count : ℕ) → Bool
may_extend flag count = eqb flag 1 || eqb count 0

-- the end is as it must be, but that its bits were not looked at one by one
pub record Almost (r g : List ℕ) (t : List Token) (c : ℕ) : Type 0 where
  pub total : c + count_in r c + 9 ≡ length r
  pub general : Stands r g
  pub trailer : Stands (drop (count_in r c) (drop 1 (drop c r))) (trailer_of r t)
  pub may : may_extend (get_or g 8 0) (count_in r c) ≡ true

abbrev pub Looked : (r g : List ℕ) (t : List Token) (c : ℕ) → Bool → Type 0
Looked r g t c true = Almost r g t c
Looked r g t c false = parts_good g t (extension_of (drop c r)) r ≡ false

-- the count as the code finds it
pub counted : (r : List ℕ) (c : ℕ) {v : ℕ} → v ≡ get_or r c 0 → v ≡ count_in r c
counted r c e = e ∙ ap (λ (i : ℕ). get_or r i 0) (sym (add-zero c)) ∙ sym (get_or-drop c r 0 0)

pub is_almost : (r g : List ℕ) (t : List Token) (c : ℕ) (b : Bool) → Looked r g t c b → b ≡ true → Almost r g t c
is_almost r g t c b L e = subst (Looked r g t c) e L

pub not_almost : (r g : List ℕ) (t : List Token) (c : ℕ) (b : Bool) → Looked r g t c b → b ≡ false → parts_good g t (extension_of (drop c r)) r ≡ false
not_almost r g t c b L e = subst (Looked r g t c) e L

is_false : (b : Bool) → (b ≡ true → ⊥) → b ≡ false
is_false true h = absurd (h refl)
is_false false h = refl

module _ {r g : List ℕ} {t : List Token} {c : ℕ} (T : Taken r g t c) where
  trailer_length : length (trailer_of r t) ≡ 8
  trailer_length = omega (arith, T.seven, length-append (starts 9 t) (length r ∷ []))

  extension_length : c + count_in r c + 9 ≡ length r → length (extension_of (drop c r)) ≡ count_in r c
  unfolding extension_of
  extension_length e = length-take-le (count_in r c) (drop 1 (drop c r)) (omega (arith, e, length-drop c r, length-drop 1 (drop c r)))

  -- what stands behind the extension is the trailer and nothing more
  behind : c + count_in r c + 9 ≡ length r → take (length (trailer_of r t)) (drop (count_in r c) (drop 1 (drop c r))) ≡ drop (1 + count_in r c) (drop c r)
  behind e =
      let x : List ℕ = drop (count_in r c) (drop 1 (drop c r)) in
      take_all (length (trailer_of r t)) x (omega (arith, e, trailer_length, length-drop c r, length-drop 1 (drop c r), length-drop (count_in r c) (drop 1 (drop c r))))
      ∙ drop-drop (count_in r c) 1 (drop c r)

  pub almost_passed : Almost r g t c → all_flags (extension_of (drop c r)) ≡ true → Passed r g t c
  unfolding extension_good
  almost_passed A f = record {
    total = A.total;
    general = ap (λ (n : ℕ). take n r) (sym T.nine) ∙ A.general;
    trailer = sym (behind A.total) ∙ A.trailer;
    extension = rw (f, extension_length A.total) A.may;
  }

  pub passed_almost : Passed r g t c → Almost r g t c
  unfolding extension_good
  passed_almost P =
      let e : List ℕ = extension_of (drop c r) in
      let f = and_both (all_flags e) (may_extend (get_or g 8 0) (length e)) P.extension in
      record {
        total = P.total;
        general = ap (λ (n : ℕ). take n r) T.nine ∙ P.general;
        trailer = behind P.total ∙ P.trailer;
        may = ap (may_extend (get_or g 8 0)) (sym (extension_length P.total)) ∙ f.1;
      }

  pub not_looked : (Almost r g t c → ⊥) → parts_good g t (extension_of (drop c r)) r ≡ false
  not_looked h = is_false (parts_good g t (extension_of (drop c r)) r) (λ e. h (passed_almost (parts_passed T e)))

  pub no_count : length (drop c r) ≡ 0 → Looked r g t c false
  no_count h = not_looked (λ A. omega (arith, h, A.total, length-drop c r))

  -- by the numbers that the code has in hand: the count, and what stands behind it
  module _ {count : ℕ} {bits l : List ℕ} (x : drop c r ≡ count ∷ bits) (q : l ≡ trailer_of r t) where
    n : count ≡ count_in r c
    n = sym (ap (λ (y : List ℕ). get_or y 0 0) x)

    pub no_bits : length bits < count → Looked r g t c false
    no_bits h = not_looked (λ A. omega (arith, h, n, A.total, length-drop c r, ap length x))

    pub no_general : (Stands r g → ⊥) → Looked r g t c false
    no_general h = not_looked (λ A. h A.general)

    -- and what stands behind so many bits
    module _ {end : List ℕ} (e : end ≡ drop count bits) (m : length end + count ≡ length bits) where
      there : end ≡ drop (count_in r c) (drop 1 (drop c r))
      there = e ∙ (λ i. drop (n i) (drop 1 (sym x i)))

      pub no_end : (length end ≡ 8 → ⊥) → Looked r g t c false
      no_end h = not_looked (λ A. h (omega (arith, m, n, A.total, length-drop c r, ap length x)))

      pub no_trailer : (Stands end l → ⊥) → Looked r g t c false
      no_trailer h = not_looked (λ A. h ((λ i. take (length (q i)) (there i)) ∙ A.trailer ∙ sym q))

      pub looked : (b : Bool) → length end ≡ 8 → Stands r g → Stands end l → b ≡ may_extend (get_or g 8 0) count → Looked r g t c b
      looked true k s u o = record {
        total = omega (arith, k, m, n, length-drop c r, ap length x);
        general = s;
        trailer = (λ i. take (length (sym q i)) (sym there i)) ∙ u ∙ q;
        may = (λ i. may_extend (get_or g 8 0) (sym n i)) ∙ sym o;
      }
      looked false k s u o = not_looked (λ A. absurd (true≢false (sym A.may ∙ (λ i. may_extend (get_or g 8 0) (sym n i)) ∙ sym o)))

-- ── The extension's table ─────────────────────────────────────────────
-- the count, and so many flags
abbrev pub extension_table : ℕ → Syntax (Unit {0})
extension_table count = inferred count >>= λ v. repeat count data_flag

-- what its writing says of the flags
abbrev Says : ℕ → List ℕ → Written (Unit {0}) → Type 0
Says n x (wrote a t y b) = Flagged n x b
Says n x bad = n ≤ length x → all_flags (take n x) ≡ false

said : (n : ℕ) (r x : List ℕ) (at : ℕ) → 1 ≤ length x → get_or x 0 0 ≡ n → Says n (drop 1 x) (emit (extension_table n) r x at)
unfolding inferred ◌>>=◌ emit putting
said n r [] at l e = absurd (omega (arith, l))
said n r (v ∷ x) at l e = rw (eq-eqb v n e, emit) (go (emit (repeat n data_flag) r x at) refl)
  where
    go : (w : Written (Unit {0})) → emit (repeat n data_flag) r x at ≡ w → Says n x (putting (number n ∷ []) [] w)
    go (wrote a t y b) q = flags_are n r x at q
    go bad q = flags_bad n r x at q

pub extension_wrote : {a : Unit {0}} {s : List Token} {y b : List ℕ} (n : ℕ) (r x : List ℕ) (at : ℕ) → 1 ≤ length x → get_or x 0 0 ≡ n → emit (extension_table n) r x at ≡ wrote a s y b → Flagged n (drop 1 x) b
extension_wrote n r x at l e q = subst (Says n (drop 1 x)) q (said n r x at l e)

pub extension_bad : (n : ℕ) (r x : List ℕ) (at : ℕ) → 1 ≤ length x → get_or x 0 0 ≡ n → emit (extension_table n) r x at ≡ bad → n ≤ length (drop 1 x) → all_flags (take n (drop 1 x)) ≡ false
extension_bad n r x at l e q = subst (Says n (drop 1 x)) q (said n r x at l e)

-- ── The whole ─────────────────────────────────────────────────────────
-- the unit's bytes behind its header, stored from a place on
pub record Stored (x : Answer (List ℕ)) (start : ℕ) (lent : List ℕ) (n : ℕ) (out' : List ℕ) : Type 0 where
  pub rbsp : List ℕ
  pub is : x ≡ success (unit_of rbsp)
  pub long : n ≡ start + length (stuff rbsp)
  pub stored : out' ≡ sets lent start (stuff rbsp)

-- what is made of a record that the table has taken
abbrev pub Finishes : Answer (List ℕ) → (start : ℕ) (lent : List ℕ) → Result ℕ Refusal → List ℕ → Type 0
Finishes x start lent (Ok n) out' = Stored x start lent n out'
Finishes x start lent (Err e) out' = (e ≡ NotWellFormed) × (x ≡ refusal not_well_formed)

pub finished_bad : (r g : List ℕ) (t : List Token) (x b : List ℕ) → parts_good g t (extension_of x) r ≡ false → finished r (wrote g t x b) ≡ refusal not_well_formed
unfolding finished
finished_bad r g t x b e = rw (e, finished) refl

pub finished_long : (r g : List ℕ) (t : List Token) (x b : List ℕ) → most_rbsp_bytes < length (rbsp_of b (extension_of x)) → finished r (wrote g t x b) ≡ refusal not_well_formed
unfolding finished limited
finished_long r g t x b l = go (parts_good g t (extension_of x) r)
  where
    go : (c : Bool) → ◌≡◌ {A = Answer (List ℕ)} (elim c as (λ d. Answer (List ℕ)) [ true ↦ limited (rbsp_of b (extension_of x)) | false ↦ refusal not_well_formed ]) (refusal not_well_formed)
    go true = rw (lt-leb (length (rbsp_of b (extension_of x))) most_rbsp_bytes l, limited) refl
    go false = refl

-- bits and their trailing bits are an RBSP of so many bytes
pub rbsp_long : (b e : List ℕ) → 8 * most_rbsp_bytes ≤ length b + length e → most_rbsp_bytes < length (rbsp_of b e)
rbsp_long b e l = omega (arith, l, rbsp_size b e)

rbsp_short : (b e : List ℕ) → length b + length e < 8 * most_rbsp_bytes → length (rbsp_of b e) ≤ most_rbsp_bytes
rbsp_short b e l = omega (arith, l, rbsp_size b e)

module _ {r g : List ℕ} {t : List Token} {c : ℕ} (T : Taken r g t c) (A : Almost r g t c) (d : List ℕ) where
  some : 1 ≤ length (drop c r)
  some = omega (arith, A.total, length-drop c r)

  enough : count_in r c ≤ length (drop 1 (drop c r))
  enough = omega (arith, A.total, length-drop c r, length-drop 1 (drop c r))

  -- the bits that are written are the extension's
  written : {a : Unit {0}} {s : List Token} {y b : List ℕ} → emit (extension_table (count_in r c)) r (drop c r) (length d) ≡ wrote a s y b → Flagged (count_in r c) (drop 1 (drop c r)) b
  written e = extension_wrote (count_in r c) r (drop c r) (length d) some refl e

  pub ends_long : {a : Unit {0}} {s : List Token} {y b : List ℕ} → emit (extension_table (count_in r c)) r (drop c r) (length d) ≡ wrote a s y b → 8 * most_rbsp_bytes ≤ length d + length b
      → finished r (wrote g t (drop c r) d) ≡ refusal not_well_formed
  unfolding extension_of
  ends_long {b = b} e l =
      let F = written e in
      finished_long r g t (drop c r) d (rbsp_long d (extension_of (drop c r)) (omega (arith, l, ap length F.bits)))

  pub ends_bad : Fails (length d) (emit (extension_table (count_in r c)) r (drop c r) (length d)) → finished r (wrote g t (drop c r) d) ≡ refusal not_well_formed
  unfolding extension_of extension_good
  ends_bad h = go (emit (extension_table (count_in r c)) r (drop c r) (length d)) refl h
    where
      go : (w : Written (Unit {0})) → emit (extension_table (count_in r c)) r (drop c r) (length d) ≡ w → Fails (length d) w → finished r (wrote g t (drop c r) d) ≡ refusal not_well_formed
      go (wrote a s y b) e l = ends_long e (omega (arith, l))
      go bad e l =
          let f : all_flags (extension_of (drop c r)) ≡ false = extension_bad (count_in r c) r (drop c r) (length d) some refl e enough in
          finished_bad r g t (drop c r) d
          (is_false (parts_good g t (extension_of (drop c r)) r)
          (λ p. true≢false (sym (and_both (all_flags (extension_of (drop c r))) (may_extend (get_or g 8 0) (length (extension_of (drop c r)))) (parts_passed T p).extension).0 ∙ f)))

  pub ends_good : {a : Unit {0}} {s : List Token} {y b : List ℕ} → emit (extension_table (count_in r c)) r (drop c r) (length d) ≡ wrote a s y b → length d + length b < 8 * most_rbsp_bytes
      → finished r (wrote g t (drop c r) d) ≡ success (unit_of (rbsp_of d b))
  unfolding extension_of
  ends_good {b = b} e l =
      let F = written e in
      let P = almost_passed T A F.flags in
      finished_of r g t (drop c r) d (extension_of (drop c r)) refl (made_up T P) P.extension (rbsp_short d (extension_of (drop c r)) (omega (arith, l, ap length F.bits)))
      ∙ ap (λ (x : List ℕ). success (unit_of (rbsp_of d x))) (sym F.bits)
