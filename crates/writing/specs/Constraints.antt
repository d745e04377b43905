-- general_constraints_info() written in the record's order: its length, and then all its bits.
use Rattle.std.specs.Prelude.{ℕ, zero, suc, ◌+◌, ◌-◌, ◌%◌, ◌≤◌, ◌<◌, ◌≡◌, refl, List, [], ◌∷◌, Bool, true, false, leb, ltb, eqb, length, get_or, drop, Result}
use Rattle.std.proofs.Common.{sym, ap, ap₂, ◌∙◌, subst, append-nil, arith, leb-true, leb-false, le-ltb}
use Rattle.std.proofs.lemmas.Bool.{lt-leb}
use Rattle.refusals.specs.declared.refusal.Refusal.{Refusal}
use Rattle.bits.specs.Bits.{bits_of}
use Rattle.vps_definition.specs.Syntax.{Syntax, ◌>>=◌, Written, putting, emit}
use Rattle.vps_definition.specs.Syntax.Syntax.{done}
use Rattle.vps_definition.specs.Syntax.Token.{number}
use Rattle.vps_definition.specs.Syntax.Written.{wrote, bad}
use Rattle.vps_definition.specs.Words.{inferred, keeps, repeat}
use Rattle.vps_definition.specs.ProfileTierLevel.{ahead, number_of, constraint_bit, constraints}
use Rattle.vps_definition.specs.Writing.{all_flags}
use Rattle.vps_laws.specs.Bind.{then_write, emit_bind}
use Rattle.vps_laws.specs.Keeps.{clash}
use Rattle.ptl_slots.specs.Standing.{standing, length_standing, get_standing, standing_drop, standing_behind}
use Rattle.ptl_slots.specs.Slot.{more_constraints}
use Rattle.table_steps.specs.Words.{kept_field}
use Rattle.writing.specs.declared.Writing.{Writing}
use Rattle.writing.specs.Emits.{Emits}
use Rattle.writing.specs.Laws.{emits_same}
use Rattle.writing.specs.Steps.{guarded}
use Rattle.writing.specs.Kept.{tokens, standing_rest, keeps_emit, keeps_short, shut}
use Rattle.writing.specs.Flags.{flags_written, flags_emitted, flags_short, flags_ahead}

-- ── The bits ahead ────────────────────────────────────────────────────
bit_first : (v : ℕ) (l : List ℕ) (b : Bool) (at : ℕ) (x : List ℕ) (r : List ℕ)
    → putting [] (v ∷ []) (then_write at (guarded b (wrote l [] x l)) (λ l y next. emit (done (v ∷ l)) r y next)) ≡ guarded b (wrote (v ∷ l) [] x (v ∷ l))
unfolding putting then_write emit
bit_first v l true at x r = ap (λ (k : List ℕ). wrote (v ∷ l) [] x (v ∷ k)) (append-nil l)
bit_first v l false at x r = refl

unfits : {A : Type 0} (W : Written A) (v : ℕ) → elim (ltb (suc (suc v)) 2) as (λ d. Written A) [ true ↦ W | false ↦ bad ] ≡ bad
unfits W v = rw (le-ltb (suc (suc v)) 2 (omega arith)) refl

ahead_emits : (n i : ℕ) (r x : List ℕ) (at : ℕ) → emit (ahead n i) r x at ≡ guarded (all_flags (standing n i x)) (wrote (standing n i x) [] x (standing n i x))
unfolding ahead standing emit all_flags bits_of
ahead_emits zero i r x at = refl
ahead_emits (suc n) i r x at = go (get_or x i 0) (ahead_emits n (i + 1) r x (at + 1))
  where
    l : List ℕ
    l = standing n (i + 1) x

    F : (v : ℕ) → List ℕ → List ℕ → ℕ → Written (List ℕ)
    F v l y next = emit (done (v ∷ l)) r y next

    rest : (v : ℕ) → emit (ahead n (i + 1)) r x (at + 1) ≡ guarded (all_flags l) (wrote l [] x l) → emit (ahead n (i + 1) >>= λ l. done (v ∷ l)) r x (at + 1) ≡ then_write (at + 1) (guarded (all_flags l) (wrote l [] x l)) (F v)
    rest v e = emit_bind (ahead n (i + 1)) (λ l. done (v ∷ l)) r x (at + 1) ∙ ap (λ (W : Written (List ℕ)). then_write (at + 1) W (F v)) e

    go : (v : ℕ) → emit (ahead n (i + 1)) r x (at + 1) ≡ guarded (all_flags l) (wrote l [] x l)
        → elim (ltb v 2) as (λ d. Written (List ℕ)) [ true ↦ putting [] (bits_of 1 v) (emit (ahead n (i + 1) >>= λ l. done (v ∷ l)) r x (at + 1)) | false ↦ bad ]
        ≡ guarded (all_flags (v ∷ l)) (wrote (v ∷ l) [] x (v ∷ l))
    go zero e = ap (putting [] (0 ∷ [])) (rest 0 e) ∙ bit_first 0 l (all_flags l) (at + 1) x r
    go (suc zero) e = ap (putting [] (1 ∷ [])) (rest 1 e) ∙ bit_first 1 l (all_flags l) (at + 1) x r
    go (suc (suc v)) e = unfits _ v ∙ sym (rw (lt-leb (suc (suc v)) 1 (omega arith), all_flags) refl)

-- bits that are written are 0 or 1
Bits : List ℕ → Type 0
Bits l = (k : ℕ) → get_or l k 0 < 2

flags_bits : (l : List ℕ) → all_flags l ≡ true → Bits l
unfolding all_flags Bits
flags_bits [] e k = omega arith
flags_bits (zero ∷ l) e zero = omega arith
flags_bits (suc zero ∷ l) e zero = omega arith
flags_bits (zero ∷ l) e (suc k) = flags_bits l e k
flags_bits (suc zero ∷ l) e (suc k) = flags_bits l e k
flags_bits (suc (suc v) ∷ l) e k = clash e (rw (lt-leb (suc (suc v)) 1 (omega arith), all_flags) refl)

more_most : (x : List ℕ) → Bits (standing 77 1 x) → more_constraints x < 256
unfolding number_of standing Bits
more_most x h = omega (arith, bit 70 refl refl, bit 71 refl refl, bit 72 refl refl, bit 73 refl refl, bit 74 refl refl, bit 75 refl refl, bit 76 refl refl, bit 77 refl refl)
  where
    bit : (k : ℕ) → leb 1 k ≡ true → leb k 77 ≡ true → get_or x k 0 < 2
    bit k l m =
        let a : 1 ≤ k = leb-true 1 k l in
        let b : k - 1 < 77 = omega (arith, leb-true k 77 m) in
        let e : 1 + (k - 1) ≡ k = omega arith in
        omega (arith, h (k - 1), get_standing 77 1 (k - 1) x b, ap (λ (j : ℕ). get_or x j 0) e)

-- bits that are written first, and kept then
bits_first : {A : Type 0} (v : ℕ) (l : List ℕ) (W : Written A) → putting (number v ∷ []) [] (putting (tokens l) l W) ≡ putting [] l (putting (number v ∷ []) [] (putting (tokens l) [] W))
unfolding putting
bits_first v l (wrote a t x b) = refl
bits_first v l bad = refl

-- ── Their length, and the bits behind it ──────────────────────────────
-- the length, and then all bits
abbrev pub in_order : ℕ → Syntax (Unit {0})
in_order v = inferred v >>= λ n. repeat n (kept_field 1)

-- the length is the record's, or isn't
both : {A : Type 0} {W : Written A} (b : Bool) (l : List ℕ) (U : Written A) → W ≡ putting [] l U
    → elim b as (λ d. Written A) [ true ↦ W | false ↦ bad ] ≡ putting [] l (elim b as (λ d. Written A) [ true ↦ U | false ↦ bad ])
unfolding putting
both true l U e = e
both false l U e = refl

-- what stands behind the bits ahead
abbrev behind : ℕ → List ℕ → Syntax (Unit {0})
behind k fixed = inferred k >>= λ n. keeps fixed >>= λ t. repeat (n - 77) constraint_bit

-- the bits as they stand behind a length v: the first 77 of them, and then the others
module _ (v : ℕ) (h : 77 ≤ v) (y : List ℕ) where
  abbrev fixed : List ℕ
  fixed = standing 77 0 y

  abbrev others : Syntax (Unit {0})
  others = repeat (v - 77) (kept_field 1)

  fixed_first : 77 ≤ length y → flags_written v y ≡ guarded (all_flags fixed) (putting (tokens fixed) fixed (flags_written (v - 77) (drop 77 y)))
  fixed_first l =
      let e : v ≡ length fixed + (v - 77) = omega (arith, h, length_standing 77 0 y) in
      ap₂ flags_written e (sym (standing_rest 77 y l)) ∙ flags_ahead fixed (drop 77 y) (v - 77)

  -- a bit among the first is none, or is missing
  in_order_bad : all_flags fixed ≡ false → flags_written v y ≡ bad
  in_order_bad e = go (leb 77 (length y)) refl
    where
      go : (b : Bool) → leb 77 (length y) ≡ b → flags_written v y ≡ bad
      go true i = fixed_first (leb-true 77 (length y) i) ∙ ap (λ (b : Bool). guarded b (putting (tokens fixed) fixed (flags_written (v - 77) (drop 77 y)))) e
      go false i = flags_short v y (omega (arith, h, leb-false 77 (length y) i))

  -- the first are good
  in_order_good : (r : List ℕ) (at next : ℕ) → all_flags fixed ≡ true
      → putting (number v ∷ []) [] (flags_written v y) ≡ putting [] fixed (putting (number v ∷ []) [] (emit (keeps fixed >>= λ k. others) r y next))
  unfolding putting
  in_order_good r at next e = go (leb 77 (length y)) refl
    where
      whole : Written (Unit {0}) → Written (Unit {0})
      whole W = putting [] fixed (putting (number v ∷ []) [] W)

      go : (b : Bool) → leb 77 (length y) ≡ b → putting (number v ∷ []) [] (flags_written v y) ≡ whole (emit (keeps fixed >>= λ k. others) r y next)
      go true i =
          let l : 77 ≤ length y = leb-true 77 (length y) i in
          let z : List ℕ = drop 77 y in
          let W : Written (Unit {0}) = flags_written (v - 77) z in
          ap (putting (number v ∷ []) []) (fixed_first l ∙ ap (λ (b : Bool). guarded b (putting (tokens fixed) fixed W)) e)
          ∙ bits_first v fixed W
          ∙ ap (λ (U : Written (Unit {0})). whole (putting (tokens fixed) [] U)) (sym (flags_emitted (v - 77) r z next))
          ∙ ap whole (sym (keeps_emit (λ k. others) r fixed z next) ∙ ap (λ (x : List ℕ). emit (keeps fixed >>= λ k. others) r x next) (standing_rest 77 y l))
      go false i =
          let l : length y < 77 = leb-false 77 (length y) i in
          ap (putting (number v ∷ []) []) (flags_short v y (omega (arith, h, l)))
          ∙ ap whole (sym (keeps_short (λ k. others) r fixed y next (omega (arith, l, length_standing 77 0 y))))

  -- behind a number, which is the length or isn't
  from_length : (n : ℕ) (r : List ℕ) (at next : ℕ) → all_flags fixed ≡ true → emit (in_order v) r (n ∷ y) at ≡ putting [] fixed (emit (behind v fixed) r (n ∷ y) next)
  unfolding emit inferred ◌>>=◌ constraint_bit
  from_length n r at next e =
      both (eqb n v) fixed (putting (number v ∷ []) [] (emit (keeps fixed >>= λ k. others) r y next)) (ap (putting (number v ∷ []) []) (flags_emitted v r y at) ∙ in_order_good r at next e)

  from_length_bad : (n : ℕ) (r : List ℕ) (at : ℕ) → all_flags fixed ≡ false → emit (in_order v) r (n ∷ y) at ≡ bad
  unfolding emit inferred ◌>>=◌ putting
  from_length_bad n r at e = shut (eqb n v) (ap (putting (number v ∷ []) []) (flags_emitted v r y at ∙ in_order_bad e))

length_same : (x : List ℕ) → all_flags (standing 77 1 x) ≡ true → 77 + more_constraints x % 256 ≡ 77 + number_of 0 (drop 69 (standing 77 1 x))
length_same x e =
    let b : number_of 0 (drop 69 (standing 77 1 x)) ≡ more_constraints x = ap (number_of 0) (standing_behind 69 8 1 x) in
    omega (arith, b, more_most x (flags_bits (standing 77 1 x) e))

from_ahead : (b : Bool) (r x : List ℕ) (at : ℕ) → all_flags (standing 77 1 x) ≡ b → emit (in_order (77 + more_constraints x % 256)) r x at
    ≡ then_write at (guarded b (wrote (standing 77 1 x) [] x (standing 77 1 x))) (λ a y next. emit (behind (77 + number_of 0 (drop 69 a)) a) r y next)
unfolding emit then_write putting inferred ◌>>=◌ constraint_bit
from_ahead true r [] at e = refl
from_ahead false r [] at e = refl
from_ahead true r (v ∷ y) at e =
    let k : ℕ = 77 + more_constraints (v ∷ y) % 256 in
    let s : standing 77 0 y ≡ standing 77 1 (v ∷ y) = standing_drop 77 0 (v ∷ y) in
    let next : ℕ = at + length (standing 77 1 (v ∷ y)) in
    from_length k (omega arith) y v r at next (ap all_flags s ∙ e) ∙ ap₂ (λ (j : ℕ) (l : List ℕ). putting [] l (emit (behind j l) r (v ∷ y) next)) (length_same (v ∷ y) e) s
from_ahead false r (v ∷ y) at e =
    let s : standing 77 0 y ≡ standing 77 1 (v ∷ y) = standing_drop 77 0 (v ∷ y) in
    from_length_bad (77 + more_constraints (v ∷ y) % 256) (omega arith) y v r at (ap all_flags s ∙ e)

constraints_emit : (r x : List ℕ) (at : ℕ) → emit (in_order (77 + more_constraints x % 256)) r x at ≡ emit constraints r x at
unfolding constraints
constraints_emit r x at =
    let F : List ℕ → List ℕ → ℕ → Written (Unit {0}) = λ a y next. emit (behind (77 + number_of 0 (drop 69 a)) a) r y next in
    from_ahead (all_flags (standing 77 1 x)) r x at refl
    ∙ ap (λ (W : Written (List ℕ)). then_write at W F) (sym (ahead_emits 77 1 r x at))
    ∙ sym (emit_bind (ahead 77 1) (λ fixed. behind (77 + number_of 0 (drop 69 fixed)) fixed) r x at)

-- who goes along the bits in the record's order behind the length that they say writes the table
pub emits_constraints : {s s' : Writing} {r : Result (Unit {0}) Refusal} {more : ℕ} → more ≡ more_constraints (drop s.c s.rec.now) → Emits (in_order (77 + more % 256)) s r s' → Emits constraints s r s'
emits_constraints {s} {s'} {r} e M = emits_same (λ at. constraints_emit s.rec.now (drop s.c s.rec.now) at) (subst (λ (k : ℕ). Emits (in_order (77 + k % 256)) s r s') e M)
