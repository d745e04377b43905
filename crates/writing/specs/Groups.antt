-- Flags that are written in groups, each group as one field.
use Rattle.std.specs.Prelude.{ℕ, zero, suc, ◌+◌, ◌*◌, ◌/◌, ◌%◌, ◌^◌, ◌≤◌, ◌<◌, ◌≡◌, refl, List, [], ◌∷◌, ◌++◌, Bool, true, false, cond, ltb, length, get_or, take, drop, Result, Ok, Err}
use Rattle.std.proofs.Common.{sym, ap, ap₂, ◌∙◌, subst, append-nil, append_assoc, add-zero, add-one, arith, take-suc, length-append, lt-ltb, ltb-false}
use Rattle.std.proofs.Math.ListN.{take-append-drop}
use Rattle.std.proofs.Math.Nat.{two-pow-succ}
use Rattle.std.proofs.Math.Seq.{length-take-le, drop-append_seam}
use Rattle.std.proofs.lemmas.Bool.{lt-leb}
use Rattle.refusals.specs.declared.refusal.Refusal.{Refusal}
use Rattle.refusals.specs.declared.refusal.Refusal.TheVariants.{NotWellFormed}
use Rattle.bits.specs.Bits.{bits_of, field_width}
use Rattle.vps_definition.specs.Syntax.{Syntax, ◌>>=◌, Token, numbers, putting, emit}
use Rattle.vps_definition.specs.Syntax.Written.{wrote}
use Rattle.vps_definition.specs.Words.{loop, repeat}
use Rattle.vps_definition.specs.Writing.{all_flags}
use Rattle.vps_laws.specs.Keeps.{clash}
use Rattle.vps_laws.specs.Loops.{bind_assoc, bind_unit, loop_last}
use Rattle.ptl_slots.specs.Standing.{drop_behind}
use Rattle.table_steps.specs.Laws.{goes_as}
use Rattle.table_steps.specs.Words.{kept_field}
use Rattle.writing.specs.declared.Writing.{Writing}
use Rattle.writing.specs.Emits.{Emits}
use Rattle.writing.specs.Pushes.{Pushes}
use Rattle.writing.specs.Laws.{emits_then, emits_stop, emits_done}
use Rattle.writing.specs.Marked.{laws}
use Rattle.writing.specs.Steps.{guarded, Passed, passed, emits_pushed, emits_refused, emits_bad}
use Rattle.writing.specs.Kept.{tokens, numbers_tokens}
use Rattle.writing.specs.Flags.{flags_written, flags_emitted, flags_short, flags_ahead}

-- ── A group as a number ───────────────────────────────────────────────
-- the number whose bits the flags are, or one of them is no flag
abbrev pub Gathers : List ℕ → Result ℕ Refusal → Type 0
Gathers l (Ok v) = (all_flags l ≡ true) × (v < 2 ^ length l) × (bits_of (length l) v ≡ l)
Gathers l (Err e) = (e ≡ NotWellFormed) × (all_flags l ≡ false)

-- one flag more
flags_last : (l : List ℕ) (x : ℕ) → all_flags l ≡ true → x ≤ 1 → all_flags (l ++ (x ∷ [])) ≡ true
unfolding all_flags
flags_last [] zero e h = refl
flags_last [] (suc zero) e h = refl
flags_last [] (suc (suc x)) e h = absurd (omega (arith, h))
flags_last (zero ∷ l) x e h = flags_last l x e h
flags_last (suc zero ∷ l) x e h = flags_last l x e h
flags_last (suc (suc v) ∷ l) x e h = clash e (rw (lt-leb (suc (suc v)) 1 (omega arith), all_flags) refl)

-- no flag
pub flags_other : (l : List ℕ) (i : ℕ) → i < length l → 1 < get_or l i 0 → all_flags l ≡ false
unfolding all_flags
flags_other [] i h g = absurd (omega (arith, h))
flags_other (zero ∷ l) zero h g = absurd (omega (arith, g))
flags_other (suc zero ∷ l) zero h g = absurd (omega (arith, g))
flags_other (zero ∷ l) (suc i) h g = flags_other l i (omega (arith, h)) g
flags_other (suc zero ∷ l) (suc i) h g = flags_other l i (omega (arith, h)) g
flags_other (suc (suc v) ∷ l) i h g = rw (lt-leb (suc (suc v)) 1 (omega arith), all_flags) refl

-- the first i flags are gathered
pub record Gathered (l : List ℕ) (i v : ℕ) : Type 0 where
  pub flags : all_flags (take i l) ≡ true
  pub low : v < 2 ^ i
  pub bits : bits_of i v ≡ take i l

pub gathered_none : {l : List ℕ} → Gathered l 0 0
unfolding all_flags bits_of
gathered_none = record { flags = refl; low = omega arith; bits = refl }

pub gathered_more : {l : List ℕ} {i v : ℕ} → Gathered l i v → i < length l → get_or l i 0 ≤ 1 → Gathered l (i + 1) (2 * v + get_or l i 0)
unfolding bits_of
gathered_more {l} {i} {v} G h g = record {
  flags = ap all_flags t ∙ flags_last (take i l) x G.flags g;
  low = omega (arith, G.low, g, two-pow-succ i, ap (λ (n : ℕ). 2 ^ n) (add-one i));
  bits = ap (λ (n : ℕ). bits_of n (2 * v + x)) (add-one i) ∙ ap₂ (λ (u : ℕ) (k : List ℕ). k ++ (u ∷ [])) low_bit high_bits ∙ sym t;
}
  where
    x : ℕ
    x = get_or l i 0

    half : (2 * v + x) / 2 ≡ v
    half = omega (arith, g)

    low_bit : (2 * v + x) % 2 ≡ x
    low_bit = omega (arith, g)

    high_bits : bits_of i ((2 * v + x) / 2) ≡ take i l
    high_bits = ap (bits_of i) half ∙ G.bits

    t : take (i + 1) l ≡ take i l ++ (x ∷ [])
    t = ap (λ (n : ℕ). take n l) (add-one i) ∙ take-suc l i 0 h

-- ── Groups in a row ───────────────────────────────────────────────────
repeat_add : (a b : ℕ) (m : Syntax (Unit {0})) → repeat a m >>= (λ x. repeat b m) ≡ repeat (a + b) m
unfolding repeat loop
repeat_add a zero m = bind_unit (repeat a m) ∙ ap (λ (n : ℕ). repeat n m) (sym (add-zero a))
repeat_add a (suc b) m =
    let f : ℕ → Unit {0} → Syntax (Unit {0}) = λ i x. m in
    let e : suc (a + b) ≡ a + suc b = omega arith in
    ap (λ (n : Syntax (Unit {0})). repeat a m >>= (λ x. n)) (loop_last f b 0 tt)
    ∙ sym (bind_assoc (repeat a m) (λ x. repeat b m) (λ x. m))
    ∙ ap (λ (n : Syntax (Unit {0})). n >>= (λ x. m)) (repeat_add a b m)
    ∙ sym (loop_last f (a + b) 0 tt)
    ∙ ap (λ (n : ℕ). repeat n m) e

-- a width of 32 at the most is its own
width_of : (w : ℕ) → w ≤ 32 → field_width w ≡ w
width_of w h = go (ltb w 32) refl
  where
    go : (b : Bool) → ltb w 32 ≡ b → cond b w 32 ≡ w
    go true e = refl
    go false e = omega (arith, h, ltb-false w 32 e)

-- the flags x stand next in the record
module _ (s : Writing) (x y : List ℕ) (e : drop s.c s.rec.now ≡ x ++ y) where
  from_flags : (at : ℕ) → emit (repeat (length x) (kept_field 1)) s.rec.now (drop s.c s.rec.now) at ≡ guarded (all_flags x) (putting (tokens x) x (wrote tt [] y []))
  unfolding flags_written
  from_flags at =
      flags_emitted (length x) s.rec.now (drop s.c s.rec.now) at ∙ ap₂ flags_written (sym (add-zero (length x))) e ∙ flags_ahead x y 0

  group_bad : {a : Refusal} → Gathers x (Err a) → Emits (repeat (length x) (kept_field 1)) s (Err a) s
  group_bad N = emits_bad N.0 (λ at. from_flags at ∙ ap (λ (b : Bool). guarded b (putting (tokens x) x (wrote tt [] y []))) N.1)

  module _ {v : ℕ} (G : Gathers x (Ok v)) (h : length x ≤ 32) where
    long : length (numbers (tokens x)) ≡ length x
    long = ap length (numbers_tokens x)

    group_emits : (at : ℕ) → emit (repeat (length x) (kept_field 1)) s.rec.now (drop s.c s.rec.now) at
        ≡ guarded (ltb v (2 ^ field_width (length x))) (wrote tt (tokens x) (drop (s.c + length (numbers (tokens x))) s.rec.now) (bits_of (field_width (length x)) v))
    unfolding putting
    group_emits at =
        let w : field_width (length x) ≡ length x = width_of (length x) h in
        let f : ltb v (2 ^ field_width (length x)) ≡ true = lt-ltb v (2 ^ field_width (length x)) (omega (arith, G.1, ap (λ (n : ℕ). 2 ^ n) w)) in
        let b : x ≡ bits_of (field_width (length x)) v = sym (ap (λ (n : ℕ). bits_of n v) w ∙ G.2) in
        let r : y ≡ drop (s.c + length (numbers (tokens x))) s.rec.now =
        sym (drop-append_seam x y) ∙ ap (drop (length x)) (sym e) ∙ drop_behind s.c (length x) s.rec.now ∙ ap (λ (n : ℕ). drop (s.c + n) s.rec.now) (sym long) in
        from_flags at ∙ ap (λ (b : Bool). guarded b (putting (tokens x) x (wrote tt [] y []))) (G.0 ∙ sym f)
        ∙ ap₂ (λ (t : List Token) (c : List ℕ). guarded (ltb v (2 ^ field_width (length x))) (wrote tt t y c)) (append-nil (tokens x)) (append-nil x)
        ∙ ap₂ (λ (z c : List ℕ). guarded (ltb v (2 ^ field_width (length x))) (wrote tt (tokens x) z c)) r b

    group_sent : {s₁ s₂ : Writing} → Pushes (ltb v (2 ^ field_width (length x))) (bits_of (field_width (length x)) v) s (Ok tt) s₁ → Passed (length x) s₁ s₂ → Emits (repeat (length x) (kept_field 1)) s (Ok tt) s₂
    group_sent {s₁} {s₂} P Q = emits_pushed tt (tokens x) (λ at i. group_emits at) P (subst (λ (n : ℕ). Passed n s₁ s₂) (sym long) Q)

    group_refused : {s₁ : Writing} {n : Refusal} → Pushes (ltb v (2 ^ field_width (length x))) (bits_of (field_width (length x)) v) s (Err n) s₁ → Emits (repeat (length x) (kept_field 1)) s (Err n) s₁
    group_refused P = emits_refused tt (tokens x) (λ at i. group_emits at) P

-- ── The loop ──────────────────────────────────────────────────────────
-- of n flags these are left
pub record Grouped (n : ℕ) (s : Writing) (rest : List ℕ) (s₁ : Writing) : Type 0 where
  pub tail : List ℕ
  pub there : drop s₁.c s₁.rec.now ≡ rest ++ tail
  pub count : ℕ
  pub left : count + length rest ≡ n
  pub made : Emits (repeat count (kept_field 1)) s (Ok tt) s₁

module _ {n : ℕ} {s : Writing} where
  -- before the first group
  pub grouped_none : {l : List ℕ} → l ≡ take n (drop s.c s.rec.now) → n ≤ length (drop s.c s.rec.now) → Grouped n s l s
  unfolding repeat loop
  grouped_none {l} e h = record {
    tail = drop n (drop s.c s.rec.now);
    there = sym (take-append-drop n (drop s.c s.rec.now)) ∙ ap (λ (k : List ℕ). k ++ drop n (drop s.c s.rec.now)) (sym e);
    count = 0;
    left = omega (arith, ap length e, length-take-le n (drop s.c s.rec.now) h);
    made = emits_done;
  }

  module _ {rest : List ℕ} {s₁ : Writing} (G : Grouped n s rest s₁) (x rest' : List ℕ) (e : rest ≡ x ++ rest') where
    -- they begin with a group
    next : drop s₁.c s₁.rec.now ≡ x ++ (rest' ++ G.tail)
    next = G.there ∙ ap (λ (l : List ℕ). l ++ G.tail) e ∙ append_assoc x rest' G.tail

    -- it is the last that is gone along
    stop : {s₂ : Writing} {a : Refusal} → Emits (repeat (length x) (kept_field 1)) s₁ (Err a) s₂ → Emits (repeat n (kept_field 1)) s (Err a) s₂
    stop M =
        let l : G.count + (length x + length rest') ≡ n = omega (arith, G.left, ap length e, length-append x rest') in
        goes_as laws (repeat_add G.count (length x + length rest') (kept_field 1) ∙ ap (λ (k : ℕ). repeat k (kept_field 1)) l)
        (emits_then (repeat G.count (kept_field 1)) (λ u. repeat (length x + length rest') (kept_field 1)) G.made
        (goes_as laws (repeat_add (length x) (length rest') (kept_field 1)) (emits_stop (repeat (length x) (kept_field 1)) (λ u. repeat (length rest') (kept_field 1)) M)))

    -- one of its numbers is no flag
    pub grouped_bad : {a : Refusal} → Gathers x (Err a) → Emits (repeat n (kept_field 1)) s (Err a) s₁
    grouped_bad N = stop (group_bad s₁ x (rest' ++ G.tail) next N)

    module _ {v : ℕ} (N : Gathers x (Ok v)) (h : length x ≤ 32) {s₂ : Writing} where
      -- it is written
      pub grouped_more : Pushes (ltb v (2 ^ field_width (length x))) (bits_of (field_width (length x)) v) s₁ (Ok tt) s₂
          → Grouped n s rest' (record { rec = s₂.rec; out = s₂.out; c = s₂.c + length x; so_far = s₂.so_far })
      grouped_more P = record {
        tail = G.tail;
        there = (λ k. drop (P.next k + length x) (P.stays.rec k).now) ∙ sym (drop_behind s₁.c (length x) s₁.rec.now) ∙ ap (drop (length x)) next ∙ drop-append_seam x (rest' ++ G.tail);
        count = G.count + length x;
        left = omega (arith, G.left, ap length e, length-append x rest');
        made =
            goes_as laws (repeat_add G.count (length x) (kept_field 1))
            (emits_then (repeat G.count (kept_field 1)) (λ u. repeat (length x) (kept_field 1)) G.made (group_sent s₁ x (rest' ++ G.tail) next N h P (passed (length x))));
      }

      pub grouped_stop : {a : Refusal} → Pushes (ltb v (2 ^ field_width (length x))) (bits_of (field_width (length x)) v) s₁ (Err a) s₂ → Emits (repeat n (kept_field 1)) s (Err a) s₂
      grouped_stop P = stop (group_refused s₁ x (rest' ++ G.tail) next N h P)

-- there are too few
pub flags_missing : {s : Writing} (n : ℕ) → length (drop s.c s.rec.now) < n → Emits (repeat n (kept_field 1)) s (Err NotWellFormed) s
flags_missing {s} n h = emits_bad refl (λ at. flags_emitted n s.rec.now (drop s.c s.rec.now) at ∙ flags_short n (drop s.c s.rec.now) h)
