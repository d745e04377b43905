-- What the sink's methods lean on: a byte stored, the whole bytes of a number, and a field behind the bits before it.
use Prim.Native.Nat.{ℕ, ◌+◌, ◌*◌, ◌-◌, ◌/◌, ◌%◌, ◌^◌, ◌≤◌, ◌<◌}
use mathlib.Core.Bool.{Bool, true, false, cond}
use mathlib.Core.List.{List, [], ◌∷◌, ◌++◌, append_assoc, append-nil}
use mathlib.Core.Path.{◌≡◌, refl, sym, ap, ◌∙◌, subst}
use native.Mathlib.Nat.{one-mul, mod-lt, mod-eq_of_lt, lt_of_lt_of_le, div-eq_of_lt}
use native.Mathlib.Numerals.{add-one}
use native.Mathlib.Omega.{arith}
use borrow.Author.Tests.{ltb-false}
use lib.Dec.{ltb, lit<}
use lib.ListN.{length, replicate, drop, set, length-append}
use lib.Pow.{pow_pos, pow_mono, shl_exact}
use lib.Seq.{sets}
use Rattle.std.proofs.lemmas.List.{length-replicate}
use Rattle.stuffing.specs.Stuffing.{zeros_behind, guarded, stuff_behind, stuff}
use Rattle.bits.specs.Bits.{field_width, to_boundary, bits_of, pack}
use Rattle.bits.specs.Code.{prefix_length, code_of}
use Rattle.bits.specs.CodeLaws.{prefix_of, code_is_field}
use Rattle.bits.specs.Writing.{trailing_bits}
use Rattle.bits.specs.ByteLaws.{all_join, all_bits}
use Rattle.bits.specs.FieldLaws.{bits_length, bits_split, bits_of_zero}
use Rattle.bit_sink.specs.declared.Sink.{Sink}
use Rattle.bit_sink.specs.SoFar.{stuffing_so_far, zeros_so_far, stuff_ends, so_far_short, Stuffed, sets_behind, stuffed_none, stuffed_then}
use Rattle.bit_sink.specs.Packing.{bits_low, bits_joined, pack_append, pack_few, pack_short, pack_first, rest_behind}
use Rattle.bit_sink.specs.Holds.{Holds}
use Rattle.bit_sink.specs.Puts.{SameOutput, Stores, StoresEnd, Puts, Finishes}
use Rattle.bit_sink.specs.Laws.{parts, len_bounded}

-- ── Whose output it is ────────────────────────────────────────────────
same_then : {s s₁ s₂ : Sink} → SameOutput s s₁ → SameOutput s₁ s₂ → SameOutput s s₂
same_then S T = record { same = T.same ∙ S.same; long = T.long ∙ S.long }

-- ── A byte ────────────────────────────────────────────────────────────
module _ {z b n : ℕ} {out : List ℕ} where
  pub byte_guarded : {out₁ out₂ : List ℕ} {z' : ℕ} → guarded z b ≡ true → out₁ ≡ set out n 3 → out₂ ≡ set out₁ (n + 1) b → z' ≡ zeros_behind 0 b
      → Stuffed z n out (b ∷ []) z' (n + 2) out₂
  unfolding stuffing_so_far zeros_so_far
  byte_guarded test stored second counted = record { ends = rw test counted; long = rw test refl; stored = rw test (rw (second, stored, add-one n) refl) }

  pub byte_plain : {out₁ : List ℕ} {z' : ℕ} → guarded z b ≡ false → out₁ ≡ set out n b → z' ≡ zeros_behind z b → Stuffed z n out (b ∷ []) z' (n + 1) out₁
  unfolding stuffing_so_far zeros_so_far
  byte_plain test stored counted = record { ends = rw test counted; long = rw test refl; stored = rw test stored }

-- ── Bytes behind others ───────────────────────────────────────────────
stores_none : (s : Sink) → Stores [] s s
stores_none s = record { output = record { same = refl; long = refl }; bits = refl; pending = refl; stuffed = λ l. stuffed_none s.so_far.zeros s.so_far.len s.out.now }

stores_then : {x y : List ℕ} {s s₁ s₂ : Sink} → Stores x s s₁ → Stores y s₁ s₂ → Stores (x ++ y) s s₂
stores_then {x} {y} {s} S T = record {
  output = same_then S.output T.output;
  bits = T.bits ∙ S.bits;
  pending = T.pending ∙ S.pending;
  stuffed = λ l.
      let A = S.stuffed (omega (arith, l, length-append x y)) in
      stuffed_then A (T.stuffed (omega (arith, l, A.long, so_far_short s.so_far.zeros x, length-append x y)));
}

-- ── The whole bytes of a number ───────────────────────────────────────
-- some of them are stored and `left` bits are not: with those, all are
pub record Storing (v w left : ℕ) (s₀ s : Sink) : Type 0 where
  pub done : List ℕ
  pub whole : done ++ pack (bits_of left v) ≡ pack (bits_of w v)
  pub stores : Stores done s₀ s

pub storing_start : (v w : ℕ) (s : Sink) {left : ℕ} → left ≡ w → Storing v w left s s
storing_start v w s e = rw e (record { done = []; whole = refl; stores = stores_none s })

module _ {v w left : ℕ} {s₀ s : Sink} (l : Storing v w left s₀ s) where
  pub storing_step : {left' : ℕ} {s' : Sink} → left ≡ left' + 8 → Stores (v / 2 ^ left' % 256 ∷ []) s s' → Storing v w left' s₀ s'
  storing_step {left'} some stores =
      let byte : ℕ = v / 2 ^ left' % 256 in
      let e : left' ≡ left - 8 = omega arith in
      let first : pack (bits_of left v) ≡ byte ∷ pack (bits_of left' v) = rw e (pack_first left v (omega arith)) in
      record {
        done = l.done ++ (byte ∷ []);
        whole = append_assoc l.done (byte ∷ []) (pack (bits_of left' v)) ∙ ap (λ (x : List ℕ). l.done ++ x) (sym first) ∙ l.whole;
        stores = stores_then l.stores stores;
      }

  pub storing_done : left < 8 → Stores (pack (bits_of w v)) s₀ s
  storing_done few =
      let e : l.done ≡ pack (bits_of w v) = sym (append-nil l.done) ∙ ap (λ (x : List ℕ). l.done ++ x) (sym (pack_few left v few)) ∙ l.whole in
      subst (λ (x : List ℕ). Stores x s₀ s) e l.stores

-- ── The numbers of a field ────────────────────────────────────────────
-- the power that a shift of 1 gives
pub one_shifted : (w : ℕ) → w < 64 → 1 * 2 ^ w % 2 ^ 64 ≡ 2 ^ w
one_shifted w h = shl_exact 1 w 64 (lit< tt) (omega arith) ∙ one-mul (2 ^ w)

-- all bits of a number are its 64 lowest
pub low_all : (v w : ℕ) → v < 2 ^ 64 → 64 ≤ w → v ≡ v % 2 ^ w
low_all v w h l = sym (mod-eq_of_lt (lt_of_lt_of_le h (pow_mono l)))

-- ── A field behind the bits before it ─────────────────────────────────
module _ (q : List ℕ) (n v : ℕ) (aligned : length q % 8 ≡ 0) where
  -- those that make no whole byte are the lowest
  rest_of : drop (8 * (length (q ++ bits_of n v) / 8)) (q ++ bits_of n v) ≡ bits_of (n % 8) v
  rest_of =
      let x : List ℕ = bits_of (8 * (n / 8)) (v / 2 ^ (n % 8)) in
      let y : List ℕ = bits_of (n % 8) v in
      let m : n ≡ 8 * (n / 8) + n % 8 = omega arith in
      let e : q ++ bits_of n v ≡ (q ++ x) ++ y = ap (λ (k : ℕ). q ++ bits_of k v) m ∙ ap (λ (l : List ℕ). q ++ l) (bits_split (8 * (n / 8)) (n % 8) v) ∙ sym (append_assoc q x y) in
      ap (λ (l : List ℕ). drop (8 * (length l / 8)) l) e
      ∙ rest_behind (q ++ x) y (omega (arith, length-append q x, bits_length (8 * (n / 8)) (v / 2 ^ (n % 8)))) (omega (arith, bits_length (n % 8) v))

-- what is stored of the pending bits with those of a value behind them, and what is left of them, holds both
module _ (w value v n : ℕ) {s s₁ : Sink} where
  pub pushed : v ≡ s.so_far.pending * 2 ^ w + value % 2 ^ w → n ≡ s.so_far.bits % 8 + w → Stores (pack (bits_of n v)) s s₁ → {p : ℕ} → p ≡ v % 2 ^ (n % 8) → {more : ℕ} → more ≡ w
      → Puts (bits_of w value) s (record { out = s₁.out; so_far = record { bits = s₁.so_far.bits + more; pending = p; zeros = s₁.so_far.zeros; len = s₁.so_far.len } })
  pushed ev en S {p} ep {more} ew = record {
    holds = λ start b lent h room.
        let P = parts h in
        let c = h.counted in
        let q : List ℕ = P.whole in
        let k : n ≡ length b % 8 + w = omega arith in
        let j : bits_of n v ≡ bits_of (length b % 8) s.so_far.pending ++ bits_of w value = rw (k, ev) (bits_joined (length b % 8) w s.so_far.pending value) in
        let e : b ++ bits_of w value ≡ q ++ bits_of n v =
        ap (λ (x : List ℕ). x ++ bits_of w value) P.split ∙ append_assoc q (bits_of (length b % 8) s.so_far.pending) (bits_of w value) ∙ ap (λ (x : List ℕ). q ++ x) (sym j) in
        let d : pack (b ++ bits_of w value) ≡ pack b ++ pack (bits_of n v) =
        ap pack e ∙ pack_append q (bits_of n v) P.aligned ∙ ap (λ (x : List ℕ). x ++ pack (bits_of n v)) (sym P.packed) in
        let l : length (b ++ bits_of w value) ≡ length b + w = length-append b (bits_of w value) ∙ ap (λ (i : ℕ). length b + i) (bits_length w value) in
        let m : length (b ++ bits_of w value) % 8 ≡ n % 8 = omega arith in
        let stored = S.stuffed (omega (arith, room, h.inside, len_bounded h, en, bits_length w value, bits_length n v, pack_short (bits_of n v))) in
        record {
          inside = h.inside;
          binary = all_join b (bits_of w value) h.binary (all_bits w value);
          counted = omega (arith, S.bits, ew);
          few = rw (m, ep) (mod-lt v (pow_pos (n % 8)));
          behind = ap (λ (x : List ℕ). drop (8 * (length x / 8)) x) e ∙ rest_of q n v P.aligned ∙ sym (bits_low (n % 8) v) ∙ rw (m, ep) refl;
          stuffed = subst (λ (x : List ℕ). Stuffed 0 start lent x s₁.so_far.zeros s₁.so_far.len s₁.out.now) (sym d) (stuffed_then h.stuffed stored);
        };
  }

-- bits behind others
puts_then : {x y : List ℕ} {s s₁ s₂ : Sink} → Puts x s s₁ → Puts y s₁ s₂ → Puts (x ++ y) s s₂
puts_then {x} {y} {s₂ = s₂} P Q = record {
  holds = λ start b lent h room.
      subst (λ (l : List ℕ). Holds start l s₂.so_far lent s₂.out.now) (append_assoc b x y)
      (Q.holds start (b ++ x) lent (P.holds start b lent h (omega (arith, room, length-append x y))) (omega (arith, room, length-append x y, length-append b x)));
}

pub puts_as : {x y : List ℕ} {s s' : Sink} → x ≡ y → Puts x s s' → Puts y s s'
puts_as {s = s} {s' = s'} e P = subst (λ (l : List ℕ). Puts l s s') e P

-- ── Codes, alignment and the end ──────────────────────────────────────
width_kept : (w : ℕ) → w ≤ 32 → field_width w ≡ w
width_kept w h = go (ltb w 32) refl where
  go : (t : Bool) → ltb w 32 ≡ t → cond t w 32 ≡ w
  go true e = refl
  go false e = omega (arith, h, ltb-false w 32 e)

-- a code of a short prefix is one field
pub code_field : (v n k : ℕ) {w : ℕ} → bits_of (2 * k + 1) n ≡ code_of v → k < 16 → w ≡ 2 * k + 1 → bits_of (field_width w) n ≡ code_of v
code_field v n k e few ew = rw (ew, width_kept (2 * k + 1) (omega (arith, few)), e) refl

-- any is two fields: zeros, and the number and one
code_fields : (v : ℕ) → v < 4294967295 → bits_of (field_width (prefix_length v)) 0 ++ bits_of (field_width (prefix_length v + 1)) (v + 1) ≡ code_of v
code_fields v h =
    let k : ℕ = prefix_length v in
    let p = prefix_of v h in
    let e : 2 * k + 1 ≡ k + (k + 1) = omega arith in
    let z : (v + 1) / 2 ^ (k + 1) ≡ 0 = rw (add-one k) (div-eq_of_lt p.most) in
    let c : code_of v ≡ bits_of k 0 ++ bits_of (k + 1) (v + 1) = code_is_field v h ∙ ap (λ (n : ℕ). bits_of n (v + 1)) e ∙ bits_split k (k + 1) (v + 1) ∙ ap (λ (x : ℕ). bits_of k x ++ bits_of (k + 1) (v + 1)) z in
    rw (width_kept k (omega arith), width_kept (k + 1) (omega arith), c) refl

pub code_puts : {v n k : ℕ} {s s₁ s₂ : Sink} → v < 4294967295 → n ≡ v + 1 → k ≡ prefix_length v → Puts (bits_of (field_width k) 0) s s₁ → Puts (bits_of (field_width (k + 1)) n) s₁ s₂ → Puts (code_of v) s s₂
code_puts {v} h en ek P Q = puts_as (rw (ek, en) (code_fields v h)) (puts_then P Q)

-- zeros to the boundary behind n bits are a field
pub boundary_field : (n w : ℕ) → w ≡ to_boundary n → bits_of (field_width w) 0 ≡ replicate (to_boundary n) 0
boundary_field n w e = rw (width_kept w (omega arith), e) (bits_of_zero (to_boundary n))

-- the stop bit and zeros to the boundary behind it are the trailing bits
trailing_fields : (b : List ℕ) {n : ℕ} → n ≡ length (b ++ (1 ∷ [])) → (b ++ (1 ∷ [])) ++ replicate (to_boundary n) 0 ≡ b ++ trailing_bits (length b)
trailing_fields b e =
    append_assoc b (1 ∷ []) (replicate (to_boundary _) 0)
    ∙ ap (λ (n : ℕ). b ++ (1 ∷ replicate (to_boundary n) 0)) (e ∙ length-append b (1 ∷ []))

-- with the end of stuffing behind them they make the whole
module _ {s s₁ s₂ s' : Sink} {n : ℕ} where
  pub finished : Puts (bits_of 1 1) s s₁ → Puts (replicate (to_boundary s₁.so_far.bits) 0) s₁ s₂ → StoresEnd s₂ n s' → Finishes s n s'
  unfolding bits_of
  finished P Q E start b lent h room =
      let stopped : Holds start (b ++ (1 ∷ [])) s₁.so_far lent s₁.out.now = P.holds start b lent h (omega (arith, room)) in
      let zeros : ℕ = to_boundary s₁.so_far.bits in
      let aligned = Q.holds start (b ++ (1 ∷ [])) lent stopped (omega (arith, room, length-append b (1 ∷ []), length-replicate {A = ℕ} zeros 0)) in
      let all : List ℕ = (b ++ (1 ∷ [])) ++ replicate zeros 0 in
      let t : all ≡ b ++ trailing_bits (length b) = trailing_fields b stopped.counted in
      let S = aligned.stuffed in
      let f : List ℕ = stuffing_so_far 0 (pack all) in
      let g : List ℕ = stuff_behind (zeros_so_far 0 (pack all)) [] in
      let e : stuff_behind s₂.so_far.zeros [] ≡ g = ap (λ (z : ℕ). stuff_behind z []) S.ends in
      let a : stuff (pack all) ≡ f ++ g = stuff_ends (pack all) in
      let few : s₂.so_far.len < 2 ^ 62 = omega (arith, room, h.inside, len_bounded aligned, length-append b (1 ∷ []), length-append (b ++ (1 ∷ [])) (replicate zeros 0), length-replicate {A = ℕ} zeros 0) in
      let used : n ≡ start + length (stuff (pack all)) = omega (arith, E.used few, S.long, ap length e, ap length a, length-append f g) in
      let stored : s'.out.now ≡ sets lent start (stuff (pack all)) = E.stored few ∙ ap (sets s₂.out.now s₂.so_far.len) e ∙ sets_behind lent start f g S.stored S.long ∙ ap (sets lent start) (sym a) in
      record { used = used ∙ ap (λ (l : List ℕ). start + length (stuff (pack l))) t; stored = stored ∙ ap (λ (l : List ℕ). sets lent start (stuff (pack l))) t }
