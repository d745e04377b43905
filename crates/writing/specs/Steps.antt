-- What the steps rest on, over plain values: one lemma for each way that a step goes.
use Rattle.std.specs.Prelude.{ℕ, ◌+◌, ◌-◌, ◌/◌, ◌^◌, ◌≤◌, ◌<◌, ◌≡◌, List, [], ◌∷◌, ◌++◌, Bool, true, false, ltb, leb, eqb, length, get_or, drop, replicate, Result, Ok, Err}
use Rattle.std.proofs.Math.Path.{refl}
use Rattle.std.proofs.Common.{sym, ap, ◌∙◌, subst, append-nil, one-mul, le-div_iff_mul-le, add-one, add-zero, arith, le-leb, lt-ltb, ltb-true, ltb-false, eq-eqb, ne_eqb, drop_of_length-le, length-append, pow_pos, drop-cons}
use Rattle.std.proofs.Math.Nat.{div-eq_of_lt}
use Rattle.std.proofs.lemmas.Bool.{lt-leb}
use Rattle.refusals.specs.declared.refusal.Refusal.{Refusal}
use Rattle.refusals.specs.declared.refusal.Refusal.TheVariants.{NotWellFormed}
use Rattle.bits.specs.Bits.{field_width, bits_of, to_boundary}
use Rattle.bits.specs.FieldLaws.{bits_of_zero}
use Rattle.bits.specs.Code.{code_of}
use Rattle.bit_sink.specs.declared.Sink.{Sink}
use Rattle.bit_sink.specs.declared.SoFar.{SoFar}
use Rattle.bit_sink.specs.Holds.{limit, Holds}
use Rattle.bit_sink.specs.Puts.{SameOutput, Puts}
use Rattle.vps_definition.specs.Syntax.{Syntax, Token, numbers, Written, putting, emit}
use Rattle.vps_definition.specs.Syntax.Syntax.{field, code, late, done}
use Rattle.vps_definition.specs.Syntax.Token.{number}
use Rattle.vps_definition.specs.Syntax.Written.{wrote, bad}
use Rattle.vps_definition.specs.Words.{inferred, nothing, aligned, check}
use Rattle.vps_laws.specs.Inversion.{open_guard}
use Rattle.writing.specs.declared.Writing.{Writing}
use Rattle.writing.specs.Emits.{most_bits, Ready, Fails, Stays, Emits}
use Rattle.writing.specs.Laws.{stays_all, stays_then}
use Rattle.writing.specs.Pushes.{IsNext, NoNext, Pushes}

not_both : {X : Type 0} {b : Bool} → b ≡ false → b ≡ true → X
not_both e f = absurd (let n : ◌≡◌ {A = ℕ} 0 1 = cc in omega arith)

-- ── Bits that are pushed ──────────────────────────────────────────────
-- a value fits a width where nothing of it is left above
pub none_above : (v w : ℕ) → eqb (v / 2 ^ w) 0 ≡ ltb v (2 ^ w)
none_above v w = go (ltb v (2 ^ w)) refl
  where
    go : (b : Bool) → ltb v (2 ^ w) ≡ b → eqb (v / 2 ^ w) 0 ≡ b
    go true e = eq-eqb (v / 2 ^ w) 0 (div-eq_of_lt (ltb-true v (2 ^ w) e))
    go false e = ne_eqb (v / 2 ^ w) 0 (λ z. absurd (omega (arith, above, z)))
      where
        above : 1 ≤ v / 2 ^ w
        above = (le-div_iff_mul-le {k = 2 ^ w} {x = 1} {y = v} (pow_pos w)).1 (subst (λ (n : ℕ). n ≤ v) (sym (one-mul (2 ^ w))) (ltb-false v (2 ^ w) e))

-- no bits are pushed
pub pushes_none : {fits fits' : Bool} {b : List ℕ} {s : Writing} {n : ℕ} → fits ≡ fits' → (fits' ≡ true → n ≡ length b) → (fits ≡ true → most_bits < s.so_far.bits + n)
    → Pushes fits' b s (Err NotWellFormed) s
pushes_none f l h = record { stays = stays_all; next = refl; says = (refl, (λ g. omega (arith, h (f ∙ g), l g)), refl) }

-- bits are pushed, by a sink that the output is lent to
pub pushes_bits : {fits fits' : Bool} {b : List ℕ} {s : Writing} {k k' : Sink} {n : ℕ} → fits ≡ fits' → (fits' ≡ true → n ≡ length b) → (fits ≡ true) × (s.so_far.bits + n ≤ most_bits)
    → k.so_far ≡ s.so_far → k.out.now ≡ s.out.now → SameOutput k k' → (fits' ≡ true → Puts b k k') → {out : List ℕ} → out ≡ k'.out.now
    → Pushes fits' b s (Ok tt) (record { rec = s.rec; out = record s.out { now = out }; c = s.c; so_far = k'.so_far })
pushes_bits {b = b} {s = s} {k = k} {k' = k'} f l room ep eo O P {out} e =
    let g = sym f ∙ room.0 in
    record {
      stays = record { rec = refl; same = refl; long = ap length e ∙ O.long ∙ ap length eo };
      next = refl;
      says = record {
        fitting = g;
        ready = λ start d lent R.
            let h : Holds start d k.so_far lent k.out.now = subst (λ (p : SoFar). Holds start d p lent k.out.now) (sym ep) (subst (λ (o : List ℕ). Holds start d s.so_far lent o) (sym eo) R.holds) in
            let r : length d + length b < limit = omega (arith, room.1, l g, R.holds.counted) in
            record {
              short = omega (arith, room.1, l g, R.holds.counted, length-append d b);
              holds = subst (λ (o : List ℕ). Holds start (d ++ b) k'.so_far lent o) (sym e) ((P g).holds start d lent h r);
            };
      };
    }

-- no bits
pub pushes_nothing : {s : Writing} → Pushes true [] s (Ok tt) s
pushes_nothing {s} = record {
  stays = stays_all;
  next = refl;
  says = record {
    fitting = refl;
    ready = λ start d lent R. subst (λ (l : List ℕ). Ready start l s lent) (sym (append-nil d)) R;
  };
}

-- ── How a step ends ───────────────────────────────────────────────────
abbrev pub guarded : {A : Type 0} → Bool → Written A → Written A
guarded true W = W
guarded false W = bad

-- k numbers of the record are passed
pub record Passed (k : ℕ) (s s' : Writing) : Type 0 where
  pub by : s'.c ≡ s.c + k
  pub stays : Stays s s'
  pub ready : (start : ℕ) (d lent : List ℕ) → Ready start d s lent → Ready start d s' lent

pub passed_none : {s : Writing} → Passed 0 s s
passed_none {s} = record { by = sym (add-zero s.c); stays = stays_all; ready = λ start d lent R. R }

pub passed : (k : ℕ) {s : Writing} → Passed k s (record { rec = s.rec; out = s.out; c = s.c + k; so_far = s.so_far })
passed k = record { by = refl; stays = record { rec = refl; same = refl; long = refl }; ready = λ start d lent R. record { short = R.short; holds = R.holds } }

pub passed_one : {s : Writing} → Passed 1 s (record { rec = s.rec; out = s.out; c = s.c + 1; so_far = s.so_far })
passed_one = passed 1

module _ {A : Type 0} {m : Syntax A} {s s₁ : Writing} {fits : Bool} {b : List ℕ} (a : A) (t : List Token)
    (E : (at : ℕ) → at ≡ s.so_far.bits → emit m s.rec.now (drop s.c s.rec.now) at ≡ guarded fits (wrote a t (drop (s.c + length (numbers t)) s.rec.now) b)) where
  -- the word is written
  pub emits_pushed : {s' : Writing} → Pushes fits b s (Ok tt) s₁ → Passed (length (numbers t)) s₁ s' → Emits m s (Ok a) s'
  emits_pushed {s'} P Q =
      let moved : s'.c ≡ s.c + length (numbers t) = Q.by ∙ ap (λ (n : ℕ). n + length (numbers t)) P.next in
      record {
        stays = stays_then P.stays Q.stays;
        says = λ start d lent R. record {
          tokens = t;
          bits = b;
          is = E (length d) (sym R.holds.counted) ∙ ap (λ (f : Bool). guarded f (wrote a t (drop (s.c + length (numbers t)) s.rec.now) b)) P.says.fitting
              ∙ ap (λ (n : ℕ). wrote a t (drop n s.rec.now) b) (sym moved);
          moved = moved;
          ready = Q.ready start (d ++ b) lent (P.says.ready start d lent R);
        };
      }

  -- its value doesn't fit, or its bits are too many
  pub emits_refused : {e : Refusal} → Pushes fits b s (Err e) s₁ → Emits m s (Err e) s₁
  emits_refused P = record {
    stays = P.stays;
    says = (P.says.0, λ start d lent R. subst (Fails (length d)) (sym (E (length d) (sym R.holds.counted))) (fail fits refl (length d) R.holds.counted P.says.1));
  }
    where
      fail : (f : Bool) → fits ≡ f → (n : ℕ) → s.so_far.bits ≡ n → (fits ≡ true → most_bits < s.so_far.bits + length b) → Fails n (guarded f (wrote a t (drop (s.c + length (numbers t)) s.rec.now) b))
      fail true f n i k = omega (arith, k f, i)
      fail false f n i k = tt

-- the word is not well formed
pub emits_bad : {A : Type 0} {m : Syntax A} {s : Writing} {e : Refusal} → e ≡ NotWellFormed → ((at : ℕ) → emit m s.rec.now (drop s.c s.rec.now) at ≡ bad) → Emits m s (Err e) s
emits_bad h E = record { stays = stays_all; says = (h, λ start d lent R. subst (Fails (length d)) (sym (E (length d))) tt) }

-- ── What each word writes ─────────────────────────────────────────────
next_number : (rec : List ℕ) (c : ℕ) → c < length rec → drop c rec ≡ get_or rec c 0 ∷ drop (c + 1) rec
next_number rec c l = drop-cons rec c 0 l ∙ ap (λ (n : ℕ). get_or rec c 0 ∷ drop n rec) (sym (add-one c))

guard_is : {A : Type 0} {W X : Written A} (c : Bool) → W ≡ X → elim c as (λ d. Written A) [ true ↦ W | false ↦ bad ] ≡ guarded c X
guard_is true e = e
guard_is false e = refl

guard_shut : {A : Type 0} (c : Bool) (W : Written A) → c ≡ false → ◌≡◌ {A = Written A} (elim c as (λ d. Written A) [ true ↦ W | false ↦ bad ]) bad
guard_shut true W e = not_both e refl
guard_shut false W e = refl

module _ (rec : List ℕ) (c : ℕ) (l : c < length rec) where
  abbrev n : ℕ
  n = get_or rec c 0

  from_next : {A : Type 0} (m : Syntax A) (at : ℕ) → emit m rec (drop c rec) at ≡ emit m rec (n ∷ drop (c + 1) rec) at
  from_next m at = ap (λ (x : List ℕ). emit m rec x at) (next_number rec c l)

  -- the record's number, of a field or a code that it has `plus` added to
  pub field_low : (w plus : ℕ) → n < plus → (at : ℕ) → emit (field w plus done) rec (drop c rec) at ≡ bad
  unfolding emit
  field_low w plus h at = from_next (field w plus done) at ∙ guard_shut (leb plus n) _ (lt-leb plus n h)

  pub code_low : (plus : ℕ) → n < plus → (at : ℕ) → emit (code plus done) rec (drop c rec) at ≡ bad
  unfolding emit
  code_low plus h at = from_next (code plus done) at ∙ guard_shut (leb plus n) _ (lt-leb plus n h)

  pub field_emits : (w plus : ℕ) → plus ≤ n → (at : ℕ) → emit (field w plus done) rec (drop c rec) at ≡ guarded (ltb (n - plus) (2 ^ w)) (wrote n (number n ∷ []) (drop (c + 1) rec) (bits_of w (n - plus)))
  unfolding emit putting
  field_emits w plus h at =
      from_next (field w plus done) at
      ∙ open_guard (leb plus n) (le-leb plus n h) (guard_is (ltb (n - plus) (2 ^ w)) (ap (wrote n (number n ∷ []) (drop (c + 1) rec)) (append-nil (bits_of w (n - plus)))))

  pub code_emits : (plus : ℕ) → plus ≤ n → (at : ℕ) → emit (code plus done) rec (drop c rec) at ≡ guarded (ltb (n - plus) 4294967295) (wrote n (number n ∷ []) (drop (c + 1) rec) (code_of (n - plus)))
  unfolding emit putting
  code_emits plus h at =
      from_next (code plus done) at
      ∙ open_guard (leb plus n) (le-leb plus n h) (guard_is (ltb (n - plus) 4294967295) (ap (wrote n (number n ∷ []) (drop (c + 1) rec)) (append-nil (code_of (n - plus)))))

  -- the record's number is v or not
  pub kept_emits : (v : ℕ) → n ≡ v → (at : ℕ) → emit (inferred v) rec (drop c rec) at ≡ wrote v (number v ∷ []) (drop (c + 1) rec) []
  unfolding emit putting inferred
  kept_emits v e at = from_next (inferred v) at ∙ open_guard (eqb n v) (eq-eqb n v e) refl

  pub other_emits : (v : ℕ) → (n ≡ v → ⊥) → (at : ℕ) → emit (inferred v) rec (drop c rec) at ≡ bad
  unfolding emit inferred
  other_emits v e at = from_next (inferred v) at ∙ guard_shut (eqb n v) _ (ne_eqb n v e)

-- a value that is found elsewhere
pub late_emits : (w v : ℕ) (find : List ℕ → List ℕ → ℕ) (r x : List ℕ) → find r x ≡ v → (at : ℕ) → emit (late w find done) r x at ≡ guarded (ltb v (2 ^ w)) (wrote v [] x (bits_of w v))
unfolding emit putting
late_emits w v find r x e at =
    guard_is (ltb (find r x) (2 ^ w)) (ap (wrote (find r x) [] x) (append-nil (bits_of w (find r x)))) ∙ ap (λ (n : ℕ). guarded (ltb n (2 ^ w)) (wrote n [] x (bits_of w n))) e

-- zeros to the boundary
pub boundary_width : {more : ℕ} (at : ℕ) → more ≡ to_boundary at → field_width more ≡ more
boundary_width {more} at e = rw (lt-ltb more 32 (omega (arith, e))) refl

boundary_zeros : {more : ℕ} (at : ℕ) → more ≡ to_boundary at → bits_of (field_width more) 0 ≡ replicate (to_boundary at) 0
boundary_zeros {more} at e = ap (λ (k : ℕ). bits_of k 0) (boundary_width at e) ∙ bits_of_zero more ∙ ap (λ (k : ℕ). replicate k 0) e

pub aligned_emits : (n : ℕ) (r x : List ℕ) (here at : ℕ) → at ≡ here → emit (aligned n) r x at ≡ wrote tt [] x (replicate (to_boundary here) 0)
unfolding emit putting aligned nothing
aligned_emits n r x here at e = ap (wrote tt [] x) (append-nil (replicate (to_boundary at) 0) ∙ ap (λ (k : ℕ). replicate (to_boundary k) 0) e)

-- ── The steps ─────────────────────────────────────────────────────────
-- no number is left, or it is lower than what is added to it
none_left : {A : Type 0} (s : Writing) (m : Syntax A) (plus : ℕ) → ((at : ℕ) → emit m s.rec.now [] at ≡ bad)
    → (s.c < length s.rec.now → get_or s.rec.now s.c 0 < plus → (at : ℕ) → emit m s.rec.now (drop s.c s.rec.now) at ≡ bad) → (s.c < length s.rec.now → get_or s.rec.now s.c 0 < plus) → (at : ℕ)
    → emit m s.rec.now (drop s.c s.rec.now) at ≡ bad
none_left s m plus E F h at = go (ltb s.c (length s.rec.now)) refl
  where
    go : (b : Bool) → ltb s.c (length s.rec.now) ≡ b → emit m s.rec.now (drop s.c s.rec.now) at ≡ bad
    go true e = let l = ltb-true s.c (length s.rec.now) e in F l (h l) at
    go false e = ap (λ (x : List ℕ). emit m s.rec.now x at) (drop_of_length-le s.rec.now (ltb-false s.c (length s.rec.now) e)) ∙ E at

-- the record's number has a name
module _ (s : Writing) {v : ℕ} (plus : ℕ) (N : IsNext plus s v) where
  field_is : (w at : ℕ) → emit (field w plus done) s.rec.now (drop s.c s.rec.now) at
      ≡ guarded (ltb (v - plus) (2 ^ w)) (wrote v (number v ∷ []) (drop (s.c + length (numbers (number v ∷ []))) s.rec.now) (bits_of w (v - plus)))
  unfolding numbers
  field_is w at =
      subst (λ (n : ℕ). emit (field w plus done) s.rec.now (drop s.c s.rec.now) at ≡ guarded (ltb (n - plus) (2 ^ w)) (wrote n (number n ∷ []) (drop (s.c + 1) s.rec.now) (bits_of w (n - plus)))) N.is
      (field_emits s.rec.now s.c N.left w plus (omega (arith, N.enough, N.is)) at)

  code_is : (at : ℕ) → emit (code plus done) s.rec.now (drop s.c s.rec.now) at
      ≡ guarded (ltb (v - plus) 4294967295) (wrote v (number v ∷ []) (drop (s.c + length (numbers (number v ∷ []))) s.rec.now) (code_of (v - plus)))
  unfolding numbers
  code_is at =
      subst (λ (n : ℕ). emit (code plus done) s.rec.now (drop s.c s.rec.now) at ≡ guarded (ltb (n - plus) 4294967295) (wrote n (number n ∷ []) (drop (s.c + 1) s.rec.now) (code_of (n - plus)))) N.is
      (code_emits s.rec.now s.c N.left plus (omega (arith, N.enough, N.is)) at)

module _ {s : Writing} where
  module _ {plus : ℕ} {e : Refusal} (N : NoNext plus s e) where
    pub field_none : (w : ℕ) → Emits (field w plus done) s (Err e) s
    unfolding emit
    field_none w = emits_bad N.says (none_left s (field w plus done) plus (λ at. refl) (λ l. field_low s.rec.now s.c l w plus) N.low)

    pub code_none : Emits (code plus done) s (Err e) s
    unfolding emit
    code_none = emits_bad N.says (none_left s (code plus done) plus (λ at. refl) (λ l. code_low s.rec.now s.c l plus) N.low)

  pub inferred_none : {e : Refusal} → NoNext 0 s e → (v : ℕ) → Emits (inferred v) s (Err e) s
  unfolding emit inferred
  inferred_none N v = emits_bad N.says (none_left s (inferred v) 0 (λ at. refl) (λ l k. absurd (omega (arith, k))) N.low)

  module _ {plus v : ℕ} (N : IsNext plus s v) {s₁ : Writing} where
    pub field_sent : {w : ℕ} → Pushes (ltb (v - plus) (2 ^ w)) (bits_of w (v - plus)) s (Ok tt) s₁ → Emits (field w plus done) s (Ok v) (record { rec = s₁.rec; out = s₁.out; c = s₁.c + 1; so_far = s₁.so_far })
    unfolding numbers
    field_sent {w} P = emits_pushed v (number v ∷ []) (λ at i. field_is s plus N w at) P passed_one

    pub field_refused : {w : ℕ} {x : Refusal} → Pushes (ltb (v - plus) (2 ^ w)) (bits_of w (v - plus)) s (Err x) s₁ → Emits (field w plus done) s (Err x) s₁
    field_refused {w} P = emits_refused v (number v ∷ []) (λ at i. field_is s plus N w at) P

    pub code_sent : Pushes (ltb (v - plus) 4294967295) (code_of (v - plus)) s (Ok tt) s₁ → Emits (code plus done) s (Ok v) (record { rec = s₁.rec; out = s₁.out; c = s₁.c + 1; so_far = s₁.so_far })
    unfolding numbers
    code_sent P = emits_pushed v (number v ∷ []) (λ at i. code_is s plus N at) P passed_one

    pub code_refused : {x : Refusal} → Pushes (ltb (v - plus) 4294967295) (code_of (v - plus)) s (Err x) s₁ → Emits (code plus done) s (Err x) s₁
    code_refused P = emits_refused v (number v ∷ []) (λ at i. code_is s plus N at) P

  -- the number is the one that is not coded, or another
  module _ {v : ℕ} (N : IsNext 0 s v) (u : ℕ) where
    pub inferred_kept : v ≡ u → Emits (inferred u) s (Ok u) (record { rec = s.rec; out = s.out; c = s.c + 1; so_far = s.so_far })
    unfolding numbers
    inferred_kept e = emits_pushed u (number u ∷ []) (λ at i. kept_emits s.rec.now s.c N.left u (N.is ∙ e) at) pushes_nothing passed_one

    pub inferred_other : (v ≡ u → ⊥) → Emits (inferred u) s (Err NotWellFormed) s
    inferred_other n = emits_bad refl (other_emits s.rec.now s.c N.left u (λ i. n (sym N.is ∙ i)))

  -- a value that is found elsewhere
  module _ {s₁ : Writing} {w v : ℕ} where
    pub late_sent : Pushes (ltb v (2 ^ w)) (bits_of w v) s (Ok tt) s₁ → (find : List ℕ → List ℕ → ℕ) → find s.rec.now (drop s.c s.rec.now) ≡ v → Emits (late w find done) s (Ok v) s₁
    unfolding numbers
    late_sent P find e = emits_pushed v [] (λ at i. rw (add-zero s.c) (late_emits w v find s.rec.now (drop s.c s.rec.now) e at)) P passed_none

    pub late_refused : {x : Refusal} → Pushes (ltb v (2 ^ w)) (bits_of w v) s (Err x) s₁ → (find : List ℕ → List ℕ → ℕ) → find s.rec.now (drop s.c s.rec.now) ≡ v → Emits (late w find done) s (Err x) s₁
    unfolding numbers
    late_refused P find e = emits_refused v [] (λ at i. rw (add-zero s.c) (late_emits w v find s.rec.now (drop s.c s.rec.now) e at)) P

  -- zeros to the boundary
  pub align_sent : {s₁ : Writing} (n : ℕ) → Pushes true (replicate (to_boundary s.so_far.bits) 0) s (Ok tt) s₁ → Emits (aligned n) s (Ok tt) s₁
  unfolding numbers
  align_sent n P = emits_pushed tt [] (λ at i. rw (add-zero s.c) (aligned_emits n s.rec.now (drop s.c s.rec.now) s.so_far.bits at i)) P passed_none

  pub align_refused : {s₁ : Writing} {x : Refusal} (n : ℕ) → Pushes true (replicate (to_boundary s.so_far.bits) 0) s (Err x) s₁ → Emits (aligned n) s (Err x) s₁
  unfolding numbers
  align_refused n P = emits_refused tt [] (λ at i. rw (add-zero s.c) (aligned_emits n s.rec.now (drop s.c s.rec.now) s.so_far.bits at i)) P

  -- zeros of a width that leads to the boundary
  pub align_goes : {s₁ : Writing} {more : ℕ} (n : ℕ) (r : Result (Unit {0}) Refusal) → more ≡ to_boundary s.so_far.bits → Pushes true (bits_of (field_width more) 0) s r s₁ → Emits (aligned n) s r s₁
  align_goes {s₁} n r e P = go r (subst (λ (b : List ℕ). Pushes true b s r s₁) (boundary_zeros s.so_far.bits e) P)
    where
      go : (r : Result (Unit {0}) Refusal) → Pushes true (replicate (to_boundary s.so_far.bits) 0) s r s₁ → Emits (aligned n) s r s₁
      go (Ok u) P = align_sent n P
      go (Err x) P = align_refused n P

  -- a condition that doesn't hold
  pub check_fails : (n : ℕ) → Emits (check false n) s (Err NotWellFormed) s
  unfolding emit check
  check_fails n = emits_bad refl (λ at. refl)
