-- Fields coded last first: written one by one, and then passed in the record.
use Rattle.std.specs.Prelude.{ℕ, zero, suc, ◌+◌, ◌-◌, ◌*◌, ◌^◌, ◌≤◌, ◌<◌, ◌≡◌, refl, List, [], ◌∷◌, ◌++◌, ltb, length, get_or, drop, take, Result, Ok, Err}
use Rattle.std.proofs.Common.{sym, ap, ◌∙◌, subst, append_assoc, append-nil, add-one, arith, ltb-true, length-append, length-take, take-suc}
use Rattle.refusals.specs.declared.refusal.Refusal.{Refusal}
use Rattle.refusals.specs.declared.refusal.Refusal.TheVariants.{NotWellFormed}
use Rattle.bits.specs.Bits.{bits_of}
use Rattle.vps_definition.specs.Syntax.{Syntax, ◌>>=◌, Token, numbers, Written, emit}
use Rattle.vps_definition.specs.Syntax.Syntax.{late, done}
use Rattle.vps_definition.specs.Syntax.Written.{wrote, bad}
use Rattle.vps_definition.specs.Words.{sum, keeps}
use Rattle.vps_definition.specs.ProfileTierLevel.{falling, reversed}
use Rattle.vps_laws.specs.Keeps.{Keeps, Returns, keeps_late, keeps_done, keeps_keeps, numbers_append}
use Rattle.vps_laws.proofs.Keeps.{keeps_bind}
use Rattle.vps_laws.specs.Writing.{emit_numbers}
use Rattle.table_steps.specs.Answers.{Gives, IsSum}
use Rattle.ptl_slots.specs.Standing.{standing}
use Rattle.writing.specs.declared.Writing.{Writing}
use Rattle.writing.specs.Emits.{Stays, Emits}
use Rattle.writing.specs.Pushes.{Pushes}
use Rattle.writing.specs.Laws.{stays_all, stays_then, emits_then, emits_stop, emits_done, keeps_written}
use Rattle.writing.specs.Steps.{Passed, emits_bad, late_sent, late_refused}
use Rattle.writing.specs.Kept.{emits_kept}

-- the numbers that stand next in the record
abbrev pub next_numbers : ℕ → Writing → List ℕ
next_numbers n s = standing n 0 (drop s.c s.rec.now)

-- ── Too few numbers ───────────────────────────────────────────────────
falling_long : (n w : ℕ) → Returns (λ l. length l ≡ n) (falling n w)
unfolding falling
falling_long zero w = keeps_done refl
falling_long (suc n) w = keeps_late (λ v h. keeps_bind (falling_long n w) (λ l t e. keeps_done (length-append l (v ∷ []) ∙ omega (arith, e))))

reversed_long : (n w : ℕ) → Keeps (λ l t. n ≤ length (numbers t)) (reversed n w)
unfolding reversed
reversed_long n w = keeps_bind (falling_long n w) (λ l t e. keeps_bind (keeps_keeps l) (λ u x f. keeps_done (long l t x e f)))
  where
    long : (l : List ℕ) (t x : List Token) → length l ≡ n → numbers x ≡ l → n ≤ length (numbers (t ++ (x ++ [])))
    long l t x e f =
        omega (arith, e, ap length f, ap length (numbers_append t (x ++ [])), ap length (numbers_append x []), length-append (numbers t) (numbers (x ++ [])), length-append (numbers x) (numbers []))

pub reversed_short : {s : Writing} (n w : ℕ) → length (drop s.c s.rec.now) < n → Emits (reversed n w) s (Err NotWellFormed) s
reversed_short {s} n w h = emits_bad refl (λ at. go at (emit (reversed n w) s.rec.now x at) refl)
  where
    x : List ℕ
    x = drop s.c s.rec.now

    go : (at : ℕ) (W : Written (List ℕ)) → emit (reversed n w) s.rec.now x at ≡ W → W ≡ bad
    go at (wrote a t y b) e =
        let k : n ≤ length (numbers t) = keeps_written (reversed n w) s.rec.now x at (reversed_long n w) e in
        absurd (omega (arith, h, k, ap length (emit_numbers (reversed n w) s.rec.now x at e), length-append (numbers t) y))
    go at bad e = refl

-- ── Last first ────────────────────────────────────────────────────────
-- fields that are written before those of a result
unfoldable pub behind : List ℕ → Result (List ℕ) Refusal → Result (List ℕ) Refusal
behind t (Ok l) = Ok (l ++ t)
behind t (Err e) = Err e

behind_more : (v : ℕ) (t : List ℕ) (r : Result (List ℕ) Refusal) → behind t (behind (v ∷ []) r) ≡ behind (v ∷ t) r
unfolding behind
behind_more v t (Ok l) = ap Ok (append_assoc l (v ∷ []) t)
behind_more v t (Err e) = refl

-- what the last of numbers is, and those before it
snoc : (a b : List ℕ) (x y : ℕ) → a ++ (x ∷ []) ≡ b ++ (y ∷ []) → (a ≡ b) × (x ≡ y)
snoc [] [] x y e = (refl, cc)
snoc [] (z ∷ b) x y e = absurd (omega (arith, ap length e, length-append b (y ∷ [])))
snoc (z ∷ a) [] x y e = absurd (omega (arith, ap length e, length-append a (x ∷ [])))
snoc (z ∷ a) (w ∷ b) x y e =
    let h : z ≡ w = cc in
    let t : a ++ (x ∷ []) ≡ b ++ (y ∷ []) = cc in
    let S = snoc a b x y t in
    ((λ k. h k ∷ S.0 k), S.1)

module _ (l rest : List ℕ) (x n i : ℕ) (long : n ≤ length l) (e : take (n - i) l ≡ rest ++ (x ∷ [])) where
  pub last_within : i < n
  last_within = omega (arith, ap length e, length-append rest (x ∷ []), length-take (n - i) l)

  pub last_is : (rest ≡ take (n - (i + 1)) l) × (x ≡ get_or l (n - 1 - i) 0)
  last_is =
      let q : suc (n - (i + 1)) ≡ n - i = omega (arith, last_within) in
      let p : n - (i + 1) ≡ n - 1 - i = omega arith in
      let S = snoc (take (n - (i + 1)) l) rest (get_or l (n - (i + 1)) 0) x (sym (take-suc l (n - (i + 1)) 0 (omega (arith, long, last_within))) ∙ ap (λ (k : ℕ). take k l) q ∙ e) in
      (sym S.0, sym S.1 ∙ ap (λ (k : ℕ). get_or l k 0) p)

-- i of n fields are written, those that stand last
pub record Falling (n w : ℕ) (s : Writing) (i : ℕ) (s₁ : Writing) (total : ℕ) : Type 0 where
  pub stays : Stays s s₁
  pub next : s₁.c ≡ s.c
  pub is : total ≡ sum (standing i (n - i) (drop s.c s.rec.now))
  pub low : total ≤ i * 4294967295
  pub ones : w ≡ 1 → total ≤ i
  pub whole : {r : Result (List ℕ) Refusal} {s' : Writing} → Emits (falling (n - i) w) s₁ r s' → Emits (falling n w) s (behind (standing i (n - i) (drop s.c s.rec.now)) r) s'

-- how many are left behind one more, the next of them, and what is left behind it
abbrev left : (n i : ℕ) → ℕ
left n i = n - (i + 1)

abbrev find : ℕ → List ℕ → List ℕ → ℕ
find j r x = get_or x j 0

abbrev others : (j w : ℕ) → ℕ → Syntax (List ℕ)
others j w v = falling j w >>= λ l. done (l ++ (v ∷ []))

module _ {n w : ℕ} {s : Writing} where
  pub falling_begin : Falling n w s 0 s 0
  unfolding standing sum behind
  falling_begin = record { stays = stays_all; next = refl; is = refl; low = omega arith; ones = λ e. omega arith; whole = λ {r} {s'} M. none r M }
    where
      z : n - 0 ≡ n
      z = omega arith

      none : (r : Result (List ℕ) Refusal) {s' : Writing} → Emits (falling (n - 0) w) s r s' → Emits (falling n w) s (behind [] r) s'
      none (Ok l) {s'} M = subst (λ (k : List ℕ). Emits (falling n w) s (Ok k) s') (sym (append-nil l)) (subst (λ (k : ℕ). Emits (falling k w) s (Ok l) s') z M)
      none (Err e) {s'} M = subst (λ (k : ℕ). Emits (falling k w) s (Err e) s') z M

  module _ {i total : ℕ} {s₁ : Writing} (F : Falling n w s i s₁ total) {v : ℕ} (h : i < n) (e : v ≡ get_or (drop s.c s.rec.now) (n - 1 - i) 0) where
    q : n - i ≡ suc (left n i)
    q = omega (arith, h)

    there : get_or (drop s.c s.rec.now) (left n i) 0 ≡ v
    there = let p : left n i ≡ n - 1 - i = omega arith in ap (λ (k : ℕ). get_or (drop s.c s.rec.now) k 0) p ∙ sym e

    finds : get_or (drop s₁.c s₁.rec.now) (left n i) 0 ≡ v
    finds = (λ k. get_or (drop (F.next k) (F.stays.rec k).now) (left n i) 0) ∙ there

    more : v ∷ standing i (n - i) (drop s.c s.rec.now) ≡ standing (i + 1) (left n i) (drop s.c s.rec.now)
    unfolding standing
    more =
        let p : n - i ≡ left n i + 1 = omega (arith, h) in
        (λ k. sym there k ∷ standing i (p k) (drop s.c s.rec.now)) ∙ ap (λ (k : ℕ). standing k (left n i) (drop s.c s.rec.now)) (sym (add-one i))

    module _ {s₂ : Writing} where
      pub falling_turn : v ≤ 4294967295 → Pushes (ltb v (2 ^ w)) (bits_of w v) s₁ (Ok tt) s₂ → Falling n w s (i + 1) s₂ (total + v)
      unfolding falling ◌>>=◌ behind sum
      falling_turn l P = record {
        stays = stays_then F.stays P.stays;
        next = P.next ∙ F.next;
        is = omega (arith, F.is, ap sum more);
        low = omega (arith, F.low, l);
        ones = λ o. omega (arith, F.ones o, ltb-true v (2 ^ w) P.says.fitting, ap (λ (k : ℕ). 2 ^ k) o);
        whole = λ {r} {s'} N.
            subst (λ (y : Result (List ℕ) Refusal). Emits (falling n w) s y s') (behind_more v (standing i (n - i) (drop s.c s.rec.now)) r ∙ ap (λ (t : List ℕ). behind t r) more)
            (F.whole (subst (λ (k : ℕ). Emits (falling k w) s₁ (behind (v ∷ []) r) s') (sym q) (turn r N)));
      }
        where
          turn : (r : Result (List ℕ) Refusal) {s' : Writing} → Emits (falling (left n i) w) s₂ r s' → Emits (falling (suc (left n i)) w) s₁ (behind (v ∷ []) r) s'
          turn (Ok l) N = emits_then (late w (find (left n i)) done) (others (left n i) w) (late_sent P (find (left n i)) finds) (emits_then (falling (left n i) w) (λ l. done (l ++ (v ∷ []))) N emits_done)
          turn (Err x) N = emits_then (late w (find (left n i)) done) (others (left n i) w) (late_sent P (find (left n i)) finds) (emits_stop (falling (left n i) w) (λ l. done (l ++ (v ∷ []))) N)

      pub falling_stop : {x : Refusal} → Pushes (ltb v (2 ^ w)) (bits_of w v) s₁ (Err x) s₂ → Emits (reversed n w) s (Err x) s₂
      unfolding falling reversed ◌>>=◌ behind
      falling_stop {x} P =
          emits_stop (falling n w) (λ l. keeps l >>= λ t. done l)
          (F.whole (subst (λ (k : ℕ). Emits (falling k w) s₁ (Err x) s₂) (sym q) (emits_stop (late w (find (left n i)) done) (others (left n i) w) (late_refused P (find (left n i)) finds))))

  pub falling_all : {i total : ℕ} {s₁ s₂ : Writing} → Falling n w s i s₁ total → n ≤ i → i ≤ n → n ≤ length (drop s.c s.rec.now) → Passed n s₁ s₂
      → Gives (λ A. Emits) IsSum (reversed n w) s (Ok total) s₂
  unfolding falling reversed behind
  falling_all {i} {total} {s₁} {s₂} F g h l P = (next_numbers n s, F.is ∙ ap sum all, emits_then (falling n w) (λ l. keeps l >>= λ t. done l) fields (emits_then (keeps (next_numbers n s)) (λ t. done (next_numbers n s)) kept emits_done))
    where
      z : 0 ≡ n - i
      z = omega (arith, g)

      all : standing i (n - i) (drop s.c s.rec.now) ≡ next_numbers n s
      all = let e : i ≡ n = omega (arith, g, h) in λ k. standing (e k) (sym z k) (drop s.c s.rec.now)

      fields : Emits (falling n w) s (Ok (next_numbers n s)) s₁
      fields = subst (λ (y : List ℕ). Emits (falling n w) s (Ok y) s₁) all (F.whole (subst (λ (k : ℕ). Emits (falling k w) s₁ (Ok []) s₁) z emits_done))

      same : drop s₁.c s₁.rec.now ≡ drop s.c s.rec.now
      same = λ k. drop (F.next k) (F.stays.rec k).now

      kept : Emits (keeps (next_numbers n s)) s₁ (Ok tt) s₂
      kept = subst (λ (y : List ℕ). Emits (keeps (standing n 0 y)) s₁ (Ok tt) s₂) same (emits_kept n (omega (arith, l, ap length same)) P)
