-- Fields coded last first, read in the record's order.
use Prim.Native.Nat.{ℕ, zero, suc, ◌+◌, ◌*◌, ◌-◌, ◌^◌, ◌≤◌, ◌<◌}
use Rattle.std.specs.Prelude.{◌≡◌, Ok, set, length}
use Rattle.std.proofs.lemmas.List.Edits.{sets}
use Rattle.std.proofs.Math.Seq.{length-sets}
use Rattle.lists.specs.Stored.{sets_append}
use Rattle.std.proofs.Math.Path.{refl, ap}
use Rattle.std.proofs.Common.{sym, ◌∙◌, subst, length-append, add-one, zero-mul, suc-mul, arith}
use mathlib.Core.List.{List, [], ◌∷◌, ◌++◌, append-nil}
use Rattle.bits.specs.Bits.{field_at}
use Rattle.bits.specs.FieldLaws.{field_lt}
use Rattle.vps_definition.specs.Syntax.{◌>>=◌, Token, numbers, keeping, Outcome, run}
use Rattle.vps_definition.specs.Syntax.Syntax.{done}
use Rattle.vps_definition.specs.Syntax.Token.{number}
use Rattle.vps_definition.specs.Syntax.Outcome.{accepted}
use Rattle.vps_definition.specs.Words.{sum, nothing, keeps}
use Rattle.vps_definition.specs.ProfileTierLevel.{falling, reversed}
use Rattle.vps_laws.specs.Bind.{after, then_read}
use Rattle.vps_laws.proofs.Bind.{run_bind}
use Rattle.table_steps.specs.Answers.{Gives, IsSum}
use Rattle.reading.specs.declared.Reading.{Reading}
use Rattle.reading.specs.Fits.{Room, Fits}
use Rattle.reading.specs.Meets.{Went, After, Meets}
use Rattle.reading.specs.Steps.{Stands, stands_kept}
use Rattle.reading.specs.Silent.{run_silent}

-- the n fields of w bits from a place on, the last of them first
unfoldable pub falling_at : List ℕ → (at n w : ℕ) → List ℕ
falling_at s at zero w = []
falling_at s at (suc n) w = falling_at s (at + w) n w ++ (field_at s at w ∷ [])

-- ── The table ─────────────────────────────────────────────────────────
run_falling : (n w : ℕ) (s : List ℕ) (at : ℕ) → run (falling n w) s at ≡ accepted (falling_at s at n w) [] (at + n * w)
unfolding falling falling_at run
run_falling zero w s at = let e : at ≡ at + 0 * w = omega (arith, zero-mul w) in ap (accepted [] []) e
run_falling (suc n) w s at =
    let e : at + w + n * w ≡ at + suc n * w = omega (arith, suc-mul n w) in
    run_silent (falling n w) (λ l. done (l ++ (field_at s at w ∷ []))) s (at + w) (run_falling n w s (at + w)) ∙ ap (accepted (falling_at s (at + w) n w ++ (field_at s at w ∷ [])) []) e

-- the tokens of numbers that are kept
tokens : List ℕ → List Token
tokens [] = []
tokens (v ∷ l) = number v ∷ tokens l

run_keeps : (l : List ℕ) (s : List ℕ) (at : ℕ) → run (keeps l) s at ≡ accepted tt (tokens l) at
unfolding keeps nothing run keeping tokens
run_keeps [] s at = refl
run_keeps (v ∷ l) s at = ap (keeping (number v)) (run_keeps l s at)

run_reversed : (n w : ℕ) (s : List ℕ) (at : ℕ) → run (reversed n w) s at ≡ accepted (falling_at s at n w) (tokens (falling_at s at n w)) (at + n * w)
unfolding reversed then_read after run
run_reversed n w s at =
    let l : List ℕ = falling_at s at n w in
    run_silent (falling n w) (λ l. keeps l >>= λ t. done l) s at (run_falling n w s at)
    ∙ run_bind (keeps l) (λ t. done l) s (at + n * w)
    ∙ ap (λ (x : Outcome (Unit {0})). then_read x (λ t p. accepted l [] p)) (run_keeps l s (at + n * w))
    ∙ ap (λ (t : List Token). accepted l t (at + n * w)) (append-nil (tokens l))

-- the numbers of the tokens
numbers_tokens : (l : List ℕ) → numbers (tokens l) ≡ l
unfolding numbers tokens
numbers_tokens [] = refl
numbers_tokens (v ∷ l) = ap (λ (x : List ℕ). v ∷ x) (numbers_tokens l)

falling_length : (s : List ℕ) (at n w : ℕ) → length (falling_at s at n w) ≡ n
unfolding falling_at
falling_length s at zero w = refl
falling_length s at (suc n) w = length-append (falling_at s (at + w) n w) (field_at s at w ∷ []) ∙ omega (arith, falling_length s (at + w) n w)

-- ── Code that keeps the fields, the last place first ──────────────────
-- of n fields those from field j on, counted as they are coded
abbrev pub fields_behind : List ℕ → (at n w j : ℕ) → List ℕ
fields_behind s at n w j = falling_at s (at + j * w) (n - j) w

none_behind : (s : List ℕ) (at n w : ℕ) → fields_behind s at n w n ≡ []
unfolding falling_at
none_behind s at n w = let e : n - n ≡ 0 = omega arith in ap (λ (k : ℕ). falling_at s (at + n * w) k w) e

one_behind : (s : List ℕ) (at n w i : ℕ) → i < n → fields_behind s at n w i ≡ fields_behind s at n w (i + 1) ++ (field_at s (at + i * w) w ∷ [])
unfolding falling_at
one_behind s at n w i h =
    let e : n - i ≡ suc (n - (i + 1)) = omega (arith, h) in
    let p : at + i * w + w ≡ at + (i + 1) * w = omega (arith, suc-mul i w, ap (λ (k : ℕ). k * w) (add-one i)) in
    ap (λ (k : ℕ). falling_at s (at + i * w) k w) e ∙ ap (λ (q : ℕ). falling_at s q (n - (i + 1)) w ++ (field_at s (at + i * w) w ∷ [])) p

all_behind : (s : List ℕ) (at n w : ℕ) → fields_behind s at n w 0 ≡ falling_at s at n w
all_behind s at n w =
    let p : at + 0 * w ≡ at = omega (arith, zero-mul w) in
    let e : n - 0 ≡ n = omega arith in
    λ k. falling_at s (p k) (e k) w

sum_last : (l : List ℕ) (v : ℕ) → sum (l ++ (v ∷ [])) ≡ sum l + v
unfolding sum
sum_last [] v = omega arith
sum_last (u ∷ l) v = omega (arith, sum_last l v)

-- the fields from field i on are stored, and their sum is this
pub record Stored (n w : ℕ) (s : Reading) (i : ℕ) (s₁ : Reading) (total : ℕ) : Type 0 where
  pub within : i ≤ n
  pub stands : Stands s s₁ s.at (s.n + (n - i)) (sets s.rec.now s.n (fields_behind s.bytes.now s.at n w i))
  pub is : total ≡ sum (fields_behind s.bytes.now s.at n w i)
  pub low : total ≤ (n - i) * 4294967295
  pub ones : w ≡ 1 → total ≤ n - i

module _ {n w : ℕ} {s : Reading} where
  pub stored_begin : Stored n w s n s 0
  unfolding sum
  stored_begin =
      let z : n - n ≡ 0 = omega arith in
      let e : fields_behind s.bytes.now s.at n w n ≡ [] = none_behind s.bytes.now s.at n w in
      record {
        within = omega arith;
        stands = record { bytes = refl; name = refl; at' = refl; n' = omega (arith, z); rec' = ap (sets s.rec.now s.n) (sym e) };
        is = sym (ap sum e);
        low = omega arith;
        ones = λ o. omega arith;
      }

  -- the field before those that are stored, and its number behind theirs
  pub stored_more : {i j v total : ℕ} {s₁ s₂ : Reading} → i ≡ j + 1 → v ≤ 4294967295 → v ≡ field_at s₁.bytes.now (s.at + j * w) w → Stored n w s i s₁ total
      → Stands s₁ s₂ s₁.at (s₁.n + 1) (set s₁.rec.now s₁.n v) → Stored n w s j s₂ (total + v)
  stored_more {i} {j} {v} {total} {s₁} {s₂} e high is F T = record {
    within = omega (arith, F.within, e);
    stands = record {
      bytes = T.bytes ∙ F.stands.bytes;
      name = T.name ∙ F.stands.name;
      at' = T.at' ∙ F.stands.at';
      n' = T.n' ∙ omega (arith, F.stands.n', F.within, e);
      rec' = T.rec' ∙ (λ k. set (F.stands.rec' k) (F.stands.n' k) v) ∙ stored;
    };
    is = omega (arith, F.is, ap sum there, sum_last (fields_behind b s.at n w i) v);
    low = omega (arith, F.low, F.within, e, high);
    ones = λ o. omega (arith, F.ones o, F.within, e, ones, ap (λ (k : ℕ). 2 ^ k) o);
  }
    where
      b : List ℕ
      b = s.bytes.now

      value : v ≡ field_at b (s.at + j * w) w
      value = is ∙ ap (λ (x : List ℕ). field_at x (s.at + j * w) w) (ap (λ x. x.now) F.stands.bytes)

      ones : v < 2 ^ w
      ones = omega (arith, value, field_lt b (s.at + j * w) w)

      there : fields_behind b s.at n w j ≡ fields_behind b s.at n w i ++ (v ∷ [])
      there =
          one_behind b s.at n w j (omega (arith, F.within, e))
          ∙ (λ k. fields_behind b s.at n w (sym e k) ++ (sym value k ∷ []))

      long : length (fields_behind b s.at n w i) ≡ n - i
      long = falling_length b (s.at + i * w) (n - i) w

      stored : set (sets s.rec.now s.n (fields_behind b s.at n w i)) (s.n + (n - i)) v ≡ sets s.rec.now s.n (fields_behind b s.at n w j)
      stored =
          ap (λ (q : ℕ). set (sets s.rec.now s.n (fields_behind b s.at n w i)) (s.n + q) v) (sym long)
          ∙ sym (sets_append s.rec.now s.n (fields_behind b s.at n w i) (v ∷ []))
          ∙ ap (sets s.rec.now s.n) (sym there)

  -- all are stored, and the reading stands behind them
  pub stored_all : {i total : ℕ} {s₁ s' : Reading} → i ≡ 0 → Stored n w s i s₁ total → Stands s₁ s' (s.at + n * w) s₁.n s₁.rec.now
      → Gives Meets IsSum (reversed n w) s (Ok total) s'
  stored_all {i} {total} {s₁} {s'} z F T = (
    l,
    F.is ∙ ap sum all,
    record { kept = stands_kept (length-sets s.rec.now s.n l) S; goes = λ f. subst (λ (x : Outcome (List ℕ)). After x s (Ok l) s') (sym (run_reversed n w s.bytes.now s.at)) W },
  )
    where
      l : List ℕ
      l = falling_at s.bytes.now s.at n w

      all : fields_behind s.bytes.now s.at n w i ≡ l
      all = ap (fields_behind s.bytes.now s.at n w) z ∙ all_behind s.bytes.now s.at n w

      S : Stands s s' (s.at + n * w) (s.n + n) (sets s.rec.now s.n l)
      S = record {
        bytes = T.bytes ∙ F.stands.bytes;
        name = T.name ∙ F.stands.name;
        at' = T.at';
        n' = T.n' ∙ omega (arith, F.stands.n', z);
        rec' = T.rec' ∙ F.stands.rec' ∙ ap (sets s.rec.now s.n) all;
      }

      W : Went l (tokens l) (s.at + n * w) s (Ok l) s'
      W = record {
        result = refl;
        place = S.at';
        cursor = S.n' ∙ omega (arith, ap length (numbers_tokens l), falling_length s.bytes.now s.at n w);
        stored = S.rec' ∙ ap (sets s.rec.now s.n) (sym (numbers_tokens l));
      }

-- fields that are read find room
pub room_reversed : (n w : ℕ) (s : List ℕ) (at k : ℕ) → 0 < n → Fits (reversed n w) s at k → Room at k
unfolding reversed falling keeps nothing ◌>>=◌ Fits
room_reversed zero w s at k h F = absurd (omega (arith, h))
room_reversed (suc n) w s at k h F = F.0
