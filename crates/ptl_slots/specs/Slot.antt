-- How `skim` goes over profile_tier_level().
use Rattle.std.specs.Prelude.{ℕ, suc, ◌+◌, ◌*◌, ◌-◌, ◌^◌, ◌<◌, ◌≤◌, ◌≡◌, refl, List, [], ◌∷◌, ◌++◌, Bool, true, false, eqb, get_or}
use Rattle.std.proofs.Common.{sym, ap₂, ◌∙◌, arith, eq-eqb, ne_eqb}
use Rattle.std.proofs.Math.Path.{ap}
use Rattle.std.proofs.Math.ListN.{drop}
use Rattle.std.proofs.Math.Nat.{pow-succ'}
use Rattle.vps_definition.specs.Syntax.{skim}
use Rattle.vps_definition.specs.Words.{sum, when}
use Rattle.vps_definition.specs.ProfileTierLevel.{number_of, constraint_bit, constraints, constraints_if, general_constraints_info, profile_and_tier, sub_profile, sub_profiles, profile_tier_level}
use Rattle.ptl_slots.specs.Standing.{standing, standing_behind, standing_last, drop_behind}
use Rattle.ptl_slots.specs.Skims.{EndsIn, ends_in, Skims, skims_then, skims_all, skims_to, skims_nothing, skims_yes, skims_no, skims_u, skims_inferred, skims_keep_nothing, skims_aligned, skims_standing, skims_fields, skims_ahead, skims_reversed}

-- the record's rest behind the slot that it begins with, unchecked
abbrev pub next_slot : (rec y : List ℕ) → List ℕ
next_slot rec y = skim (profile_tier_level (get_or y 0 0) (get_or y 1 0)) rec y

-- which is the end of that which the slot begins
pub slot_ends : (rec y : List ℕ) → EndsIn y (next_slot rec y)
slot_ends rec y = ends_in (profile_tier_level (get_or y 0 0) (get_or y 1 0)) rec y

-- the number of the eight bits that say how many constraints follow the fixed ones, where the constraints' length is the first number
abbrev pub more_constraints : List ℕ → ℕ
more_constraints x = number_of 0 (standing 8 70 x)

-- a bit more at the end of some bits
number_more : (n b : ℕ) (x : List ℕ) → number_of n (x ++ (b ∷ [])) ≡ number_of n x * 2 + b
unfolding number_of
number_more n b [] = refl
number_more n b (v ∷ x) = number_more (n * 2 + v) b x

-- no bit yet
pub bits_begin : (x : List ℕ) → 0 ≡ number_of 0 (standing 0 70 x)
unfolding number_of standing
bits_begin x = refl

-- the next of the eight bits
pub bits_turn : (i : ℕ) (x : List ℕ) {n b : ℕ} → 70 ≤ i → n ≡ number_of 0 (standing (i - 70) 70 x) → b ≡ get_or x i 0 → 2 * n + b ≡ number_of 0 (standing (i + 1 - 70) 70 x)
bits_turn i x l e f =
    let k : i + 1 - 70 ≡ i - 70 + 1 = omega arith in
    let j : 70 + (i - 70) ≡ i = omega arith in
    omega (
      arith,
      e,
      f,
      ap (λ (m : ℕ). number_of 0 (standing m 70 x)) k,
      ap (number_of 0) (standing_last (i - 70) 70 x),
      number_more 0 (get_or x (70 + (i - 70)) 0) (standing (i - 70) 70 x),
      ap (λ (m : ℕ). get_or x m 0) j,
    )

-- which leaves room for those that follow, whatever the numbers are
pub bits_room : (i n b : ℕ) → 70 ≤ i → n + 2 ^ 32 ≤ 2 ^ (i - 38) → b < 2 ^ 32 → 2 * n + b + 2 ^ 32 ≤ 2 ^ (i + 1 - 38)
bits_room i n b l r h =
    let k : i + 1 - 38 ≡ suc (i - 38) = omega arith in
    omega (arith, r, h, ap (λ (m : ℕ). 2 ^ m) k, pow-succ' 2 (i - 38))

-- ── Constraints ───────────────────────────────────────────────────────
skims_constraints : {r x : List ℕ} → Skims constraints r x tt (drop (78 + more_constraints x) x)
unfolding constraints constraint_bit
skims_constraints {r} {x} =
    let n : number_of 0 (drop 69 (standing 77 1 x)) ≡ more_constraints x = ap (number_of 0) (standing_behind 69 8 1 x) in
    let k : 77 + number_of 0 (drop 69 (standing 77 1 x)) - 77 ≡ more_constraints x = omega (arith, n) in
    let e : drop (more_constraints x) (drop 77 (drop 1 x)) ≡ drop (78 + more_constraints x) x = ap (drop (more_constraints x)) (drop_behind 1 77 x) ∙ drop_behind 78 (more_constraints x) x in
    skims_then _ _ (skims_ahead 77 1) (skims_then _ _ (skims_inferred _) (skims_then _ _ (skims_standing 77 1 x)
    (skims_to (ap (λ (j : ℕ). drop j (drop 77 (drop 1 x))) k ∙ e) (skims_fields _ 1))))

-- absent
pub constraints_absent : (present : ℕ) {r x : List ℕ} → present ≡ 0 → Skims (when present general_constraints_info) r x tt x
unfolding when
constraints_absent present e = skims_yes (eq-eqb present 0 e) skims_nothing

module _ (present : ℕ) {r : List ℕ} (x : List ℕ) {flag : ℕ} {y z : List ℕ} (e : present ≡ 0 → ⊥) (f : flag ≡ get_or x 0 0) (g : y ≡ drop 1 x) where
  -- present, but none
  pub constraints_none : flag ≡ 0 → z ≡ drop 1 y → Skims (when present general_constraints_info) r x tt z
  unfolding when general_constraints_info constraints_if
  constraints_none i h =
      skims_no (ne_eqb present 0 e) (skims_then _ _ (skims_to (sym g) (skims_u _)) (skims_then _ _ (skims_yes (eq-eqb (get_or x 0 0) 0 (sym f ∙ i)) (skims_to (sym h) skims_keep_nothing)) (skims_aligned _)))

  pub constraints_some : {n : ℕ} → (flag ≡ 0 → ⊥) → n ≡ more_constraints y → z ≡ drop (78 + n) y → Skims (when present general_constraints_info) r x tt z
  unfolding when general_constraints_info constraints_if
  constraints_some i j h =
      let k : z ≡ drop (78 + more_constraints y) y = h ∙ ap (λ (n : ℕ). drop (78 + n) y) j in
      skims_no (ne_eqb present 0 e) (skims_then _ _ (skims_to (sym g) (skims_u _)) (skims_then _ _ (skims_no (ne_eqb (get_or x 0 0) 0 (λ o. i (f ∙ o))) (skims_to (sym k) skims_constraints)) (skims_aligned _)))

-- ── Sub-profiles ──────────────────────────────────────────────────────
pub sub_profiles_absent : (present : ℕ) {r x : List ℕ} → present ≡ 0 → Skims (when present sub_profiles) r x tt x
unfolding when
sub_profiles_absent present e = skims_yes (eq-eqb present 0 e) skims_nothing

pub sub_profiles_some : (present : ℕ) {r : List ℕ} (x : List ℕ) {n : ℕ} {y z : List ℕ} → (present ≡ 0 → ⊥) → n ≡ get_or x 0 0 → y ≡ drop 1 x → z ≡ drop n y → Skims (when present sub_profiles) r x tt z
unfolding when sub_profiles sub_profile
sub_profiles_some present x {y = y} e f g h =
    skims_no (ne_eqb present 0 e) (skims_then _ _ (skims_to (sym g) (skims_u _)) (skims_to (ap (λ (k : ℕ). drop k y) (sym f) ∙ sym h) (skims_fields _ 32)))

-- ── The slot ──────────────────────────────────────────────────────────
-- behind the profile and the tier, which are absent or present
profile_absent : (present : ℕ) {r x : List ℕ} → eqb present 0 ≡ true → Skims (when present profile_and_tier) r x tt x
unfolding when
profile_absent present e = skims_yes e skims_nothing

profile_some : (present : ℕ) {r x : List ℕ} → eqb present 0 ≡ false → Skims (when present profile_and_tier) r x tt (drop 2 x)
unfolding when profile_and_tier
profile_some present {x = x} e = skims_no e (skims_then _ _ (skims_u _) (skims_then _ _ (skims_u _) (skims_to (drop_behind 1 1 x) skims_nothing)))

-- how many numbers stand before the constraints
abbrev pub front_of : (absent : Bool) → ℕ
front_of true = 5
front_of false = 7

drop_two : (x : List ℕ) → drop 1 (drop 1 x) ≡ drop 2 x
drop_two x = drop_behind 1 1 x

drop_three : (x : List ℕ) → drop 1 (drop 1 (drop 1 x)) ≡ drop 3 x
drop_three x = ap (drop 1) (drop_two x) ∙ drop_behind 2 1 x

pub skim_slot : {rec a b c d : List ℕ} (y : List ℕ) {present tid : ℕ} → present ≡ get_or y 0 0 → tid ≡ get_or y 1 0 → a ≡ drop (front_of (eqb present 0)) y → Skims (when present general_constraints_info) rec a tt b
    → c ≡ drop (sum (standing tid 0 b)) (drop tid b) → Skims (when present sub_profiles) rec c tt d → d ≡ next_slot rec y
unfolding profile_tier_level
skim_slot {rec} {a} {b} {c} {d} y {present} {tid} p q e C f S = go (eqb present 0) refl e ∙ ap₂ (λ (n k : ℕ). skim (profile_tier_level n k) rec y) p q
  where
    behind : (n : ℕ) → Skims (when present profile_and_tier) rec (drop 1 (drop 1 y)) tt (drop n (drop 1 (drop 1 y))) → a ≡ drop 1 (drop 1 (drop 1 (drop n (drop 1 (drop 1 y))))) → d ≡ skim (profile_tier_level present tid) rec y
    behind n P g =
        sym (skims_all (skims_then _ _ (skims_inferred _) (skims_then _ _ (skims_inferred _) (skims_then _ _ P
        (skims_then _ _ (skims_u _) (skims_then _ _ (skims_u _) (skims_then _ _ (skims_to (sym g) (skims_u _))
        (skims_then _ _ C (skims_then _ _ (skims_reversed tid 1) (skims_then _ _ (skims_aligned _) (skims_then _ _ (skims_to (sym f) (skims_reversed _ 8)) S)))))))))))

    go : (absent : Bool) → eqb present 0 ≡ absent → a ≡ drop (front_of absent) y → d ≡ skim (profile_tier_level present tid) rec y
    go true i g = behind 0 (profile_absent present i) (g ∙ sym (drop_three (drop 1 (drop 1 y)) ∙ ap (drop 3) (drop_two y) ∙ drop_behind 2 3 y))
    go false i g = behind 2 (profile_some present i) (g ∙ sym (drop_three (drop 2 (drop 1 (drop 1 y))) ∙ ap (λ (l : List ℕ). drop 3 (drop 2 l)) (drop_two y) ∙ ap (drop 3) (drop_behind 2 2 y) ∙ drop_behind 4 3 y))
