-- profile_tier_level() of H.266 clause 7.3.3.1, with general_constraints_info() of 7.3.3.2.
use Rattle.std.specs.Prelude.{ℕ, zero, suc, ◌+◌, ◌*◌, ◌-◌, List, [], ◌∷◌, ◌++◌, eqb, get_or, drop}
use Rattle.vps_definition.specs.Syntax.{Syntax, ◌>>=◌}
use Rattle.vps_definition.specs.Syntax.Syntax.{field, late, keep, test, done}
use Rattle.vps_definition.specs.Words.{sum, u, inferred, nothing, when, aligned, keeps, repeat}

-- ── Numbers coded out of the record's order ───────────────────────────
-- n fields of w bits, coded last first; they stand in the record from here on, first first
unfoldable pub falling : (n w : ℕ) → Syntax (List ℕ)
falling zero w = done []
falling (suc n) w = late w (λ r x. get_or x n 0) λ v. falling n w >>= λ l. done (l ++ (v ∷ []))

unfoldable pub reversed : (n w : ℕ) → Syntax (List ℕ)
reversed n w = falling n w >>= λ l. keeps l >>= λ t. done l

-- n bits, the first of which stands i numbers on in the record
unfoldable pub ahead : (n i : ℕ) → Syntax (List ℕ)
ahead zero i = done []
ahead (suc n) i = late 1 (λ r x. get_or x i 0) λ v. ahead n (i + 1) >>= λ l. done (v ∷ l)

-- the number of some bits, the highest first
unfoldable pub number_of : ℕ → List ℕ → ℕ
number_of n [] = n
number_of n (b ∷ x) = number_of (n * 2 + b) x

-- ── general_constraints_info() ────────────────────────────────────────
-- a bit of the constraints
unfoldable pub constraint_bit : Syntax (Unit {0})
constraint_bit = field 1 0 λ v. nothing

-- 69 bits of fixed fields and gci_num_additional_bits, which is A; then A more. Their length is kept before them
unfoldable pub constraints : Syntax (Unit {0})
constraints = do
  fixed ← ahead 77 1
  gci_length ← inferred (77 + number_of 0 (drop 69 fixed))
  k ← keeps fixed
  repeat (gci_length - 77) constraint_bit

unfoldable pub constraints_if : ℕ → Syntax (Unit {0})
constraints_if gci_present_flag = test (eqb gci_present_flag 0) (keep 0 nothing) constraints

unfoldable pub general_constraints_info : Syntax (Unit {0})
general_constraints_info = do
  gci_present_flag ← u 1
  c ← constraints_if gci_present_flag
  aligned 0

-- ── profile_tier_level() ──────────────────────────────────────────────
unfoldable pub profile_and_tier : Syntax (Unit {0})
profile_and_tier = do
  general_profile_idc ← u 7
  general_tier_flag ← u 1
  nothing

unfoldable pub sub_profile : Syntax (Unit {0})
sub_profile = field 32 0 λ general-sub-profile-idc. nothing

unfoldable pub sub_profiles : Syntax (Unit {0})
sub_profiles = do
  ptl_num_sub_profiles ← u 8
  repeat ptl_num_sub_profiles sub_profile

-- a slot of the record begins with the present flag and the max tid, which were coded before all slots
unfoldable pub profile_tier_level : (vps_pt_present_flag vps_ptl_max_tid : ℕ) → Syntax (Unit {0})
profile_tier_level vps_pt_present_flag vps_ptl_max_tid = do
  p ← inferred vps_pt_present_flag
  t ← inferred vps_ptl_max_tid
  a ← when vps_pt_present_flag profile_and_tier
  general_level_idc ← u 8
  ptl_frame_only_constraint_flag ← u 1
  ptl_multilayer_enabled_flag ← u 1
  c ← when vps_pt_present_flag general_constraints_info
  ptl_sublayer_level_present_flags ← reversed vps_ptl_max_tid 1
  z ← aligned 0
  sublayer_level_idcs ← reversed (sum ptl_sublayer_level_present_flags) 8
  when vps_pt_present_flag sub_profiles
