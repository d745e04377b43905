-- The timing section by its views: each entry, sublayer and schedule that was read stands where the view looks, and behind the last entry the indices.
use Prim.Native.Nat.{ℕ, suc, ◌+◌, ◌*◌, ◌≤◌, ◌<◌}
use Rattle.std.specs.Prelude.{◌≡◌, refl, Bool, true, false, cond, eqb, get_or, drop}
use Rattle.std.proofs.Common.{sym, ◌∙◌, subst, arith}
use Rattle.std.proofs.Math.Path.{ap}
use mathlib.Core.List.{List, ◌∷◌}
use Rattle.refusals.specs.Number.{timing_max_tid, timing_index}
use Rattle.vps_definition.specs.Syntax.{Syntax}
use Rattle.vps_definition.specs.Words.{when, loop}
use Rattle.vps_definition.specs.DpbParameters.{per_sublayer, index}
use Rattle.vps_definition.specs.TimingHrd.{Hrd, general_timing_hrd, schedule, timing_sublayer}
use Rattle.vps_definition.specs.Layout.{from_section, multi_count, timing_count}
use Rattle.vps_definition.specs.Views.{timing_numbers, hrd_of, timing_sublayer_flag, schedule_length, schedules_length, behind_entry, again, timing_entry, sublayer_count, sublayer_at, nal_schedule_at, vcl_schedule_at}
use Rattle.vps_laws.specs.Keeps.{keeps_so, keeps_test}
use Rattle.vps_laws.specs.Indices.{Long, long_nothing}
use Rattle.vps_laws.specs.Places.{ReadAt, Ends}

-- ── Lengths ───────────────────────────────────────────────────────────
-- as many numbers, counted otherwise
pub long_as : {A : Type 0} {a : ℕ} (b : ℕ) {m : Syntax A} → Long a m → a ≡ b → Long b m
long_as b {m} M e = subst (λ (n : ℕ). Long n m) e M

pub long_when : (flag k : ℕ) {m : Syntax (Unit {0})} → Long k m → Long (cond (eqb flag 0) 0 k) (when flag m)
unfolding when
long_when flag k M = record {
  long = keeps_test (eqb flag 0) (λ e. keeps_so long_nothing.long (λ a t h. rw e h)) (λ e. keeps_so M.long (λ a t h. rw e h));
}

-- ── The section ───────────────────────────────────────────────────────
-- a timing section from y up to z, with these general numbers, this sublayer flag and so many entries
pub record TimingRead (d top multi : ℕ) (hrd : Hrd) (flag count : ℕ) (y z : List ℕ) : Type 0 where
  pub hrd_read : ReadAt general_timing_hrd hrd y (drop 11 y)
  pub flag_is : get_or y 11 0 ≡ flag
  pub count_is : get_or y 12 0 ≡ count
  pub few : count ≤ multi
  pub entry : (e : ℕ) → e < count → ReadAt (per_sublayer d top timing_max_tid flag (timing_sublayer hrd)) tt (again (behind_entry hrd flag) e (drop 13 y)) (again (behind_entry hrd flag) (suc e) (drop 13 y))
  pub indices : ReadAt (loop (λ i x. index count multi timing_index i) multi 0 tt) tt (again (behind_entry hrd flag) count (drop 13 y)) z
  pub ends : Ends y (again (behind_entry hrd flag) count (drop 13 y))

-- the general numbers
pub record HrdRead (h : Hrd) (y : List ℕ) : Type 0 where
  pub units : 0 < get_or y 0 0
  pub scale : 0 < get_or y 1 0
  pub nal : get_or y 2 0 ≡ h.nal
  pub vcl : get_or y 3 0 ≡ h.vcl
  pub du : get_or y 5 0 ≡ h.du
  pub bit_rate_scale : get_or y 7 0 < 16
  pub cpb_size_scale : get_or y 8 0 < 16
  pub schedules : get_or y 10 0 ≡ h.cpb_cnt_minus1
  pub few : h.cpb_cnt_minus1 ≤ 31

-- coded in w bits, or 0
pub small : (b : Bool) (w a : ℕ) → (b ≡ true → a < w) → (b ≡ false → a ≡ 0) → 0 < w → a < w
small true w a f g l = f refl
small false w a f g l = let e = g refl in omega (arith, e, l)

-- a sublayer: the four numbers, and the schedules of both kinds
pub record SublayerRead (h : Hrd) (y : List ℕ) : Type 0 where
  pub general : get_or y 0 0 < 2
  pub within : get_or y 1 0 < 2
  pub inferred : get_or y 0 0 ≡ 1 → get_or y 1 0 ≡ 1
  pub elemental : get_or y 2 0 ≤ 2047
  pub missing : get_or y 1 0 ≡ 0 → get_or y 2 0 ≡ 0
  pub nal : h.nal ≡ 1 → (c : ℕ) → c ≤ h.cpb_cnt_minus1 → ReadAt (schedule h.du) tt (drop (4 + c * schedule_length h) y) (drop (4 + suc c * schedule_length h) y)
  pub vcl : h.vcl ≡ 1 → (c : ℕ) → c ≤ h.cpb_cnt_minus1 → ReadAt (schedule h.du) tt (drop (4 + schedules_length h h.nal + c * schedule_length h) y) (drop (4 + schedules_length h h.nal + suc c * schedule_length h) y)

-- ── The views ─────────────────────────────────────────────────────────
-- each entry, sublayer and schedule that was read stands where the view looks, and goes up to the next one
pub record TimingViewed (r : List ℕ) : Type 0 where
  pub hrd : HrdRead (hrd_of r) (timing_numbers r)
  pub few : timing_count r ≤ multi_count r
  pub max_tid : (e : ℕ) → e < timing_count r → get_or (timing_entry r e) 0 0 ≤ get_or r 2 0
  pub entry : (e : ℕ) → e < timing_count r → ReadAt (per_sublayer (get_or r 3 0) (get_or r 2 0) timing_max_tid (timing_sublayer_flag r) (timing_sublayer (hrd_of r))) tt (timing_entry r e) (timing_entry r (suc e))
  pub sublayer : (e : ℕ) → e < timing_count r → (j : ℕ) → j < sublayer_count r e → ReadAt (timing_sublayer (hrd_of r)) tt (sublayer_at r e j) (sublayer_at r e (suc j))
  pub numbered : (e : ℕ) → e < timing_count r → (j : ℕ) → j < sublayer_count r e → SublayerRead (hrd_of r) (sublayer_at r e j)
  pub nal : (e : ℕ) → e < timing_count r → (j : ℕ) → j < sublayer_count r e → (hrd_of r).nal ≡ 1 → (c : ℕ) → c ≤ (hrd_of r).cpb_cnt_minus1
      → ReadAt (schedule (hrd_of r).du) tt (nal_schedule_at r e j c) (nal_schedule_at r e j (suc c))
  pub vcl : (e : ℕ) → e < timing_count r → (j : ℕ) → j < sublayer_count r e → (hrd_of r).vcl ≡ 1 → (c : ℕ) → c ≤ (hrd_of r).cpb_cnt_minus1
      → ReadAt (schedule (hrd_of r).du) tt (vcl_schedule_at r e j c) (vcl_schedule_at r e j (suc c))
  -- behind the last entry the indices, and behind them the extension
  pub indices : ReadAt (loop (λ i x. index (timing_count r) (multi_count r) timing_index i) (multi_count r) 0 tt) tt (timing_entry r (timing_count r)) (from_section r 7)
  pub ends : Ends (timing_numbers r) (timing_entry r (timing_count r))

pub numbers_here : (r : List ℕ) (on : ℕ) (y : List ℕ) → from_section r 6 ≡ on ∷ y → timing_numbers r ≡ y
unfolding timing_numbers
numbers_here r on y e = ap (drop 1) e

pub count_here : (r : List ℕ) (on : ℕ) (y : List ℕ) → from_section r 6 ≡ on ∷ y → timing_count r ≡ get_or (timing_numbers r) 12 0
unfolding timing_count
count_here r on y e = ap (λ (l : List ℕ). get_or l 13 0) e ∙ sym (ap (λ (l : List ℕ). get_or l 12 0) (numbers_here r on y e))
