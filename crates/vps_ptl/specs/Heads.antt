-- The slots' heads, as the code stores them.
use Rattle.std.specs.Prelude.{ℕ, ◌+◌, ◌<◌, ◌≡◌, List, [], ◌∷◌, ◌++◌, length, get_or, take, set, map}
use Rattle.std.proofs.Common.{sym, ap, ap₂, ◌∙◌}
use Rattle.std.proofs.lemmas.List.{map-append, take_more_set}
use Rattle.std.proofs.Math.ListN.{get_or-map}
use Rattle.vps_definition.specs.Words.{loop}
use Rattle.vps_definition.specs.ProfileTierLevel.{profile_tier_level}
use Rattle.vps_definition.specs.Vps.{Head, head, ptl_slot}
use Rattle.vps_ptl.specs.declared.KeptHead.{KeptHead}

-- the table's head of one that is stored
abbrev pub table_head : KeptHead → Head
table_head h = head h.present h.max_tid

abbrev pub table_heads : List KeptHead → List Head
table_heads = map table_head

-- a head behind others
abbrev pub IsBehind : List Head → KeptHead → List Head → Type 0
IsBehind before h l = l ≡ before ++ (table_head h ∷ [])

-- all heads are those of a list
abbrev pub AreHeads : List KeptHead → Unit {0} → List Head → Type 0
AreHeads heads u l = l ≡ table_heads heads

-- the heads that are stored, with one stored behind them
pub heads_more : (l : List KeptHead) (i : ℕ) (h : KeptHead) → i < length l → table_heads (take i l) ++ (table_head h ∷ []) ≡ table_heads (take (i + 1) (set l i h))
heads_more l i h e = sym (ap table_heads (take_more_set l i h e) ∙ map-append table_head (take i l) (h ∷ []))

-- a slot by its stored head
pub stored_slot : (l : List KeptHead) (i : ℕ) → let h = get_or l i (record { present = 0; max_tid = 0 }) in profile_tier_level h.present h.max_tid ≡ ptl_slot (table_heads l) i tt
unfolding ptl_slot
stored_slot l i = ap (λ (h : Head). profile_tier_level h.present_flag h.max_tid) (sym (get_or-map table_head l i (record { present = 0; max_tid = 0 })))

-- the slots by the heads of a list
pub slots_as : (l : List KeptHead) {x : List Head} {n : ℕ} → x ≡ table_heads l → length l ≡ n → loop (ptl_slot (table_heads l)) (length l) 0 tt ≡ loop (ptl_slot x) n 0 tt
slots_as l e n = ap₂ (λ (y : List Head) (k : ℕ). loop (ptl_slot y) k 0 tt) (sym e) n
