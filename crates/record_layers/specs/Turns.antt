-- The turns of the loops over a record's Layers section.
use Rattle.std.specs.Prelude.{ℕ, zero, suc, ◌+◌, ◌*◌, ◌-◌, ◌<◌, ◌≤◌, min, ◌≡◌, Bool, cond, length, get_or, drop, set}
use Rattle.std.proofs.Math.Path.{refl, sym, ap}
use Rattle.std.proofs.Common.{◌∙◌, subst, arith, drop-drop, drop-set-lt, get_or-drop}
use mathlib.Core.List.{List, [], ◌∷◌, ◌++◌, append_assoc}
use Rattle.std.proofs.Math.Bool.{true, false}
use Rattle.std.proofs.Math.Dec.{eqb}
use Rattle.std.proofs.Math.ListN.{get_or-append}
use Rattle.vps_definition.specs.OutputLayerSets.{with_reached, flagged, refers_by, mask_of}
use Rattle.vps_definition.specs.Layout.{firsts, flags_in, entry_length, flags_from}
use Rattle.layer_sets.specs.Masks.{bit_of, bit_at}
use Rattle.layer_sets.specs.Flags.{with_flag, held_none, bits_turn}
use Rattle.layer_sets.specs.Closed.{Closed, closed_as}
use Rattle.layer_sets.specs.References.{Referred, referred_none, referred_with}

-- ── Pairs ─────────────────────────────────────────────────────────────
pub firsts_length : (n : ℕ) (x : List ℕ) → length (firsts n x) ≡ n
unfolding firsts
firsts_length zero x = refl
firsts_length (suc n) x = ap suc (firsts_length n (drop 2 x))

firsts_more : (j : ℕ) (x : List ℕ) → firsts (suc j) x ≡ firsts j x ++ (get_or x (2 * j) 0 ∷ [])
unfolding firsts
firsts_more zero x = refl
firsts_more (suc j) x =
    let e : 2 + 2 * j ≡ 2 * suc j = omega arith in
    ap (λ (l : List ℕ). get_or x 0 0 ∷ l) (firsts_more j (drop 2 x) ∙ ap (λ (v : ℕ). firsts j (drop 2 x) ++ (v ∷ [])) (get_or-drop 2 x (2 * j) 0 ∙ ap (λ (n : ℕ). get_or x n 0) e))

-- no flag yet
pub flags_begin : (x : List ℕ) → 0 ≡ mask_of 64 (flagged (firsts 0 x))
unfolding firsts
flags_begin x = held_none.bits

-- a flag more in the mask
pub flags_turn : (x : List ℕ) (j mask : ℕ) {v mask' : ℕ} → mask ≡ mask_of 64 (flagged (firsts j x)) → v ≡ get_or x (2 * j) 0 → mask' ≡ with_flag mask v j
    → mask' ≡ mask_of 64 (flagged (firsts (j + 1) x))
flags_turn x j mask {v} {mask'} e f g =
    let n : j + 1 ≡ suc j = omega arith in
    g ∙ ap (with_flag mask v) (sym (firsts_length j x)) ∙ bits_turn (firsts j x) mask v e
    ∙ ap (λ (w : ℕ). mask_of 64 (flagged (firsts j x ++ (w ∷ [])))) f
    ∙ ap (λ (l : List ℕ). mask_of 64 (flagged l)) (sym (firsts_more j x)) ∙ ap (λ (k : ℕ). mask_of 64 (flagged (firsts k x))) (sym n)

-- ── A layer ───────────────────────────────────────────────────────────
-- whose entry comes first
module _ (x : List ℕ) (i : ℕ) where
  pub mask_dependent : eqb (get_or x 1 0) 0 ≡ true → mask_of 64 (flagged (firsts i (drop 3 x))) ≡ mask_of 64 (flagged (flags_in i x))
  unfolding flags_in
  mask_dependent e = rw e refl

  pub mask_independent : eqb (get_or x 1 0) 0 ≡ false → 0 ≡ mask_of 64 (flagged (flags_in i x))
  unfolding flags_in
  mask_independent e = rw e held_none.bits

  pub length_dependent : eqb (get_or x 1 0) 0 ≡ true → 3 + 2 * i ≡ entry_length i x
  unfolding entry_length
  length_dependent e = rw e refl

  pub length_independent : eqb (get_or x 1 0) 0 ≡ false → 3 ≡ entry_length i x
  unfolding entry_length
  length_independent e = rw e refl

pub flags_short : (i : ℕ) (x : List ℕ) → length (flags_in i x) ≤ i
unfolding flags_in
flags_short i x = go (eqb (get_or x 1 0) 0)
  where
    go : (b : Bool) → length (cond b (firsts i (drop 3 x)) []) ≤ i
    go true = omega (arith, firsts_length i (drop 3 x))
    go false = omega arith

-- ── All layers ────────────────────────────────────────────────────────
-- of n layers and so many places, how many masks are stored
abbrev pub stored : (n places : ℕ) → ℕ
stored n places = min n (min 64 places)

-- the closed masks of the first layers, as many as there are places for, and what stood behind them
pub record Stored (refs : List (List ℕ)) (n : ℕ) (before after : List ℕ) : Type 0 where
  pub masks : Closed (refers_by refs) after (stored n (length before))
  pub behind : drop (stored n (length before)) after ≡ drop (stored n (length before)) before

-- behind turn i: the masks of the layers so far, and the flags of the rest in the numbers from here on
pub record SoFar (r : List ℕ) (n i : ℕ) (x before closed : List ℕ) : Type 0 where
  pub refs : List (List ℕ)
  pub referred : Referred refs closed i
  pub rest : flags_from n 0 (drop 9 r) ≡ refs ++ flags_from (n - i) i x
  pub behind : drop i closed ≡ drop i before

pub so_far_none : (r : List ℕ) (n : ℕ) {x closed : List ℕ} → x ≡ drop 9 r → SoFar r n 0 x closed closed
so_far_none r n e = let z : n ≡ n - 0 = omega arith in record { refs = []; referred = referred_none; rest = rw e (ap (λ (k : ℕ). flags_from k 0 (drop 9 r)) z); behind = refl }

pub so_far_turn : (r : List ℕ) (n i : ℕ) {x next : List ℕ} {mask : ℕ} {before closed closed' : List ℕ} → i < n → i < 64 → i < length closed → SoFar r n i x before closed
    → mask ≡ mask_of 64 (flagged (flags_in i x)) → closed' ≡ set closed i (mask_of 64 (with_reached i (bit_at closed) (bit_of mask)))
    → next ≡ drop (entry_length i x) x → SoFar r n (i + 1) next before closed'
unfolding flags_from
so_far_turn r n i {x} {next} {before = before} {closed = closed} l u v S m c e =
    let k : n - i ≡ suc (n - (i + 1)) = omega arith in
    record {
      refs = S.refs ++ (flags_in i x ∷ []);
      referred = referred_with (flags_in i x) u v c m (flags_short i x) S.referred;
      rest =
          S.rest ∙ ap (λ (j : ℕ). S.refs ++ flags_from j i x) k
          ∙ ap (λ (y : List ℕ). S.refs ++ (flags_in i x ∷ flags_from (n - (i + 1)) (i + 1) y)) (sym e)
          ∙ sym (append_assoc S.refs (flags_in i x ∷ []) (flags_from (n - (i + 1)) (i + 1) next));
      behind =
          ap (drop (i + 1)) c ∙ drop-set-lt (i + 1) closed i _ (omega arith)
          ∙ sym (drop-drop 1 i closed) ∙ ap (drop 1) S.behind ∙ drop-drop 1 i before;
    }

-- the references of the first layers are those of all
refers_first : (refs more : List (List ℕ)) (k : ℕ) → k < length refs → (l : ℕ) → refers_by refs k l ≡ refers_by (refs ++ more) k l
refers_first refs more k u l = ap (λ (x : List ℕ). flagged x l) (sym (get_or-append refs more [] k u))

-- at the last turn, be it the last layer, the last place or the last bit of a mask
pub so_far_all : (r : List ℕ) (n i : ℕ) {x before closed : List ℕ} → i ≡ stored n (length before) → SoFar r n i x before closed → Stored (flags_from n 0 (drop 9 r)) n before closed
so_far_all r n i {before = before} {closed = closed} e S =
    let refs : List (List ℕ) = flags_from n 0 (drop 9 r) in
    let C : Closed (refers_by S.refs) closed i = S.referred.masks in
    let D : Closed (refers_by refs) closed i =
    closed_as (refers_by S.refs) (refers_by refs) closed i
    (λ k l j. refers_first S.refs _ k (omega (arith, S.referred.count)) j ∙ ap (λ (x : List (List ℕ)). refers_by x k j) (sym S.rest)) C in
    record { masks = subst (Closed (refers_by refs) closed) e D; behind = subst (λ (k : ℕ). drop k closed ≡ drop k before) e S.behind }
