-- Texts written one after the other, and what is left of some items that are gone through.
use Rattle.std.specs.Prelude.{ℕ, ◌+◌, ◌-◌, ◌≤◌, ◌<◌, ◌≡◌, List, [], ◌++◌, ltb, is_some, IfSome, Option, Some, None, Result, Ok, Err, OnOk}
use Rattle.std.proofs.Common.{sym, ap, ◌∙◌, arith, subst, append-nil, append_assoc, add-one, ltb-true, ltb-false}
use Rattle.std.specs.Io.KnownBytes.{Appends}
use Rattle.vps_rates.specs.Printed.{texts}

-- ── What a writer holds ───────────────────────────────────────────────
pub appends_none : (a : Option (List ℕ)) → Appends a a []
appends_none None = tt
appends_none (Some xs) = sym (append-nil xs)

pub appends_then : (a b c : Option (List ℕ)) (x y : List ℕ) → Appends a b x → Appends b c y → Appends a c (x ++ y)
appends_then None b c x y p q = tt
appends_then (Some xs) None c x y p q = absurd p
appends_then (Some xs) (Some ys) None x y p q = absurd q
appends_then (Some xs) (Some ys) (Some zs) x y p q = q ∙ ap (λ (l : List ℕ). l ++ y) p ∙ append_assoc xs x y

-- what follows where a call succeeds
pub on_ok : {A E : Type 0} (r : Result A E) {P Q : Type 0} → (P → Q) → OnOk r P → OnOk r Q
on_ok (Ok a) f p = f p
on_ok (Err e) f p = tt

pub appends_same : (a b : Option (List ℕ)) {x y : List ℕ} → x ≡ y → Appends a b x → Appends a b y
appends_same a b e p = subst (λ (l : List ℕ). Appends a b l) e p

-- ── Items, one after the other ────────────────────────────────────────
module _ {A : Type 0} (Is : ℕ → A → Type 0) (count : ℕ) where
  -- behind n items the next one is left, and nothing behind the last one
  abbrev pub Left : ℕ → Option A → Type 0
  Left n None = n ≡ count
  Left n (Some a) = (n < count) × Is n a

  pub left_of : (n : ℕ) (rest : Option A) → n ≤ count → is_some rest ≡ ltb n count → IfSome rest (Is n) → Left n rest
  left_of n None h e i = omega (arith, h, ltb-false n count (sym e))
  left_of n (Some a) h e i = (ltb-true n count (sym e), i)

  -- so many of their texts are written
  pub record Written (text : ℕ → List ℕ) (a b : Option (List ℕ)) (rest : Option A) : Type 0 where
    pub behind : ℕ
    pub left : Left behind rest
    pub wrote : Appends a b (texts text behind)

  module _ (text : ℕ → List ℕ) (a : Option (List ℕ)) where
    pub written_begin : (rest : Option A) → is_some rest ≡ ltb 0 count → IfSome rest (Is 0) → Written text a a rest
    unfolding texts
    written_begin rest e i = record { behind = 0; left = left_of 0 rest (omega arith) e i; wrote = appends_none a }

    pub written_end : (b : Option (List ℕ)) (rest : Option A) → rest ≡ None → Written text a b rest → Appends a b (texts text count)
    written_end b rest e W = appends_same a b (ap (texts text) (subst (λ (x : Option A). Left W.behind x) e W.left)) W.wrote

    module _ (b c : Option (List ℕ)) (rest : Option A) (item : A) (is : rest ≡ Some item) (W : Written text a b rest) where
      here : Left W.behind (Some item)
      here = subst (λ (x : Option A). Left W.behind x) is W.left

      -- the item that is left is the next one
      pub item_is : Is W.behind item
      item_is = here.1

      pub item_below : W.behind < count
      item_below = here.0

      pub written_more : (rest' : Option A) → Appends b c (text W.behind) → is_some rest' ≡ ltb (W.behind + 1) count → IfSome rest' (Is (W.behind + 1)) → Written text a c rest'
      unfolding texts
      written_more rest' p e i = record {
        behind = W.behind + 1;
        left = left_of (W.behind + 1) rest' (omega (arith, here.0)) e i;
        wrote = appends_same a c (ap (texts text) (sym (add-one W.behind))) (appends_then a b c (texts text W.behind) (text W.behind) W.wrote p);
      }

-- how many items are left, by the index of the next one
abbrev pub still : {A : Type 0} → (A → ℕ) → (count : ℕ) → Option A → ℕ
still index count None = 0
still index count (Some a) = count - index a

pub still_less : {A : Type 0} (Is : ℕ → A → Type 0) (index : A → ℕ) → ((n : ℕ) (a : A) → Is n a → index a ≡ n) → (count n : ℕ) (item : A) (rest : Option A) → Is n item → n < count → IfSome rest (Is (n + 1))
    → still index count rest < count - index item
still_less Is index at count n item None i l j = omega (arith, l, at n item i)
still_less Is index at count n item (Some a) i l j = omega (arith, l, at n item i, at (n + 1) a j)
