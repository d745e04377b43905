-- A record's end, looked at from where the table's numbers end: what it must be for the parts to make up the record.
use Prim.Native.Nat.{ℕ, ◌+◌}
use Rattle.std.specs.Prelude.{◌≡◌, true}
use Rattle.std.proofs.Math.Path.{refl, sym, ap}
use Rattle.std.proofs.Common.{◌∙◌, arith, drop-drop}
use mathlib.Core.List.{List, [], ◌∷◌, ◌++◌}
use Rattle.std.proofs.Math.ListN.{length, get_or, take, drop, length-append, length-drop, take-append-drop}
use Rattle.std.proofs.Math.Seq.{length-take-le, drop-cons, take_at, drop_at, drop-append_seam}
use Rattle.lists.specs.Table.{and_both}
use Rattle.lists.specs.Same.{same, same_true, same_refl}
use Rattle.vps_definition.specs.Syntax.{Token, numbers, starts}
use Rattle.vps_definition.specs.Record.{body_of, record_of}
use Rattle.vps_definition.specs.Writing.{extension_good, extension_of, parts_good}
use Rattle.vps_laws.specs.Accepted.{closing, record_parts}

-- the table has taken the record's numbers up to number c
pub record Taken (r g : List ℕ) (t : List Token) (c : ℕ) : Type 0 where
  pub nine : length g ≡ 9
  pub place : c ≡ 9 + length (numbers t)
  pub numbered : drop 9 r ≡ numbers t ++ drop c r
  pub seven : length (starts 9 t) ≡ 7

-- the numbers of the trailer
abbrev pub trailer_of : List ℕ → List Token → List ℕ
trailer_of r t = starts 9 t ++ (length r ∷ [])

-- how many extension bits the record says it has
abbrev pub count_in : List ℕ → ℕ → ℕ
count_in r c = get_or (drop c r) 0 0

-- what the record must be
pub record Passed (r g : List ℕ) (t : List Token) (c : ℕ) : Type 0 where
  pub total : c + count_in r c + 9 ≡ length r
  pub general : take 9 r ≡ g
  pub trailer : drop (1 + count_in r c) (drop c r) ≡ trailer_of r t
  pub extension : extension_good (get_or g 8 0) (extension_of (drop c r)) ≡ true

module _ {r g : List ℕ} {t : List Token} {c : ℕ} (T : Taken r g t c) where
  body_length : (e : List ℕ) → length (body_of g t e) ≡ c + 1 + length e
  unfolding body_of
  body_length e = omega (arith, T.nine, T.place, length-append g (numbers t), length-append (g ++ numbers t) (length e ∷ e))

  closing_length : (e : List ℕ) → length (closing g t e) ≡ length e + 9
  closing_length e =
      let z : List ℕ = (length (body_of g t e) + 8) ∷ [] in
      omega (arith, T.seven, length-append (length e ∷ e) (starts 9 t ++ z), length-append (starts 9 t) z)

  -- the parts make it up
  module _ (P : Passed r g t c) where
    e : List ℕ
    e = extension_of (drop c r)

    rest_length : length (drop c r) ≡ count_in r c + 9
    rest_length = length-drop c r ∙ omega (arith, P.total)

    e_length : length e ≡ count_in r c
    unfolding e extension_of
    e_length = length-take-le (count_in r c) (drop 1 (drop c r)) (omega (arith, rest_length, length-drop 1 (drop c r)))

    closes : drop c r ≡ closing g t e
    unfolding e extension_of
    closes =
        let x : List ℕ = drop c r in
        let n : ℕ = count_in r c in
        let h : x ≡ n ∷ drop 1 x = drop-cons x 0 0 (omega (arith, rest_length)) in
        let k : drop 1 x ≡ e ++ trailer_of r t = sym (take-append-drop n (drop 1 x)) ∙ ap (λ (y : List ℕ). take n (drop 1 x) ++ y) (drop-drop n 1 x ∙ P.trailer) in
        let l : length r ≡ length (body_of g t e) + 8 = omega (arith, P.total, body_length e, e_length) in
        h ∙ (λ i. sym e_length i ∷ k i) ∙ (λ i. (length e ∷ e) ++ (starts 9 t ++ (l i ∷ [])))

    pub made_up : record_of g t (extension_of (drop c r)) ≡ r
    unfolding e
    made_up =
        record_parts g t e ∙ (λ i. sym P.general i ++ (numbers t ++ sym closes i)) ∙ ap (λ (y : List ℕ). take 9 r ++ y) (sym T.numbered) ∙ take-append-drop 9 r

    pub parts_good_lem : parts_good g t (extension_of (drop c r)) r ≡ true
    unfolding parts_good e
    parts_good_lem = rw (made_up, same_refl r, P.extension) refl

  -- and what they make up is such a record
  pub parts_passed : parts_good g t (extension_of (drop c r)) r ≡ true → Passed r g t c
  unfolding parts_good
  parts_passed h =
      let e : List ℕ = extension_of (drop c r) in
      let both = and_both (same (record_of g t e) r) (extension_good (get_or g 8 0) e) h in
      let B : r ≡ g ++ (numbers t ++ closing g t e) = sym (same_true (record_of g t e) r both.0) ∙ record_parts g t e in
      let D : numbers t ++ drop c r ≡ numbers t ++ closing g t e = sym T.numbered ∙ ap (drop 9) B ∙ drop_at g (numbers t ++ closing g t e) 9 T.nine in
      let C : drop c r ≡ closing g t e = sym (drop-append_seam (numbers t) (drop c r)) ∙ ap (drop (length (numbers t))) D ∙ drop-append_seam (numbers t) (closing g t e) in
      let n : count_in r c ≡ length e = ap (λ (x : List ℕ). get_or x 0 0) C in
      let l : length r ≡ c + length e + 9 = omega (arith, ap length B, length-append g (numbers t ++ closing g t e), length-append (numbers t) (closing g t e), T.nine, T.place, closing_length e) in
      let q : length (body_of g t e) + 8 ≡ length r = omega (arith, body_length e, l) in
      record {
        total = omega (arith, n, l);
        general = ap (take 9) B ∙ take_at g (numbers t ++ closing g t e) 9 T.nine;
        trailer = (λ i. drop (1 + n i) (C i)) ∙ drop_at (length e ∷ e) (starts 9 t ++ ((length (body_of g t e) + 8) ∷ [])) (1 + length e) (omega arith) ∙ (λ i. starts 9 t ++ (q i ∷ []));
        extension = both.1;
      }
