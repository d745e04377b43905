-- Tables in a row in another grouping, and loops by their last turn.
use Rattle.std.specs.Prelude.{ℕ, zero, suc, ◌+◌, ◌-◌, ◌≤◌, ◌≡◌, refl}
use Rattle.std.proofs.Common.{sym, ap, ◌∙◌, add-zero, zero-add, add-one, arith}
use Rattle.vps_definition.specs.Syntax.{Syntax, ◌>>=◌}
use Rattle.vps_definition.specs.Syntax.Syntax.{field, code, late, keep, mark, align, test, refuse, done}
use Rattle.vps_definition.specs.Words.{loop}

pub bind_assoc : {A B C : Type 0} (m : Syntax A) (f : A → Syntax B) (g : B → Syntax C) → (m >>= f) >>= g ≡ m >>= (λ a. f a >>= g)
unfolding ◌>>=◌
bind_assoc (field w plus k) f g = ap (field w plus) (λ i v. bind_assoc (k v) f g i)
bind_assoc (code plus k) f g = ap (code plus) (λ i v. bind_assoc (k v) f g i)
bind_assoc (late w find k) f g = ap (late w find) (λ i v. bind_assoc (k v) f g i)
bind_assoc (keep v m) f g = ap (keep v) (bind_assoc m f g)
bind_assoc (mark m) f g = ap mark (bind_assoc m f g)
bind_assoc (align q m) f g = ap (align q) (bind_assoc m f g)
bind_assoc (test b m n) f g = λ i. test b (bind_assoc m f g i) (bind_assoc n f g i)
bind_assoc (refuse q) f g = refl
bind_assoc (done a) f g = refl

pub bind_unit : {A : Type 0} (m : Syntax A) → m >>= done ≡ m
unfolding ◌>>=◌
bind_unit (field w plus k) = ap (field w plus) (λ i v. bind_unit (k v) i)
bind_unit (code plus k) = ap (code plus) (λ i v. bind_unit (k v) i)
bind_unit (late w find k) = ap (late w find) (λ i v. bind_unit (k v) i)
bind_unit (keep v m) = ap (keep v) (bind_unit m)
bind_unit (mark m) = ap mark (bind_unit m)
bind_unit (align q m) = ap (align q) (bind_unit m)
bind_unit (test b m n) = λ i. test b (bind_unit m i) (bind_unit n i)
bind_unit (refuse q) = refl
bind_unit (done a) = refl

-- a loop is its first turns, and then its last
pub loop_last : {A : Type 0} (f : ℕ → A → Syntax A) (n i : ℕ) (x : A) → loop f (suc n) i x ≡ loop f n i x >>= f (i + n)
unfolding loop ◌>>=◌
loop_last f zero i x = bind_unit (f i x) ∙ ap (λ (k : ℕ). f k x) (sym (add-zero i))
loop_last f (suc n) i x =
    let e : i + 1 + n ≡ i + suc n = omega arith in
    (λ j. f i x >>= λ y. loop_last f n (i + 1) y j)
    ∙ sym (bind_assoc (f i x) (loop f n (i + 1)) (f (i + 1 + n)))
    ∙ ap (λ (k : ℕ). (f i x >>= loop f n (i + 1)) >>= f k) e

-- one turn more
pub loop_turn : {A : Type 0} (f : ℕ → A → Syntax A) (i : ℕ) (x : A) → loop f i 0 x >>= f i ≡ loop f (i + 1) 0 x
loop_turn f i x = sym (ap (λ (k : ℕ). loop f k 0 x) (add-one i) ∙ loop_last f i 0 x ∙ ap (λ (k : ℕ). loop f i 0 x >>= f k) (zero-add i))

loop_more : {A : Type 0} (f : ℕ → A → Syntax A) (k i : ℕ) (x : A) → (g : A → Syntax A) × (loop f (i + k) 0 x ≡ loop f i 0 x >>= g)
loop_more f zero i x = (done, ap (λ (n : ℕ). loop f n 0 x) (add-zero i) ∙ sym (bind_unit (loop f i 0 x)))
loop_more f (suc k) i x =
    let R = loop_more f k i x in
    let e : i + suc k ≡ suc (i + k) = omega arith in (
      (λ y. R.0 y >>= f (0 + (i + k))),
      ap (λ (n : ℕ). loop f n 0 x) e ∙ loop_last f (i + k) 0 x ∙ ap (λ (m : Syntax _). m >>= f (0 + (i + k))) R.1 ∙ bind_assoc (loop f i 0 x) R.0 (f (0 + (i + k))),
    )

-- a loop is any number of its first turns, and then its others
pub loop_rest : {A : Type 0} (f : ℕ → A → Syntax A) (n i : ℕ) (x : A) → i ≤ n → (g : A → Syntax A) × (loop f i 0 x >>= g ≡ loop f n 0 x)
loop_rest f n i x l =
    let R = loop_more f (n - i) i x in
    let e : i + (n - i) ≡ n = omega arith in
    (R.0, sym R.1 ∙ ap (λ (k : ℕ). loop f k 0 x) e)
