-- What a writing ends in: its result and the record's rest, where those can be said beforehand.
use Rattle.std.specs.Prelude.{ℕ, ◌+◌, ◌^◌, ◌≡◌, refl, List, [], Bool, true, false, cond, ltb, length}
use Rattle.std.proofs.Common.{sym, ◌∙◌, subst}
use Rattle.bits.specs.Bits.{bits_of}
use Rattle.vps_definition.specs.Syntax.{Syntax, ◌>>=◌, Token, Written, putting, emit, skim}
use Rattle.vps_definition.specs.Syntax.Syntax.{late, test, done}
use Rattle.vps_definition.specs.Syntax.Written.{wrote, bad}
use Rattle.vps_definition.specs.Words.{check}
use Rattle.vps_laws.specs.Bind.{then_write, emit_bind}
use Rattle.vps_laws.specs.Inversion.{not_wrote, guard_wrote, putting_wrote, Writes, emit_writes}
use Rattle.vps_laws.specs.Inversion.Writes.{write_field, write_code, write_late, write_keep, write_mark, write_align, write_first, write_second, write_done}

-- ── Looking past what was written ─────────────────────────────────────
writes_skim : {A : Type 0} {m : Syntax A} {r x : List ℕ} {at : ℕ} {a : A} {t : List Token} {y b : List ℕ} → Writes m r x at a t y b → skim m r x ≡ y
unfolding skim
writes_skim (write_field l f W) = writes_skim W
writes_skim (write_code l f W) = writes_skim W
writes_skim (write_late f W) = writes_skim W
writes_skim (write_keep W) = writes_skim W
writes_skim (write_mark W) = writes_skim W
writes_skim (write_align W) = writes_skim W
writes_skim (write_first W) = writes_skim W
writes_skim (write_second W) = writes_skim W
writes_skim write_done = refl

-- the record's rest behind a writing is where `skim` goes
pub emit_skim : {A : Type 0} {a : A} {t : List Token} {y b : List ℕ} (m : Syntax A) (r x : List ℕ) (at : ℕ) → emit m r x at ≡ wrote a t y b → skim m r x ≡ y
emit_skim m r x at e = writes_skim (emit_writes m r x at e)

-- ── Results ───────────────────────────────────────────────────────────
-- each writing of the table from there ends in the result a, with the record's rest as it was
pub record Ends {A : Type 0} (m : Syntax A) (r x : List ℕ) (a : A) : Type 0 where
  pub ends : {b : A} {t : List Token} {y c : List ℕ} (at : ℕ) → emit m r x at ≡ wrote b t y c → (b ≡ a) × (y ≡ x)

pub ends_done : {A : Type 0} {a : A} {r x : List ℕ} → Ends (done a) r x a
unfolding emit
ends_done {A} {a} {r} {x} = record { ends = λ at e. same e }
  where
    same : {b : A} {t : List Token} {y c : List ℕ} → wrote a [] x [] ≡ wrote b t y c → (b ≡ a) × (y ≡ x)
    same e = (cc, cc)

pub ends_late : {A : Type 0} {w : ℕ} {find : List ℕ → List ℕ → ℕ} {k : ℕ → Syntax A} {r x : List ℕ} {a : A} → Ends (k (find r x)) r x a → Ends (late w find k) r x a
unfolding emit
ends_late {w = w} {find = find} {k = k} {r = r} {x = x} E = record {
  ends = λ at e.
      let v : ℕ = find r x in
      E.ends (at + w) (putting_wrote [] (bits_of w v) (emit (k v) r x (at + w)) (guard_wrote (ltb v (2 ^ w)) (putting [] (bits_of w v) (emit (k v) r x (at + w))) e).1).inner;
}

pub ends_test : {A : Type 0} (b : Bool) {m n : Syntax A} {r x : List ℕ} {a c : A} → Ends m r x a → Ends n r x c → Ends (test b m n) r x (cond b a c)
unfolding emit
ends_test true M N = record { ends = λ at e. M.ends at e }
ends_test false M N = record { ends = λ at e. N.ends at e }

pub ends_check : (b : Bool) (n : ℕ) {r x : List ℕ} → Ends (check b n) r x tt
unfolding check emit
ends_check true n {r} {x} = record { ends = λ at e. let D : Ends (done tt) r x tt = ends_done in D.ends at e }
ends_check false n = record { ends = λ at e. not_wrote e }

pub ends_then : {A B : Type 0} (m : Syntax A) (f : A → Syntax B) {r x : List ℕ} {a : A} {b : B} → Ends m r x a → Ends (f a) r x b → Ends (m >>= f) r x b
unfolding then_write
ends_then {A} {B} m f {r} {x} {a} {b} M N = record { ends = λ at e. go at (emit m r x at) refl (sym (emit_bind m f r x at) ∙ e) }
  where
    there : {d : A} {y : List ℕ} {c : B} {t : List Token} {z o : List ℕ} (at : ℕ) → (d ≡ a) × (y ≡ x) → emit (f d) r y at ≡ wrote c t z o → (c ≡ b) × (z ≡ x)
    there {d} {y} {c} {t} {z} {o} at h e = N.ends at (subst (λ (l : List ℕ). emit (f a) r l at ≡ wrote c t z o) h.1 (subst (λ (d : A). emit (f d) r y at ≡ wrote c t z o) h.0 e))

    go : (at : ℕ) (W : Written A) → emit m r x at ≡ W → {c : B} {t : List Token} {y o : List ℕ} → then_write at W (λ a y next. emit (f a) r y next) ≡ wrote c t y o → (c ≡ b) × (y ≡ x)
    go at (wrote d t y o) i e = there (at + length o) (M.ends at i) (putting_wrote t o (emit (f d) r y (at + length o)) e).inner
    go at bad i e = not_wrote e
