-- What codes rest on, over plain values.
use Rattle.std.specs.Prelude.{ℕ, ◌+◌, ◌^◌, ◌<◌, ◌≡◌, List, set, Ok, Err}
use Rattle.std.proofs.Math.Path.{refl}
use Rattle.std.proofs.Common.{arith, lt-ltb}
use Rattle.refusals.specs.declared.refusal.Refusal.{Refusal}
use Rattle.bits.specs.Code.{Taken, code_at}
use Rattle.bits.specs.Code.Taken.{taken}
use Rattle.bits.specs.Reading.{read_code}
use Rattle.bits.specs.CodeLaws.{code_whole}
use Rattle.vps_definition.specs.Syntax.{run}
use Rattle.vps_definition.specs.Syntax.Syntax.{code, done}
use Rattle.vps_laws.specs.Inversion.{read_code_as}
use Rattle.vps_laws.specs.Inversion.Reads.{read_done}
use Rattle.reading.specs.declared.Reading.{Reading}
use Rattle.reading.specs.Fits.{limit}
use Rattle.reading.specs.Meets.{Meets}
use Rattle.reading.specs.Steps.{Stands, Coded, pushed, meets_number, meets_refused}

-- below the limit the bit reader reads every place
pub code_said : {x : Taken} (s : List ℕ) {at : ℕ} → at < limit → read_code s at ≡ x → code_at s at ≡ x
unfolding read_code
code_said s {at} h e = rw (lt-ltb at (2 ^ 63) (omega arith)) at e

-- a code's number leaves room for one more
pub code_small : {v next : ℕ} (s : List ℕ) (at : ℕ) → code_at s at ≡ taken v next → v < 4294967295
code_small s at e = (code_whole s at _ _ e).small

-- a code that was read is the table's, and is stored with `plus` added
pub meets_code : {plus v total : ℕ} {s s₁ s₂ : Reading} → s.at < limit → Coded s (Ok v) s₁ → v + plus ≡ total → Stands s₁ s₂ s₁.at (s₁.n + 1) (set s₁.rec.now s₁.n total) → Meets ℕ (code plus done) s (Ok total) s₂
meets_code {total = total} {s = s} h C e S = meets_number (read_code_as (code_said s.bytes.now h C.0) e read_done) (pushed total C.1 S)

-- and so is its refusal
pub meets_no_code : {plus : ℕ} {s s₁ : Reading} {e : Refusal} → s.at < limit → Coded s (Err e) s₁ → Meets ℕ (code plus done) s (Err e) s₁
unfolding run
meets_no_code {s = s} h C = meets_refused (rw (code_said s.bytes.now h C.0, run) refl) C.1
