-- The words that tables are written with.
use Rattle.std.specs.Prelude.{ℕ, zero, suc, ◌+◌, List, [], ◌∷◌, Bool, true, false, eqb, get_or}
use Rattle.vps_definition.specs.Syntax.{Syntax, ◌>>=◌}
use Rattle.vps_definition.specs.Syntax.Syntax.{field, code, late, keep, align, test, refuse, done}

-- u(w), kept as it is; and kept with one added, of a field that the standard calls minus1
unfoldable pub u : ℕ → Syntax ℕ
u w = field w 0 done

unfoldable pub u_minus1 : ℕ → Syntax ℕ
u_minus1 w = field w 1 done

-- ue(v), likewise
unfoldable pub ue : Syntax ℕ
ue = code 0 done

unfoldable pub ue_minus1 : Syntax ℕ
ue_minus1 = code 1 done

-- a number of the record that is inferred or worked out
unfoldable pub inferred : ℕ → Syntax ℕ
inferred v = keep v (done v)

-- coded where the condition holds, else inferred as v
unfoldable pub u_if : Bool → ℕ → ℕ → Syntax ℕ
u_if b w v = test b (u w) (inferred v)

unfoldable pub ue_if : Bool → ℕ → Syntax ℕ
ue_if b v = test b ue (inferred v)

-- number i of the General section: u(w) where the condition holds, else v
unfoldable pub general : (i w : ℕ) → Syntax ℕ
general i w = late w (λ r x. get_or r i 0) done

unfoldable pub general_if : Bool → (i w v : ℕ) → Syntax ℕ
general_if b i w v = test b (general i w) (done v)

-- refused with n unless the condition holds
unfoldable pub check : Bool → ℕ → Syntax (Unit {0})
check b n = test b (done tt) (refuse n)

-- a table; where a rule is in force, behind the rule's check
unfoldable pub ruled : {A : Type 0} → (rule condition : Bool) → ℕ → Syntax A → Syntax A
ruled true b n m = check b n >>= λ c. m
ruled false b n m = m

-- nothing
unfoldable pub nothing : Syntax (Unit {0})
nothing = done tt

-- the table where a flag is 1
unfoldable pub when : ℕ → Syntax (Unit {0}) → Syntax (Unit {0})
when flag m = test (eqb flag 0) nothing m

-- the bits to the byte boundary
unfoldable pub aligned : ℕ → Syntax (Unit {0})
aligned n = align n nothing

-- numbers of the record that were coded before
unfoldable pub keeps : List ℕ → Syntax (Unit {0})
keeps [] = nothing
keeps (v ∷ x) = keep v (keeps x)

-- n turns of a body, the first with index i and state x; the last state
unfoldable pub loop : {A : Type 0} → (ℕ → A → Syntax A) → ℕ → ℕ → A → Syntax A
loop body zero i x = done x
loop body (suc n) i x = body i x >>= loop body n (i + 1)

-- n times the same
unfoldable pub repeat : ℕ → Syntax (Unit {0}) → Syntax (Unit {0})
repeat n m = loop (λ i x. m) n 0 tt

-- the sum of flags: how many are 1
unfoldable pub sum : List ℕ → ℕ
sum [] = 0
sum (v ∷ x) = v + sum x
