-- What the first pass over an RBSP finds: a refusal, or all that the second pass needs to fill a record.
use Rattle.std.specs.Prelude.{ℕ, ◌+◌, ◌-◌, ◌≤◌, ◌<◌, ◌*◌, ◌^◌, ◌≡◌, refl, List, Bool, true, false, eqb, length, get_or, Result, Ok, Err}
use Rattle.std.proofs.Common.{sym, ◌∙◌, arith, le-leb}
use Rattle.std.proofs.Math.Path.{ap}
use Rattle.std.proofs.lemmas.Bool.{lt-leb}
use Rattle.std.proofs.lemmas.List.Edits.{sets}
use Rattle.refusals.specs.Answer.Answer.{success, refusal}
use Rattle.refusals.specs.Number.{rbsp_too_long}
use Rattle.bits.specs.Reading.{trailing_at}
use Rattle.bits.specs.TrailingLaws.{trails, trails_inside}
use Rattle.vps_definition.specs.Rules.{today}
use Rattle.vps_definition.specs.Syntax.{numbers, starts}
use Rattle.vps_definition.specs.Record.{record_of}
use Rattle.vps_definition.specs.Reading.{bits_at, data_bits, extension_bits, ended, closed, read_rbsp_under, read_rbsp, limited_by, read_limited, most_rbsp_bytes}
use Rattle.vps_definition.specs.Reading.Reading.{accepts, refuses}
use Rattle.vps_laws.specs.Extension.{bits_at_length, data_most}
use Rattle.vps_laws.specs.Bound.{record_numbers, tokens_length}
use Rattle.vps_laws.proofs.Bound.{record_by_bits}
use Rattle.vps_laws.specs.Marks.{starts_length, starts_most}
use Rattle.vps_laws.proofs.Laid.{record_seven}
use Rattle.vps_laws.proofs.Accepted.{general_read}
use Rattle.read_bounds.proofs.Bounds.{vps_room}
use Rattle.read_vps.specs.declared.Table as Code
use Rattle.read_vps.specs.Table.{Table, Refusing}
use Rattle.vps_reader.specs.declared.Measured.{Measured}
use Rattle.refusals.specs.declared.refusal.Refusal.{Refusal}
use Rattle.refusals.specs.Refusals.{number_of}

-- vps_extension_flag, the last number of General
abbrev pub extension_flag : Code.Table → ℕ
extension_flag w = get_or w.whole.general 8 0

-- and behind it the extension, and the trailing bits
pub record Found (s : List ℕ) (w : Code.Table) (count bits : ℕ) : Type 0 where
  pub short : length s ≤ most_rbsp_bytes
  pub table : Table s w
  pub extension : count ≡ extension_bits (extension_flag w) s w.at
  pub ends : trailing_at s (w.at + count) ≡ success bits

-- and the table's numbers stand in the lent list, as far as it reaches
pub record Kept (s lent lent' : List ℕ) (w : Code.Table) (count bits : ℕ) : Type 0 where
  pub found : Found s w count bits
  pub stored : lent' ≡ sets lent 9 (numbers found.table.kept)

abbrev pub Measures : List ℕ → List ℕ → List ℕ → Result Measured Refusal → Type 0
Measures s lent lent' (Ok m) = Kept s lent lent' m.table m.count m.bits
Measures s lent lent' (Err e) = read_limited s ≡ refuses (number_of e)

-- the table is refused
pub table_refused : {s lent lent' : List ℕ} {e : Refusal} → Refusing s lent e lent' → read_rbsp s ≡ refuses (number_of e)
unfolding read_rbsp_under closed
table_refused {s} R = ap (closed s) R.is

-- ── What follows ──────────────────────────────────────────────────────
pub limited_short : (s : List ℕ) → length s ≤ most_rbsp_bytes → read_limited s ≡ read_rbsp s
unfolding limited_by
limited_short s l = rw (le-leb (length s) most_rbsp_bytes l, limited_by) refl

pub limited_long : (s : List ℕ) → most_rbsp_bytes < length s → read_limited s ≡ refuses rbsp_too_long
unfolding limited_by
limited_long s l = rw (lt-leb (length s) most_rbsp_bytes l, limited_by) refl

pub extension_most : (flag : ℕ) (s : List ℕ) (at : ℕ) → extension_bits flag s at ≤ 8 * length s
unfolding extension_bits
extension_most flag s at = go (eqb flag 0)
  where
    go : (b : Bool) → elim b [ true ↦ 0 | false ↦ data_bits s at (8 * length s - at) ] ≤ 8 * length s
    go true = omega arith
    go false = omega (arith, data_most s at (8 * length s - at))

-- the place behind the extension
pub end_near : {s : List ℕ} {w : Code.Table} {count : ℕ} → length s ≤ most_rbsp_bytes → Table s w → count ≡ extension_bits (extension_flag w) s w.at → w.at + count < 2 ^ 63
end_near {s} {w} l T e = omega (arith, l, e, (vps_room s T.is).near, extension_most (extension_flag w) s w.at)

-- how a reading of the table ends
pub ended_by : {s : List ℕ} {w : Code.Table} {count : ℕ} (T : Table s w) → count ≡ extension_bits (extension_flag w) s w.at
    → read_rbsp s ≡ ended (record_of w.whole.general T.kept (bits_at s w.at count)) (trailing_at s (w.at + count))
unfolding read_rbsp_under closed
ended_by {s} {w} T e =
    ap (closed s) T.is
    ∙ ap (λ (n : ℕ). ended (record_of w.whole.general T.kept (bits_at s w.at n)) (trailing_at s (w.at + n))) (sym e)

pub ended_refused : {s : List ℕ} {w : Code.Table} {count n : ℕ} → Table s w → count ≡ extension_bits (extension_flag w) s w.at → trailing_at s (w.at + count) ≡ refusal n → read_rbsp s ≡ refuses n
unfolding ended
ended_refused T e r = ended_by T e ∙ ap (ended _) r

-- the record that is found
abbrev pub record_in : {s : List ℕ} {w : Code.Table} {count bits : ℕ} → Found s w count bits → List ℕ
record_in {s} {w} {count} F = record_of w.whole.general F.table.kept (bits_at s w.at count)

pub found_accepts : {s : List ℕ} {w : Code.Table} {count bits : ℕ} (F : Found s w count bits) → read_limited s ≡ accepts (record_in F) bits
unfolding ended
found_accepts {s} F = limited_short s F.short ∙ ended_by F.table F.extension ∙ ap (ended _) F.ends

-- ── How long it is ────────────────────────────────────────────────────
-- the General section has nine numbers, and there are seven starts
pub nine : {s : List ℕ} {w : Code.Table} → Table s w → length w.whole.general ≡ 9
nine {s} {w} T = (general_read today s w.whole.general T.kept w.at T.is).nine

pub seven : {s : List ℕ} {w : Code.Table} (T : Table s w) → length (starts 9 T.kept) ≡ 7
seven {s} {w} T = starts_length 9 T.kept ∙ record_seven today s w.whole.general T.kept w.at T.is

pub found_length : {s : List ℕ} {w : Code.Table} {count bits : ℕ} (F : Found s w count bits) → length (record_in F) ≡ w.n + count + 9
found_length {s} {w} {count} F =
    let t = F.table.kept in
    omega (arith, record_numbers w.whole.general t (bits_at s w.at count), tokens_length 9 t, F.table.count, bits_at_length s w.at count, nine F.table, seven F.table)

-- the stop bit is inside
pub found_inside : {s : List ℕ} {w : Code.Table} {count bits : ℕ} → Found s w count bits → w.at + count < 8 * most_rbsp_bytes
found_inside {s} {w} {count} {bits} F = omega (arith, (trails s (w.at + count) bits F.ends).inside, F.short)

-- all of its numbers are below 2 ^ 32
pub found_most : {s : List ℕ} {w : Code.Table} {count bits : ℕ} → Found s w count bits → w.n + count + 9 < 2 ^ 32
found_most {s} {w} {count} {bits} F =
    let r = record_by_bits today s (record_in F) bits (sym (limited_short s F.short) ∙ found_accepts F) in
    let i = trails_inside s (w.at + count) bits (trails s (w.at + count) bits F.ends) in
    omega (arith, found_length F, r, i, F.short)

-- so are the starts
pub found_starts : {s : List ℕ} {w : Code.Table} {count bits : ℕ} → Found s w count bits → (k : ℕ) → get_or w.whole.starts k 0 < 2 ^ 32
found_starts F k = omega (arith, ap (λ (l : List ℕ). get_or l k 0) F.table.sections, starts_most 9 F.table.kept k, F.table.count, found_most F)
