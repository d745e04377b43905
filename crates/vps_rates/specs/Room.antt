-- Each line has room in the buffer that it is put together in, so nothing of it is cut.
use Rattle.std.specs.Prelude.{ℕ, ◌+◌, ◌-◌, ◌≤◌, ◌≡◌, refl, List, ◌++◌, length, replicate, Option, Some, None}
use Rattle.std.proofs.Common.{arith, length-append}
use Rattle.std.proofs.lemmas.List.{length-replicate}
use Rattle.texts.specs.Bytes.{bytes}
use Rattle.text_numbers.specs.Decimal.{decimal, places_most}
use Rattle.text_numbers.specs.Aligned.{right_aligned}
use Rattle.sentences.specs.Refused.{refused_text}
use Rattle.record_timing.specs.declared.schedule.Kind.{Kind}
use Rattle.record_timing.specs.declared.schedule.Kind.TheVariants.{Nal, Vcl}
use Rattle.vps_rates.specs.Lines.{place_columns, interval_column, kind_column, figure_columns, sublayer_line, schedule_line}

column_most : (width n : ℕ) → length (right_aligned width (decimal n)) ≤ width + 20
unfolding right_aligned
column_most width n = let x : List ℕ = decimal n in omega (arith, length-append (replicate {A = ℕ} (width - length x) 32) x, length-replicate {A = ℕ} (width - length x) 32, places_most 20 n)

place_most : (e j : ℕ) → length (place_columns e j) ≤ 54
unfolding place_columns
place_most e j = omega (arith, length-append (right_aligned 5 (decimal e)) (right_aligned 9 (decimal j)), column_most 5 e, column_most 9 j)

two : (x y : List ℕ) {a b : ℕ} → length x ≤ a → length y ≤ b → length (x ++ y) ≤ a + b
two x y h g = omega (arith, length-append x y, h, g)

newline : length (bytes "\n") ≤ 1
unfolding bytes
newline = omega arith

hyphen : length (bytes "                    -") ≡ 21
unfolding bytes
hyphen = refl

nal : length (bytes "                       NAL") ≡ 26
unfolding bytes
nal = refl

vcl : length (bytes "                       VCL") ≡ 26
unfolding bytes
vcl = refl

interval_most : (interval : Option ℕ) → length (interval_column interval) ≤ 41
interval_most None = omega (arith, hyphen)
interval_most (Some n) = column_most 21 n

kind_most : (kind : Kind) → length (kind_column kind) ≤ 26
kind_most Nal = omega (arith, nal)
kind_most Vcl = omega (arith, vcl)

figures_most : (c rate size : ℕ) → length (figure_columns c rate size) ≤ 103
unfolding figure_columns
figures_most c rate size = two _ _ (two _ _ (column_most 9 c) (column_most 17 rate)) (column_most 17 size)

pub sublayer_fits : (e j : ℕ) (interval : Option ℕ) → length (sublayer_line e j interval) ≤ 192
unfolding sublayer_line
sublayer_fits e j interval = omega (arith, two _ _ (two _ _ (place_most e j) (interval_most interval)) newline)

pub schedule_fits : (e j : ℕ) (kind : Kind) (c rate size : ℕ) → length (schedule_line e j kind c rate size) ≤ 192
unfolding schedule_line
schedule_fits e j kind c rate size = omega (arith, two _ _ (two _ _ (two _ _ (place_most e j) (kind_most kind)) (figures_most c rate size)) newline)

pub refused_fits : (k : ℕ) → length (refused_text k) ≤ 29
unfolding refused_text bytes
refused_fits k = simp length-append (omega (arith, places_most 20 k))
