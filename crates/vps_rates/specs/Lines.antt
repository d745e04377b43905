-- The lines of the table of link figures, column by column.
use Rattle.std.specs.Prelude.{ℕ, List, ◌++◌, Option, Some, None}
use Rattle.texts.specs.Bytes.{bytes}
use Rattle.text_numbers.specs.Decimal.{decimal}
use Rattle.text_numbers.specs.Aligned.{right_aligned}
use Rattle.record_timing.specs.declared.schedule.Kind.{Kind}
use Rattle.record_timing.specs.declared.schedule.Kind.TheVariants.{Nal, Vcl}

-- what each line begins with
unfoldable pub place_columns : (entry sublayer : ℕ) → List ℕ
place_columns e j = right_aligned 5 (decimal e) ++ right_aligned 9 (decimal j)

-- an interval in microseconds; a hyphen where it is missing
abbrev pub interval_column : Option ℕ → List ℕ
interval_column None = bytes "                    -"
interval_column (Some n) = right_aligned 21 (decimal n)

-- the list that a schedule is in, under the heading behind that of the interval
abbrev pub kind_column : Kind → List ℕ
kind_column Nal = bytes "                       NAL"
kind_column Vcl = bytes "                       VCL"

-- a schedule's index, bit rate and buffer size
unfoldable pub figure_columns : (schedule rate size : ℕ) → List ℕ
figure_columns c rate size = right_aligned 9 (decimal c) ++ right_aligned 17 (decimal rate) ++ right_aligned 17 (decimal size)

unfoldable pub sublayer_line : (entry sublayer : ℕ) → Option ℕ → List ℕ
sublayer_line e j interval = place_columns e j ++ interval_column interval ++ bytes "\n"

unfoldable pub schedule_line : (entry sublayer : ℕ) → Kind → (schedule rate size : ℕ) → List ℕ
schedule_line e j kind c rate size = place_columns e j ++ kind_column kind ++ figure_columns c rate size ++ bytes "\n"
