-- What vps-rates prints, computed: of the units of samples/ with timing, without, damaged, and with id 0.
use Rattle.std.specs.Prelude.{ℕ, ◌≡◌, refl, List, [], ◌∷◌, ◌++◌}
use Rattle.texts.specs.Bytes.{bytes}
use Rattle.text_numbers.specs.Decimal.{decimal_in}
use Rattle.text_numbers.specs.Aligned.{right_aligned}
use Rattle.sentences.specs.Refused.{refused_text}
use Rattle.vps_definition.specs.Open.{opened}
use Rattle.record_timing.specs.Timing.{schedule_count, has_timing, lacks}
use Rattle.link_figures.specs.Figures.{bit_rate_of, cpb_size_of, microseconds_of, interval_of, rate_at, size_at, interval_at}
use Rattle.vps_rates.specs.Lines.{place_columns, figure_columns, sublayer_line, schedule_line}
use Rattle.vps_rates.specs.Printed.{heading, texts, schedule_text, schedules_text, sublayer_text, entry_text, table_text, without_table, record_text, reading_text, rates_text}

-- every definition that a text is computed by
unfoldable printed : Unit {0}
unfolding opened bytes decimal_in right_aligned refused_text schedule_count has_timing lacks bit_rate_of cpb_size_of microseconds_of interval_of rate_at size_at interval_at place_columns figure_columns sublayer_line schedule_line heading texts schedule_text schedules_text sublayer_text entry_text table_text without_table record_text reading_text rates_text
printed = tt

-- one sublayer without a fixed rate, and two NAL schedules
timing : rates_text (0 ∷ 0x71 ∷ 0x10 ∷ 0x40 ∷ 0 ∷ 0x48 ∷ 0 ∷ 2 ∷ 0x33 ∷ 0 ∷ 0 ∷ 0xfc ∷ 0xc0 ∷ 0 ∷ 0 ∷ 0xfa ∷ 0x40 ∷ 0 ∷ 0x3a ∷ 0x98 ∷ 0x20 ∷ 1 ∷ 0x42 ∷ 0x16 ∷ 0x52 ∷ 0xd0 ∷ [])
    ≡ bytes "entry sublayer         microseconds kind schedule            bit/s             bits\n"
    ++ bytes "    0        0                    -\n"
    ++ bytes "    0        0                       NAL        0              256               80\n"
    ++ bytes "    0        0                       NAL        1              320               80\n"
unfolding printed
timing = refl

one_layer : rates_text (0 ∷ 0x71 ∷ 0x10 ∷ 0 ∷ 0 ∷ 3 ∷ 2 ∷ 0x33 ∷ 0 ∷ 0 ∷ 0x40 ∷ []) ≡ bytes "no timing\n"
unfolding printed
one_layer = refl

damaged : rates_text (0 ∷ 0x71 ∷ 0x10 ∷ 0x80 ∷ 0 ∷ 0x48 ∷ 0x42 ∷ 0 ∷ 0 ∷ 3 ∷ 2 ∷ 0x33 ∷ 0x40 ∷ 0 ∷ 0x95 ∷ 0xc0 ∷ 0x0f ∷ 2 ∷ 0 ∷ 0x43 ∷ 0x95 ∷ 0x80 ∷ 0x1e ∷ 4 ∷ []) ≡ bytes "refused 35\n"
unfolding printed
damaged = refl

id_zero : rates_text (0 ∷ 0x71 ∷ 0 ∷ 0 ∷ 3 ∷ 0 ∷ 2 ∷ 0x33 ∷ 0 ∷ 0 ∷ 0x40 ∷ []) ≡ bytes "refused 34\n"
unfolding printed
id_zero = refl
