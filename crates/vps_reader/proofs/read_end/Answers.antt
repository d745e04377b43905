-- `read_end` meets its contract: the place is below the reader's limit.
use Rattle.std.proofs.Common.{◌≡◌, ap, refl, ◌∙◌, lt-ltb, ◌^◌, ◌<◌, ℕ, List, Err}
use Rattle.std.proofs.lemmas.Result.{err_from_is_err_and}
use Rattle.refusals.specs.Refusals.{answer_of}
use Rattle.bits.specs.Reading.{trailing_at, read_trailing}
use Rattle.vps_reader.proofs.read_end.Goals as goal

there : (s : List ℕ) (at : ℕ) → at < 2 ^ 63 → read_trailing s at ≡ trailing_at s at
unfolding read_trailing
there s at l = rw (lt-ltb at (2 ^ 63) l) refl

pub returns-in_err-read_rbsp_trailing_bits : goal.returns-in_err-read_rbsp_trailing_bits
returns-in_err-read_rbsp_trailing_bits c l =
    let p = err_from_is_err_and c.from_residual.result c.from_residual.ensures.1 in
    ap answer_of (p.1 ∙ ap Err p.2) ∙ c.in_err-read_rbsp_trailing_bits.ensures.said ∙ there c.args.reader.now.bytes.now c.args.reader.now.bit_pos l

pub returns : goal.returns
returns c l = c.in_ok-read_rbsp_trailing_bits.ensures.said ∙ there c.args.reader.now.bytes.now c.args.reader.now.bit_pos l
