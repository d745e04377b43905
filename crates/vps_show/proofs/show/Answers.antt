-- `show` meets its contract: the buffer suffices for the text of every input.
use Rattle.std.proofs.Common.{take, ◌∙◌, arith}
use Rattle.std.proofs.Math.Seq.{take-append_seam}
use Rattle.texts.specs.Adds.{puts_first}
use Rattle.vps_show.specs.Shown.{shown_input}
use Rattle.vps_show.proofs.Room.{shown_whole}
use Rattle.vps_show.proofs.show.Goals as goal

pub returns-clause-value : goal.returns-clause-value
returns-clause-value c =
    let whole = shown_whole c.args.input.now (puts_first c.show_input.ensures c.at-text.ensures.place c.at-text.ensures.bytes) (omega arith) in
    (λ i. take (whole.0 i) (whole.1 i)) ∙ take-append_seam (shown_input c.args.input.now) _

pub returns-clause-text_after : goal.returns-clause-text_after
returns-clause-text_after c = (shown_whole c.args.input.now (puts_first c.show_input.ensures c.at-text.ensures.place c.at-text.ensures.bytes) (omega arith)).1
