-- Eight bytes are a field of 64 bits.
use Rattle.std.proofs.Common.{rules, ◌≡◌, ◌≤◌, ◌∙◌, length}
use Rattle.bit_fields.proofs.Steps.{eight, eight_bytes}
use Rattle.bit_fields.proofs.window.Goals as goal

pub returns : goal.returns
returns c =
    let p : c.from_be_bytes.result ≡ eight c.args.bytes.now = search rules in
    let l : 8 ≤ length c.args.bytes.now = search rules in
    (l, p ∙ eight_bytes c.args.bytes.now (λ k. (c.type_inv.bytes k).fits))
