-- `put_kind` meets its contract, kind by kind.
use Rattle.std.proofs.Common.{sym, ap}
use Rattle.texts.specs.Adds.{adds_same}
use Rattle.texts.specs.Bytes.{bytes}
use Rattle.vps_rates.specs.Lines.{kind_column}
use Rattle.vps_rates.proofs.lines.put_kind.Goals as goal

pub returns-in-Nal : goal.returns-in-Nal
unfolding bytes
returns-in-Nal c = adds_same (sym (ap kind_column c.in-Nal.is)) c.put.ensures

pub returns-in-Vcl : goal.returns-in-Vcl
unfolding bytes
returns-in-Vcl c = adds_same (sym (ap kind_column c.in-Vcl.is)) c.put-in-Vcl.ensures
