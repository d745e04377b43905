-- What vps-page prints for a unit: its layer page, or `refused` and the number.
use Rattle.std.specs.Prelude.{ℕ, List}
use Rattle.refusals.specs.Answer.{Answer}
use Rattle.refusals.specs.Answer.Answer.{success, refusal}
use Rattle.sentences.specs.Refused.{refused_text}
use Rattle.vps_definition.specs.Reading.{Reading, read_unit}
use Rattle.vps_definition.specs.Reading.Reading.{accepts, refuses}
use Rattle.layer_page.specs.Page.{page_of}

-- of a reading, which knows no buffers
unfoldable pub reading_page : Reading → Answer (List ℕ)
reading_page (accepts r n) = success (page_of r)
reading_page (refuses k) = refusal k

unfoldable pub unit_page : (unit : List ℕ) → Answer (List ℕ)
unit_page u = reading_page (read_unit u)

unfoldable pub printed : Answer (List ℕ) → List ℕ
printed (success page) = page
printed (refusal k) = refused_text k

unfoldable pub page_text : (unit : List ℕ) → List ℕ
page_text u = printed (unit_page u)
