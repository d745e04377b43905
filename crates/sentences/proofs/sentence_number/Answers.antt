-- `sentence_number` meets its contract: the first number that has the sentence, or none has.
use Rattle.std.proofs.Common.{sym, ap, ◌∙◌, ◌≡◌, arith, rules, tests, None, Some}
use Rattle.sentences.specs.Sentences.{last_number, sentence_of, number_of}
use Rattle.sentences.specs.Laws.{InTable, opened}
use Rattle.sentences.specs.Named.{found_number, found_of}
use Rattle.sentences.proofs.Promises.{number_of_sentence, other_bytes_give_none}
use Rattle.sentences.proofs.Search.{left, first_up}
use Rattle.sentences.proofs.sentence_number.Goals as goal

pub returns-in_err-number : goal.returns-in_err-number
unfolding opened
returns-in_err-number c =
    let bytes = c.args.bytes.now in
    let all : left c.new.result ≡ last_number = λ i. left (record { start = c.new.ensures.start i; end = c.new.ensures.end i; exhausted = c.new.ensures.exhausted i }) in
    let none = first_up _ (λ n. sentence_of n ≡ bytes) (λ n. sentence_of n ≡ bytes → ⊥) (λ x q k. search (rules, tests)) (λ x q k. (search rules, search (rules, tests))) last_number c.new.result _ None (c.new.ensures.end, all) c.in_err-number.ensures.ran in
    let e : c.from_residual.result ≡ None = search rules in
    ap found_number e ∙ sym (other_bytes_give_none bytes (λ n t. none n t.first (omega (arith, t.last))))

pub returns : goal.returns
unfolding opened
returns c =
    let bytes = c.args.bytes.now in
    let all : left c.new.result ≡ last_number = λ i. left (record { start = c.new.ensures.start i; end = c.new.ensures.end i; exhausted = c.new.ensures.exhausted i }) in
    let some = first_up _ (λ n. sentence_of n ≡ bytes) (λ n. sentence_of n ≡ bytes → ⊥) (λ x q k. search (rules, tests)) (λ x q k. (search rules, search (rules, tests))) last_number c.new.result _ (Some c.in_ok-number.number) (c.new.ensures.end, all) c.in_ok-number.ensures.ran in
    let t : InTable c.in_ok-number.number = record { first = some.0; last = omega (arith, some.1) } in
    ap found_number c.ok.ensures.value ∙ found_of _ t _ c.try_from.ensures ∙ sym (number_of_sentence _ t) ∙ ap number_of some.2
