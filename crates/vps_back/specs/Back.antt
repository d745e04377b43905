-- The way back: a unit is read, its record written, and the bytes compared with the unit's.
use Prim.Native.Nat.{ℕ, ◌≤◌}
use Rattle.std.specs.Prelude.{◌≡◌, Bool, replicate, Result, Ok, Err}
use Rattle.std.proofs.Math.Path.{refl, sym, ap}
use Rattle.std.proofs.Common.{◌∙◌, arith}
use mathlib.Core.List.{List, ◌++◌}
use Rattle.std.proofs.Math.Bool.{true, false, cond}
use borrow.Author.Tests.{leb-true, le-leb}
use Rattle.std.proofs.Math.Dec.{leb}
use Rattle.std.proofs.Math.ListN.{length, take, drop}
use Rattle.std.proofs.Math.Seq.{take-append_seam}
use Rattle.refusals.specs.Answer.{Answer}
use Rattle.refusals.specs.Answer.Answer.{success, refusal}
use Rattle.refusals.specs.Number.{output_too_short}
use Rattle.refusals.specs.Lent.{lent, output_after}
use Rattle.lists.specs.Same.{same}
use Rattle.vps_definition.specs.Writing.{write_record}
use Rattle.vps_reader.specs.Parse.{Parse, parse_number, parse_unit}
use Rattle.vps_reader.specs.Parse.Parse.{accepted, too_short, refused}
use Rattle.vps_reader.specs.Answers.{refusal_of, parsed_answer, Gives}
use Rattle.refusals.specs.declared.refusal.Refusal.{Refusal}
use Rattle.refusals.specs.Refusals.{number_of}
use Rattle.vps_reader.specs.declared.parsed.Parsed.{Parsed}
use Rattle.vps_reader.specs.declared.parsed.NotParsed.{NotParsed}
use Rattle.vps_reader.specs.declared.parsed.NotParsed.TheVariants as Not
use Rattle.vps_writer.specs.Write.{written_answer, write_of, output_of, Writes}
use Rattle.vps_back.specs.declared.Back as Code
use Rattle.vps_back.specs.declared.NotBack.{NotBack}
use Rattle.vps_back.specs.declared.NotBack.TheVariants.{NotRead, NotWritten}

-- what is said of a unit
pub data Back : Type 0 where
  -- the reader's refusal
  not_read : (number : ℕ) → Back
  -- the writer's refusal
  not_written : (number : ℕ) → Back
  -- so many bytes were written; they are the unit's, or not
  returned : (count : ℕ) → (same : Bool) → Back

abbrev pub said : Result Code.Back NotBack → Back
said (Ok b) = returned b.count b.same
said (Err (NotRead e)) = not_read (number_of (refusal_of e))
said (Err (NotWritten e)) = not_written (number_of e)

-- of a record's bytes, with an output of 6,146 bytes
unfoldable pub written_back : (unit : List ℕ) → Answer (List ℕ) → Back
written_back u (success v) = cond (leb (length v) 6146) (returned (length v) (same v u)) (not_written output_too_short)
written_back u (refusal n) = not_written n

-- of the reader's answer, and what the record then holds
unfoldable pub read_back : (unit : List ℕ) → Parse → (lent : List ℕ) → Back
read_back u (accepted n bits) lent = written_back u (write_record (take n lent))
read_back u (too_short needed) lent = not_read (parse_number (too_short needed))
read_back u (refused n) lent = not_read (parse_number (refused n))

-- of a unit, with a work buffer of 4,096 bytes and a record of 8,192 numbers
unfoldable pub back : (unit : List ℕ) → Back
back u = read_back u (parse_unit u (replicate 4096 0) (replicate 8192 0)).answer (parse_unit u (replicate 4096 0) (replicate 8192 0)).vps_record

-- ── The writer's answer ───────────────────────────────────────────────
not_both : {A : Type 0} {n k : ℕ} → ◌≡◌ {A = Answer ℕ} (success n) (refusal k) → A
not_both e = absurd (let n : ◌≡◌ {A = ℕ} 0 1 = cc in omega arith)

module _ (u r out : List ℕ) (room : length out ≡ 6146) {x : Result ℕ Refusal} {out' : List ℕ} (W : Writes r out x out') where
  -- what was written
  record Bytes (n : ℕ) : Type 0 where
    bytes : List ℕ
    is : write_record r ≡ success bytes
    count : n ≡ length bytes
    fits : length bytes ≤ 6146
    stands : out' ≡ bytes ++ drop (length bytes) out

  bytes_of : {n : ℕ} → x ≡ Ok n → Bytes n
  unfolding write_of output_of lent output_after
  bytes_of {n} e = go (write_record r) refl (sym (ap written_answer e) ∙ W.answered) W.left
    where
      go : (y : Answer (List ℕ)) → write_record r ≡ y → success n ≡ write_of out y → out' ≡ output_of out y → Bytes n
      go (refusal k) f a l = not_both a
      go (success b) f a l = fit (leb (length b) (length out)) refl a l
        where
          fit : (h : Bool) → leb (length b) (length out) ≡ h → success n ≡ cond h (success (length b)) (refusal output_too_short) → out' ≡ cond h (b ++ drop (length b) out) out → Bytes n
          fit false g a l = not_both a
          fit true g a l = record { bytes = b; is = f; count = cc; fits = omega (arith, leb-true (length b) (length out) g, room); stands = l }

  pub back_inside : {n : ℕ} → x ≡ Ok n → n ≤ 6146
  back_inside e = let B = bytes_of e in omega (arith, B.count, B.fits)

  pub back_done : {n : ℕ} {b : Bool} → x ≡ Ok n → b ≡ same (take n out') u → returned n b ≡ written_back u (write_record r)
  unfolding written_back
  back_done {n} {b} e s =
      let B = bytes_of e in
      let v : List ℕ = B.bytes in
      let t : take n out' ≡ v = (λ i. take (B.count i) (B.stands i)) ∙ take-append_seam v (drop (length v) out) in
      let q : returned n b ≡ returned (length v) (same v u) = λ i. returned (B.count i) ((s ∙ ap (λ (l : List ℕ). same l u) t) i) in
      rw (B.is, le-leb (length v) 6146 B.fits) q

  pub back_refused : {k : Refusal} → x ≡ Err k → not_written (number_of k) ≡ written_back u (write_record r)
  unfolding write_of lent written_back
  back_refused {k} e = go (write_record r) (sym (ap written_answer e) ∙ W.answered)
    where
      n : ℕ
      n = number_of k

      go : (y : Answer (List ℕ)) → refusal n ≡ write_of out y → not_written n ≡ written_back u y
      go (refusal k) a = let q : n ≡ k = cc in ap not_written q
      go (success b) a = fit (leb (length b) (length out)) refl a
        where
          fit : (h : Bool) → leb (length b) (length out) ≡ h → refusal n ≡ cond h (success (length b)) (refusal output_too_short) → not_written n ≡ written_back u (success b)
          fit true g a = not_both (sym a)
          fit false g a =
              let q : n ≡ output_too_short = cc in
              let m : leb (length b) 6146 ≡ false = ap (leb (length b)) (sym room) ∙ g in
              ap not_written q ∙ sym (ap (λ (c : Bool). cond c (returned (length b) (same b u)) (not_written output_too_short)) m)

-- ── The reader's answer ───────────────────────────────────────────────
module _ (u : List ℕ) {x : Result Parsed NotParsed} {work lent' : List ℕ} (G : Gives (parse_unit u (replicate 4096 0) (replicate 8192 0)) x work lent') where
  read_as : {y : Result Parsed NotParsed} → x ≡ y → read_back u (parsed_answer y) lent' ≡ back u
  unfolding back
  read_as e = ap (λ (a : Result Parsed NotParsed). read_back u (parsed_answer a) lent') (sym e) ∙ (λ i. read_back u (G.answered i) (G.left i))

  pub back_accepted : {p : Parsed} {y : Back} {r : List ℕ} → x ≡ Ok p → r ≡ take p.numbers lent' → y ≡ written_back u (write_record r) → y ≡ back u
  unfolding read_back
  back_accepted e f w = w ∙ ap (λ (l : List ℕ). written_back u (write_record l)) f ∙ read_as e

  pub back_not_read : (n : NotParsed) → x ≡ Err n → not_read (number_of (refusal_of n)) ≡ back u
  unfolding read_back
  back_not_read (Not.RecordTooShort needed) e = read_as e
  back_not_read (Not.Refused k) e = read_as e
