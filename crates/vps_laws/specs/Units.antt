-- Units: what an accepted one is, and that what is written reads back.
use Rattle.std.specs.Prelude.{ℕ, ◌+◌, ◌*◌, ◌/◌, ◌%◌, ◌≤◌, ◌<◌, ◌≡◌, refl, List, [], ◌∷◌, ◌++◌, Bool, true, false, leb, eqb, length, get_or, drop}
use Rattle.std.proofs.Common.{sym, ◌∙◌, subst, append_assoc, arith, leb-true, eqb-true, le-leb, eq-eqb, lit<, length-append}
use Rattle.std.proofs.Math.Path.{ap}
use Rattle.refusals.specs.Answer.{Answer}
use Rattle.refusals.specs.Answer.Answer.{success, refusal}
use Rattle.lists.specs.Table.{and_both}
use Rattle.lists.specs.Same.{same, same_true}
use Rattle.stuffing.specs.Stuffing.{unstuff, stuff}
use Rattle.stuffing.specs.Laws.{unstuff_stuff}
use Rattle.bits.specs.Bits.{to_boundary}
use Rattle.bits.specs.Reading.{trailing_at}
use Rattle.bits.specs.Writing.{trailing_bits}
use Rattle.bits.specs.FieldLaws.{BitsAt, bits_left, bits_right}
use Rattle.bits.specs.ByteLaws.{AllBits, all_join, all_zeros, pack_bits, pack_length}
use Rattle.bits.specs.TrailingLaws.{boundary, Trails, trails, trailing_read, trailing_stands, trailing_length}
use Rattle.vps_definition.specs.Rules.{Rules}
use Rattle.vps_definition.specs.Syntax.{Token, Outcome, run, Written, emit}
use Rattle.vps_definition.specs.Syntax.Outcome.{accepted, refused}
use Rattle.vps_definition.specs.Syntax.Written.{wrote, bad}
use Rattle.vps_definition.specs.Vps.{vps_under}
use Rattle.vps_definition.specs.Record.{record_of}
use Rattle.vps_definition.specs.Reading.{Reading, bits_at, extension_bits, ended, closed, read_rbsp_under, most_rbsp_bytes, limited_by, vps_nut, unit_by, read_unit_under}
use Rattle.vps_definition.specs.Reading.Reading.{accepts, refuses}
use Rattle.vps_definition.specs.Writing.{extension_good, extension_of, rbsp_of, unit_of, limited, parts_good, finished, write_record_under}
use Rattle.vps_laws.specs.Extension.{bits_at_stand, good_bits, extension_stands}

-- ── What an accepted unit is ──────────────────────────────────────────
pub not_accepts : {A : Type 0} {k n : ℕ} {r : List ℕ} → refuses k ≡ accepts r n → A
not_accepts e = absurd (let n : ◌≡◌ {A = ℕ} 0 1 = cc in omega arith)

guard_accepts : (c : Bool) (k : ℕ) (R : Reading) {r : List ℕ} {n : ℕ} → elim c as (λ d. Reading) [ true ↦ R | false ↦ refuses k ] ≡ accepts r n → (c ≡ true) × (R ≡ accepts r n)
guard_accepts true k R e = (refl, e)
guard_accepts false k R e = not_accepts e

-- an RBSP that is read, part by part
pub record Parts (rules : Rules) (s r : List ℕ) (n : ℕ) : Type 0 where
  pub general : List ℕ
  pub tokens : List Token
  pub behind : ℕ
  pub reads : run (vps_under rules) s 0 ≡ accepted general tokens behind
  pub is : r ≡ record_of general tokens (bits_at s behind (extension_bits (get_or general 8 0) s behind))
  pub ends : Trails s (behind + extension_bits (get_or general 8 0) s behind) n

pub rbsp_parts : (rules : Rules) (s r : List ℕ) (n : ℕ) → read_rbsp_under rules s ≡ accepts r n → Parts rules s r n
unfolding read_rbsp_under closed
rbsp_parts rules s r n e = go (run (vps_under rules) s 0) refl e
  where
    end : (x : List ℕ) (at : ℕ) (A : Answer ℕ) → trailing_at s at ≡ A → ended x A ≡ accepts r n → (r ≡ x) × Trails s at n
    end x at (success m) f g =
        unfold ended in
        let i : m ≡ n = cc in
        let j : x ≡ r = cc in
        (sym j, trails s at n (f ∙ ap {B = Answer ℕ} success i))
    end x at (refusal k) f g = unfold ended in not_accepts g

    go : (R : Outcome (List ℕ)) → run (vps_under rules) s 0 ≡ R → closed s R ≡ accepts r n → Parts rules s r n
    go (refused k t) f g = not_accepts g
    go (accepted general t at) f g =
        let E = end (record_of general t (bits_at s at (extension_bits (get_or general 8 0) s at))) (at + extension_bits (get_or general 8 0) s at) _ refl g in
        record { general = general; tokens = t; behind = at; reads = f; is = E.0; ends = E.1 }

pub parts_rbsp : (rules : Rules) (s r : List ℕ) (n : ℕ) → Parts rules s r n → read_rbsp_under rules s ≡ accepts r n
unfolding read_rbsp_under closed ended
parts_rbsp rules s r n P =
    ap (closed s) P.reads
    ∙ ap (ended (record_of P.general P.tokens (bits_at s P.behind (extension_bits (get_or P.general 8 0) s P.behind)))) (trailing_read s _ n P.ends)
    ∙ ap (λ (l : List ℕ). accepts l n) (sym P.is)

-- a unit: two bytes of header, and an RBSP within the limit
pub record Accepted (rules : Rules) (u r : List ℕ) (n : ℕ) : Type 0 where
  pub first : ℕ
  pub second : ℕ
  pub payload : List ℕ
  pub bytes : u ≡ first ∷ second ∷ payload
  pub type : second / 8 ≡ vps_nut
  pub short : length (unstuff payload) ≤ most_rbsp_bytes
  pub reads : read_rbsp_under rules (unstuff payload) ≡ accepts r n

pub unit_accepted : (rules : Rules) (u r : List ℕ) (n : ℕ) → read_unit_under rules u ≡ accepts r n → Accepted rules u r n
unfolding unit_by limited_by
unit_accepted rules [] r n e = not_accepts e
unit_accepted rules (a ∷ []) r n e = not_accepts e
unit_accepted rules (a ∷ b ∷ s) r n e =
    let c = guard_accepts (eqb (b / 8) vps_nut) _ _ e in
    let d = guard_accepts (leb (length (unstuff s)) most_rbsp_bytes) _ _ c.1 in
    record { first = a; second = b; payload = s; bytes = refl; type = eqb-true (b / 8) vps_nut c.0; short = leb-true (length (unstuff s)) most_rbsp_bytes d.0; reads = d.1 }

pub accepted_unit : (rules : Rules) (a b : ℕ) (s r : List ℕ) (n : ℕ) → b / 8 ≡ vps_nut → length (unstuff s) ≤ most_rbsp_bytes → read_rbsp_under rules (unstuff s) ≡ accepts r n → read_unit_under rules (a ∷ b ∷ s) ≡ accepts r n
unfolding unit_by limited_by
accepted_unit rules a b s r n h l e = rw (eq-eqb (b / 8) vps_nut h, unit_by) (rw (le-leb (length (unstuff s)) most_rbsp_bytes l, limited_by) e)

-- ── What is written reads back ────────────────────────────────────────
-- the bits of an RBSP, and how many bytes they are
pub record Packed (b e : List ℕ) : Type 0 where
  pub stands : BitsAt (rbsp_of b e) 0 ((b ++ e) ++ trailing_bits (length (b ++ e)))
  pub size : 8 * length (rbsp_of b e) ≡ length b + length e + 1 + to_boundary (length b + length e + 1)

-- how many bits they are with the trailing bits
whole_bytes : (b e : List ℕ) → length ((b ++ e) ++ trailing_bits (length (b ++ e))) ≡ length (b ++ e) + 1 + to_boundary (length (b ++ e) + 1)
whole_bytes b e = let d : ℕ = length (b ++ e) in let m = trailing_length d in omega (arith, length-append (b ++ e) (trailing_bits d))

pub rbsp_size : (b e : List ℕ) → 8 * length (rbsp_of b e) ≡ length b + length e + 1 + to_boundary (length b + length e + 1)
unfolding rbsp_of
rbsp_size b e =
    let d : ℕ = length (b ++ e) in
    let o = whole_bytes b e in
    pack_length ((b ++ e) ++ trailing_bits d) (ap (λ (n : ℕ). n % 8) o ∙ boundary (d + 1)) ∙ o ∙ ap (λ (n : ℕ). n + 1 + to_boundary (n + 1)) (length-append b e)

pub packed : (b e : List ℕ) → AllBits b → AllBits e → Packed b e
unfolding rbsp_of
packed b e B E =
    let d : ℕ = length (b ++ e) in
    let c : List ℕ = (b ++ e) ++ trailing_bits d in
    let A : AllBits c = all_join (b ++ e) (trailing_bits d) (all_join b e B E) (lit< tt, all_zeros (to_boundary (d + 1))) in
    record { stands = pack_bits c [] A (ap (λ (n : ℕ). n % 8) (whole_bytes b e) ∙ boundary (d + 1)) 0 refl; size = rbsp_size b e }

-- an RBSP of the table's bits and the extension's is read as their record
pub read_packed : (rules : Rules) (general : List ℕ) (t : List Token) (b e : List ℕ) → AllBits b → extension_good (get_or general 8 0) e ≡ true
    → ((s : List ℕ) → BitsAt s 0 b → 0 + length b ≤ 8 * length s → run (vps_under rules) s 0 ≡ accepted general t (0 + length b))
    → read_rbsp_under rules (rbsp_of b e) ≡ accepts (record_of general t e) (8 * length (rbsp_of b e))
read_packed rules general t b e B G R =
    let E : AllBits e = good_bits (get_or general 8 0) e G in
    let P = packed b e B E in
    let s : List ℕ = rbsp_of b e in
    let d : ℕ = length (b ++ e) in
    let l : d ≡ length b + length e = length-append b e in
    let z : List ℕ = trailing_bits d in
    let k : ℕ = to_boundary (d + 1) in
    let w = P.size in
    let x : 8 * length s ≡ d + 1 + k = w ∙ ap (λ (n : ℕ). n + 1 + to_boundary (n + 1)) (sym l) in
    let H₁ : BitsAt s 0 (b ++ e) = bits_left s 0 (b ++ e) z P.stands in
    let H₂ : BitsAt s 0 b = bits_left s 0 b e H₁ in
    let H₃ : BitsAt s (0 + length b) (e ++ z) = bits_right s 0 b (e ++ z) (subst (λ (l : List ℕ). BitsAt s 0 l) (append_assoc b e z) P.stands) in
    let p : ℕ = 0 + length b in
    let m = trailing_length d in
    let o : 8 * length s ≡ p + length (e ++ z) = omega (arith, length-append e z) in
    let N : extension_bits (get_or general 8 0) s p ≡ length e = extension_stands (get_or general 8 0) s p e k H₃ G o in
    let X : bits_at s p (length e) ≡ e = bits_at_stand s p e (bits_left s p e z H₃) in
    let q : p + length e ≡ d = omega arith in
    let H₄ : BitsAt s d z = subst (λ (n : ℕ). BitsAt s n z) q (bits_right s p e z H₃) in
    let T : Trails s d (d + 1 + k) = trailing_stands s d (omega arith) H₄ in
    parts_rbsp rules s (record_of general t e) (8 * length s)
    (record {
      general = general;
      tokens = t;
      behind = p;
      reads = R s H₂ (omega arith);
      is = ap (record_of general t) (sym X ∙ ap (bits_at s p) (sym N));
      ends = subst (λ (n : ℕ). Trails s n (8 * length s)) (sym q ∙ ap (λ (n : ℕ). p + n) (sym N)) (subst (λ (n : ℕ). Trails s d n) (sym x) T);
    })

-- the payload of a unit is its RBSP again
pub payload_of : (rbsp : List ℕ) → unstuff (drop 2 (unit_of rbsp)) ≡ rbsp
unfolding unit_of
payload_of rbsp = unstuff_stuff rbsp

pub unit_reads : (rules : Rules) (rbsp r : List ℕ) (n : ℕ) → length rbsp ≤ most_rbsp_bytes → read_rbsp_under rules rbsp ≡ accepts r n → read_unit_under rules (unit_of rbsp) ≡ accepts r n
unfolding unit_of
unit_reads rules rbsp r n l e =
    let f : unstuff (stuff rbsp) ≡ rbsp = unstuff_stuff rbsp in
    accepted_unit rules 0 113 (stuff rbsp) r n refl (rw f l) (rw f e)

-- ── What is written ───────────────────────────────────────────────────
not_success : {A : Type 0} {n : ℕ} {u : List ℕ} → refusal n ≡ success u → A
not_success e = absurd (let n : ◌≡◌ {A = ℕ} 0 1 = cc in omega arith)

guard_success : (c : Bool) (n : ℕ) (A : Answer (List ℕ)) {u : List ℕ} → elim c as (λ d. Answer (List ℕ)) [ true ↦ A | false ↦ refusal n ] ≡ success u → (c ≡ true) × (A ≡ success u)
guard_success true n A e = (refl, e)
guard_success false n A e = not_success e

-- a record that is written, part by part
pub record Made (rules : Rules) (r u : List ℕ) : Type 0 where
  pub general : List ℕ
  pub tokens : List Token
  pub rest : List ℕ
  pub bits : List ℕ
  pub emits : emit (vps_under rules) r (drop 9 r) 0 ≡ wrote general tokens rest bits
  pub is : record_of general tokens (extension_of rest) ≡ r
  pub extension : extension_good (get_or general 8 0) (extension_of rest) ≡ true
  pub short : length (rbsp_of bits (extension_of rest)) ≤ most_rbsp_bytes
  pub unit : u ≡ unit_of (rbsp_of bits (extension_of rest))

pub written_made : (rules : Rules) (r u : List ℕ) → write_record_under rules r ≡ success u → Made rules r u
unfolding write_record_under finished limited parts_good
written_made rules r u e = go (emit (vps_under rules) r (drop 9 r) 0) refl e
  where
    go : (W : Written (List ℕ)) → emit (vps_under rules) r (drop 9 r) 0 ≡ W → finished r W ≡ success u → Made rules r u
    go bad f h = not_success h
    go (wrote general t x b) f h =
        let y : List ℕ = extension_of x in
        let G = guard_success (parts_good general t y r) _ _ h in
        let K = guard_success (leb (length (rbsp_of b y)) most_rbsp_bytes) _ _ G.1 in
        let P = and_both (same (record_of general t y) r) _ G.0 in
        record {
          general = general;
          tokens = t;
          rest = x;
          bits = b;
          emits = f;
          is = same_true (record_of general t y) r P.0;
          extension = P.1;
          short = leb-true (length (rbsp_of b y)) most_rbsp_bytes K.0;
          unit = (let i : unit_of (rbsp_of b y) ≡ u = same_bytes K.1 in sym i);
        }
      where
        same_bytes : {x y : List ℕ} → success x ≡ success y → x ≡ y
        same_bytes e = cc
