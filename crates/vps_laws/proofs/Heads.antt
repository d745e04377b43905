-- The heads of the PTL slots: coded before all slots, and kept at the front of each.
use Rattle.std.specs.Prelude.{ℕ, zero, suc, ◌+◌, ◌<◌, ◌≤◌, ◌≡◌, refl, List, [], ◌∷◌, ◌++◌, Bool, ◌⊎◌, leb, eqb, length, get_or}
use Rattle.std.proofs.Common.{sym, ap, ap₂, ◌∙◌, subst, append_assoc, append-nil, inl, inr, eq-or-lt_of_le, add-one, arith, length-append}
use Rattle.std.proofs.Math.Path.{subst⁻¹}
use Rattle.std.proofs.Math.ListN.{get_or-append}
use Rattle.refusals.specs.Number.{ptls_over_sets, ptl_alignment}
use Rattle.vps_definition.specs.Syntax.{Syntax, ◌>>=◌, Token, numbers, run, skim}
use Rattle.vps_definition.specs.Syntax.Token.{number}
use Rattle.vps_definition.specs.Syntax.Outcome.{accepted}
use Rattle.vps_definition.specs.Words.{loop}
use Rattle.vps_definition.specs.ProfileTierLevel.{profile_tier_level}
use Rattle.vps_definition.specs.Vps.{Header, Head, head, slot_at, slot_number_if, ptl_head, ptl_slot, ptl_section}
use Rattle.vps_laws.proofs.Bind.{run_bound}
use Rattle.vps_laws.specs.RoundTrip.{Coherent}
use Rattle.vps_laws.proofs.RoundTrip.{skim_run}
use Rattle.vps_laws.specs.Keeps.{Keeps, Returns, numbers_append, keeps_so, keeps_both, keeps_done, keeps_check, keeps_inferred, keeps_aligned}
use Rattle.vps_laws.proofs.Keeps.{keeps_bind, returns_bind}
use Rattle.vps_laws.specs.Coherence.{Coh, Local, local_done, local_test, local_u_minus1, local_check, local_aligned, Ahead, ahead_late, ahead_test, ahead_local, ahead_done, ahead_so}
use Rattle.vps_laws.proofs.Coherence.{local_bind, local_inferred, local_loop, ahead_bind, silent_bind}
use Rattle.vps_laws.proofs.Tables.{local_profile_tier_level}
use Rattle.vps_laws.specs.Heads.{Heading, head_at, head_last, Behind, From, anything, slots}

-- ── The heads ─────────────────────────────────────────────────────────
ahead_slot_number : (b : Bool) (i j w v : ℕ) → Ahead (λ r x a. get_or (slot_at i r x) j 0 ≡ a) (slot_number_if b i j w v)
unfolding slot_number_if
ahead_slot_number b i j w v = ahead_test b (ahead_late (λ v. keeps_done (λ r x h. h)) (λ v. ahead_done)) ahead_done

ahead_head : (h : Header) (i : ℕ) (hs : List Head) → length hs ≡ i → Ahead (Behind i) (ptl_head h i hs)
unfolding ptl_head Behind
ahead_head h i hs e =
    ahead_bind (λ r x p. get_or (slot_at i r x) 0 0 ≡ p) (ahead_slot_number _ i 0 1 1)
    (λ p. returns_bind _ λ t. returns_bind _ λ c. keeps_done (λ r x H. H.present ∙ ap (λ (k : Head). k.present_flag) (head_last hs i (head p t) e)))
    (λ p. ahead_bind (λ r x t. get_or (slot_at i r x) 1 0 ≡ t) (ahead_slot_number _ i 1 3 _)
    (λ t. returns_bind _ λ c. keeps_done (λ r x H. H.top ∙ ap (λ (k : Head). k.max_tid) (head_last hs i (head p t) e)))
    (λ t. ahead_bind (λ r x c. Unit {0}) (ahead_local (keeps_so (keeps_check _ _) (λ a t h. h.0)) (local_check _ _)) (λ c. keeps_done (λ r x H. tt)) (λ c. ahead_done)))

head_longer : (h : Header) (i : ℕ) (hs : List Head) → Returns (λ b. (k : Head) × (b ≡ hs ++ (k ∷ []))) (ptl_head h i hs)
unfolding ptl_head
head_longer h i hs = returns_bind _ λ p. returns_bind _ λ t. returns_bind _ λ c. keeps_done (head p t, refl)

-- all heads: those before stay as they were
pub heads_longer : (h : Header) (n i : ℕ) (hs : List Head) → Returns (λ b. (l : List Head) × (b ≡ hs ++ l) × (length l ≡ n)) (loop (ptl_head h) n i hs)
unfolding loop
heads_longer h zero i hs = keeps_done ([], sym (append-nil hs), refl)
heads_longer h (suc n) i hs =
    keeps_bind (head_longer h i hs)
    (λ k t e. keeps_so (heads_longer h n (i + 1) k)
    (λ b u f. (e.0 ∷ f.0, f.1 ∙ ap (λ (l : List Head). l ++ f.0) e.1 ∙ append_assoc hs (e.0 ∷ []) f.0, ap suc f.2)))

heads_length : (h : Header) (n : ℕ) → Returns (λ b. length b ≡ n) (loop (ptl_head h) n 0 [])
heads_length h n = keeps_so (heads_longer h n 0 []) (λ b t f. ap length f.1 ∙ f.2)

-- as `ahead-bind`, where the first result is known to be such as S says
ahead_bind_so : {A B : Type 0} {P : List ℕ → List ℕ → B → Type 0} (S : A → Type 0) (Q : List ℕ → List ℕ → A → Type 0) {m : Syntax A} {f : A → Syntax B}
    → Returns S m → Ahead Q m → ((a : A) → S a → Returns (λ b. (r x : List ℕ) → P r x b → Q r x a) (f a)) → ((a : A) → S a → Ahead P (f a)) → Ahead P (m >>= f)
ahead_bind_so S Q {m} {f} R M N F = record {
  silent = keeps_bind (keeps_both M.silent R) (λ a x e. keeps_so (F a e.1).silent (λ b y h. ap (λ (l : List Token). l ++ y) e.0 ∙ h));
  there = λ s at r x e h.
      let B = run_bound m f s at e in
      let k = R.holds s at B.first in
      silent_bind m f s at r x B.first (M.silent.holds s at B.first)
      (M.there s at r x B.first ((N B.result k).holds s B.middle B.second r x h))
      ((F B.result k).there s B.middle r x B.second h);
}

pub ahead_heads : (h : Header) (n i : ℕ) (hs : List Head) → length hs ≡ i → Ahead (From i) (loop (ptl_head h) n i hs)
unfolding loop From Behind
ahead_heads h zero i hs e = ahead_done
ahead_heads h (suc n) i hs e =
    ahead_bind_so (λ k. length k ≡ i + 1) (Behind i)
    (keeps_so (head_longer h i hs) (λ k t f. ap length f.1 ∙ length-append hs (f.0 ∷ []) ∙ ap (λ (m : ℕ). m + 1) e))
    (ahead_head h i hs e)
    (λ k l. keeps_so (heads_longer h n (i + 1) k) (λ b t f r x H. first k b f.0 f.1 l r x H))
    (λ k l. ahead_so (ahead_heads h n (i + 1) k l) (record { holds = λ s at e r x H j m. H j (omega arith) }))
  where
    first : (k b l : List Head) → b ≡ k ++ l → length k ≡ i + 1 → (r x : List ℕ) → ((j : ℕ) → i ≤ j → j < length b → Heading r x j (head_at b j)) → Heading r x i (head_at k i)
    first k b l f g r x H =
        let m : length b ≡ length k + length l = ap length f ∙ length-append k l in
        subst (Heading r x i) (ap (λ (z : List Head). head_at z i) f ∙ get_or-append k l (head 0 0) i (omega arith)) (H i (omega arith) (omega arith))

-- a slot begins with its head
pub slot_begins : (p q : ℕ) → Keeps (λ a t. (u : List Token) × (t ≡ number p ∷ number q ∷ u)) (profile_tier_level p q)
unfolding profile_tier_level
slot_begins p q =
    keeps_bind (keeps_inferred p) (λ a x h. keeps_bind (keeps_inferred q) (λ b y k. keeps_so anything (λ c z l. front a b x y z h.0 h.1 k.0 k.1)))
  where
    front : (a b : ℕ) (x y z : List Token) → x ≡ number a ∷ [] → a ≡ p → y ≡ number b ∷ [] → b ≡ q → (u : List Token) × (x ++ (y ++ z) ≡ number p ∷ number q ∷ u)
    front a b x y z h i j k = (z, simp (h, i, j, k))

-- the slots from the i-th on begin with their heads
slots_placed : (heads : List Head) (n i : ℕ) (o : Unit {0}) (s : List ℕ) (at : ℕ) {a : Unit {0}} {t : List Token} {next : ℕ} → run (loop (ptl_slot heads) n i o) s at ≡ accepted a t next
    → (r x y : List ℕ) → slot_at i r x ≡ numbers t ++ y → (j : ℕ) → i ≤ j → j < i + n → Heading r x j (head_at heads j)
unfolding loop ptl_slot numbers slot_at
slots_placed heads zero i o s at e r x y w j l m = absurd (omega arith)
slots_placed heads (suc n) i o s at {t = t} e r x y w j l m =
    let k : Head = head_at heads i in
    let B = run_bound (profile_tier_level k.present_flag k.max_tid) (loop (ptl_slot heads) n (i + 1)) s at e in
    let z : List ℕ = numbers B.behind ++ y in
    let q : slot_at i r x ≡ numbers B.before ++ z = w ∙ ap (λ (l : List Token). numbers l ++ y) B.both ∙ ap (λ (l : List ℕ). l ++ y) (numbers_append B.before B.behind) ∙ append_assoc (numbers B.before) (numbers B.behind) y in
    let H : Heading r x i k = here k B.before z q ((slot_begins k.present_flag k.max_tid).holds s at B.first) in
    let c = (local_profile_tier_level k.present_flag k.max_tid).coh s at r z B.first tt in
    let v : slot_at (i + 1) r x ≡ z = behind k z (numbers B.before) q H (skim_run (profile_tier_level k.present_flag k.max_tid) s at r z B.first c) in
    choose (eq-or-lt_of_le l) H (λ l. slots_placed heads n (i + 1) B.result s B.middle B.second r x y v j l (omega arith))
  where
    here : (k : Head) (u : List Token) (z : List ℕ) → slot_at i r x ≡ numbers u ++ z → (v : List Token) × (u ≡ number k.present_flag ∷ number k.max_tid ∷ v) → Heading r x i k
    here k u z q b = record { present = ap (λ (l : List ℕ). get_or l 0 0) (q ∙ ap (λ (l : List Token). numbers l ++ z) b.1); top = ap (λ (l : List ℕ). get_or l 1 0) (q ∙ ap (λ (l : List Token). numbers l ++ z) b.1) }

    behind : (k : Head) (z u : List ℕ) → slot_at i r x ≡ u ++ z → Heading r x i k → skim (profile_tier_level k.present_flag k.max_tid) r (u ++ z) ≡ z → slot_at (i + 1) r x ≡ z
    behind k z u q H e =
        ap (λ (n : ℕ). slot_at n r x) (add-one i)
        ∙ ap₂ (λ (a b : ℕ). skim (profile_tier_level a b) r (slot_at i r x)) H.present H.top
        ∙ ap (skim (profile_tier_level k.present_flag k.max_tid) r) q ∙ e

    choose : (i ≡ j) ⊎ (i < j) → Heading r x i (head_at heads i) → (i + 1 ≤ j → Heading r x j (head_at heads j)) → Heading r x j (head_at heads j)
    choose (inl e) H F = subst (λ (n : ℕ). Heading r x n (head_at heads n)) e H
    choose (inr l) H F = F (omega arith)

slots_keep : (heads : List Head) (count : ℕ) → length heads ≡ count → Keeps (λ b t. (r y : List ℕ) → From 0 r (numbers t ++ y) heads) (slots heads count)
unfolding slots From slot_at
slots_keep heads count e =
    keeps_bind (keeps_aligned ptl_alignment) (λ z x h. keeps_bind all (λ o t f. keeps_done (λ r y j l m. behind x t [] r y j h (f r (numbers [] ++ y)) (omega arith))))
  where
    all : Keeps (λ a t. (r y : List ℕ) (j : ℕ) → j < count → Heading r (numbers t ++ y) j (head_at heads j)) (loop (ptl_slot heads) count 0 tt)
    all = record { holds = λ s at e r y j m. slots_placed heads count 0 tt s at e r _ y refl j (omega arith) (omega arith) }

    behind : (x t u : List Token) (r y : List ℕ) (j : ℕ) → x ≡ [] → ((j : ℕ) → j < count → Heading r (numbers t ++ (numbers u ++ y)) j (head_at heads j)) → j < count → Heading r (numbers (x ++ (t ++ u)) ++ y) j (head_at heads j)
    behind x t u r y j h f m =
        let q : numbers (x ++ (t ++ u)) ++ y ≡ numbers t ++ (numbers u ++ y) = ap (λ (l : List Token). numbers (l ++ (t ++ u)) ++ y) h ∙ ap (λ (l : List ℕ). l ++ y) (numbers_append t u) ∙ append_assoc (numbers t) (numbers u) y in
        subst⁻¹ (λ (l : List ℕ). Heading r l j (head_at heads j)) q (f j m)

local_slots : (heads : List Head) (count : ℕ) → Local (slots heads count)
unfolding slots ptl_slot
local_slots heads count = local_bind (local_aligned ptl_alignment) (λ z. local_bind (local_loop count 0 tt (λ i x. local_profile_tier_level _ _)) (λ s. local_done))

-- as `coh-ahead`, where the first result is known to be such as S says
coh_ahead_so : {A B : Type 0} {P : List ℕ → List ℕ → A → Type 0} {Q : List ℕ → B → Type 0} (S : A → Type 0) {m : Syntax A} {f : A → Syntax B}
    → Returns S m → Ahead P m → ((a : A) → S a → Keeps (λ b t. (r y : List ℕ) → P r (numbers t ++ y) a) (f a)) → ((a : A) → Coh Q (f a)) → Coh Q (m >>= f)
coh_ahead_so S {m} {f} R M K F = record {
  coh = λ s at r y e h.
      let B = run_bound m f s at e in
      let n = M.silent.holds s at B.first in
      let x : List ℕ = numbers B.behind ++ y in
      let c : Coherent (m >>= f) s at r x =
      silent_bind m f s at r x B.first n (M.there s at r x B.first ((K B.result (R.holds s at B.first)).holds s B.middle B.second r y)) ((F B.result).coh s B.middle r y B.second h) in
      subst⁻¹ (λ (l : List Token). Coherent (m >>= f) s at r (numbers l ++ y)) (B.both ∙ ap (λ (l : List Token). l ++ B.behind) n) c;
}

pub local_ptl_section : (h : Header) (total : ℕ) → Local (ptl_section h total)
unfolding ptl_section slots
local_ptl_section h total =
    local_bind (local_test (eqb h.layers 1) (local_inferred 1) (local_u_minus1 8))
    (λ count. local_bind (local_check (leb count total) ptls_over_sets)
    (λ c. coh_ahead_so (λ heads. length heads ≡ count) (heads_length h count) (ahead_heads h count 0 [] refl) (λ heads e. slots_keep heads count e) (λ heads. local_slots heads count)))
